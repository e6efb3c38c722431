-- The numbers of drivers' own transfers, by the owners of the URBs.
use Rattle.std.proofs.Common.{ℕ, zero, suc, ◌≡◌, ◌+◌, ◌<◌, ◌≤◌, cond, Option, Some, None, List, length, take, get_or, map, refl, sym, ap, ◌∙◌, arith, add-one}
use Rattle.std.specs.Prelude.{count_by, slice_get}
use Rattle.std.proofs.lemmas.List.{take_more, length-take-le}
use Rattle.std.proofs.lemmas.List.Sums.{sum_by_push, count_by-le-length}
use Rattle.usb_types.specs.declared.urb.UrbId.{UrbId}
use Rattle.usb_types.specs.declared.urb.Role.TheVariants.{Ctl}
use Rattle.usb_bind.specs.declared.bound.Bound.{Bound}
use Rattle.usb_bind.specs.Board.{urb_of_role}
use Rattle.usb_class.specs.declared.owner.Owner.{Owner}
use Rattle.usb_scene.specs.declared.scene.Scene.{Scene}
use Rattle.usb_scene.specs.WellFormed.{IsWellFormed}
use Rattle.usb_prepare.specs.Below.{below}
use Rattle.usb_prepare.specs.Prepared.{bindings_of}
use Rattle.usb_prepare.specs.Layout.{urb_count}
use Rattle.usb_prepare.proofs.Below.{length-map_below, get-map_below}
use Rattle.usb_prepare.proofs.Facts.{bound_near}
use Rattle.usb_trace.specs.Plan.{owner_of, is_numbered_by, is_numbered, number_of, number_in}
use Rattle.usb_trace.specs.NewCores.{owners_of, number_among}

-- how many numbers the first owners take
abbrev pub numbers_before : List (Option Owner) → ℕ → ℕ
numbers_before owners u = count_by is_numbered_by (take u owners)

module _ (owners : List (Option Owner)) (u : ℕ) where
  -- one owner more
  numbers_more : (d : Option Owner) → u < length owners → numbers_before owners (u + 1) ≡ numbers_before owners u + cond (is_numbered_by (get_or owners u d)) 1 0
  numbers_more d near = ap (count_by is_numbered_by) (take_more owners u d near) ∙ sum_by_push (λ o. cond (is_numbered_by o) 1 0) (take u owners) (get_or owners u d)

  pub number_next : (number more : ℕ) → u < length owners → number ≡ 2000000 + numbers_before owners u → more ≡ cond (is_numbered_by (get_or owners u None)) 1 0
      → number + more ≡ 2000000 + numbers_before owners (u + 1)
  number_next number more near is adds = let next = numbers_more None near in omega arith

  pub numbers_few : u ≤ length owners → numbers_before owners u ≤ u
  numbers_few near = let most = count_by-le-length is_numbered_by (take u owners) in let long = length-take-le u owners near in omega arith

-- the owners of a scene's URBs take those that their URBs take
numbers_below : (s : Scene) (n u : ℕ) → u ≤ n → numbers_before (map (owner_of s) (below n)) u ≡ count_by (is_numbered s) (below u)
numbers_below s n zero near = refl
numbers_below s n (suc u) near =
    let owners : List (Option Owner) = map (owner_of s) (below n) in
    let long = length-map_below (owner_of s) n in
    ap (numbers_before owners) (sym (add-one u))
    ∙ (numbers_more owners u (owner_of s u) (omega arith)
    ∙ ((λ j. numbers_below s n u (omega arith) j + cond (is_numbered_by (get-map_below (owner_of s) n u (owner_of s u) (omega arith) j)) 1 0)
    ∙ sym (sum_by_push (λ v. cond (is_numbered s v) 1 0) (below u) u)))

-- the number of a scene's URB
pub number_is : (s : Scene) (owners : List (Option Owner)) → owners ≡ owners_of s → (urb : UrbId) → urb.0 < urb_count s → number_among owners (Some urb) ≡ number_of s urb.0
number_is s owners are urb near = ap (λ n. 2000000 + n) (ap (λ l. numbers_before l urb.0) are ∙ numbers_below s (urb_count s) urb.0 (omega arith))

-- the number of a binding's question
pub question_number : (s : Scene) → IsWellFormed s → (owners : List (Option Owner)) → owners ≡ owners_of s → (k : ℕ) (b : Bound) → slice_get (bindings_of s) k ≡ Some b
    → number_among owners (urb_of_role b Ctl) ≡ number_in s (urb_of_role b Ctl)
question_number s good owners are k b at = go (urb_of_role b Ctl) refl
  where
    go : (o : Option UrbId) → urb_of_role b Ctl ≡ o → number_among owners o ≡ number_in s o
    go None has = refl
    go (Some urb) has = number_is s owners are urb (bound_near s good k b Ctl urb at has).1
