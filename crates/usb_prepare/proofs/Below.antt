-- The numbers below another, and what they are mapped to.
use Rattle.std.proofs.Common.{ℕ, zero, suc, ◌≡◌, ◌+◌, ◌<◌, [], ◌∷◌, ◌++◌, length, get_or, map, Some, refl, sym, ap, ◌∙◌, arith, length-append, add-one}
use Rattle.std.specs.Prelude.{slice_get}
use mathlib.Core.Logic.{dite}
use native.Mathlib.Decide.{ℕ_discrete}
use Rattle.std.proofs.lemmas.List.{length-map, map-append}
use Rattle.std.proofs.Math.ListN.{get_or-append}
use Rattle.std.proofs.Math.Seq.{get_or-append_seam}
use Rattle.std.proofs.lemmas.Option.{slice_get_within, get_or_from_slice_get}
use Rattle.usb_prepare.specs.Below.{below}

pub length-below : (n : ℕ) → length (below n) ≡ n
length-below zero = refl
length-below (suc n) = let a = length-below n in let b = length-append (below n) (n ∷ []) in omega arith

-- the numbers below n, mapped
module _ {X : Type 0} (f : ℕ → X) where
  pub map_below-suc : (n : ℕ) → map f (below n) ++ f n ∷ [] ≡ map f (below (n + 1))
  map_below-suc n = sym (map-append f (below n) (n ∷ [])) ∙ ap (λ k. map f (below k)) (sym (add-one n))

  pub length-map_below : (n : ℕ) → length (map f (below n)) ≡ n
  length-map_below n = length-map (below n) f ∙ length-below n

  pub get-map_below : (n k : ℕ) (d : X) → k < n → get_or (map f (below n)) k d ≡ f k
  get-map_below zero k d l = absurd (omega arith)
  get-map_below (suc n) k d l = ap (λ l. get_or l k d) (map-append f (below n) (n ∷ [])) ∙ dite (ℕ_discrete k n)
      (λ is. ap (λ j. get_or (map f (below n) ++ f n ∷ []) j d) (is ∙ sym (length-map_below n)) ∙ (get_or-append_seam (map f (below n)) (f n) [] d ∙ ap f (sym is)))
      (λ off. let near : k < length (map f (below n)) = let long = length-map_below n in omega arith in
      get_or-append (map f (below n)) (f n ∷ []) d k near ∙ get-map_below n k d (omega arith))

  pub is-map_below : (n k : ℕ) (x : X) → slice_get (map f (below n)) k ≡ Some x → x ≡ f k
  is-map_below n k x e =
      let near = slice_get_within (map f (below n)) k x e in
      let long = length-map_below n in
      sym (get_or_from_slice_get (map f (below n)) k x x e) ∙ get-map_below n k x (omega arith)
