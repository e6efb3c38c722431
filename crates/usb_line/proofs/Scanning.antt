-- A look through the pending URBs, one after another.
use Rattle.std.proofs.Common.{ℕ, zero, suc, ◌≡◌, ◌+◌, ◌<◌, Bool, true, false, cond, Option, Some, None, List, [], ◌∷◌, ◌++◌, length, filter, refl, sym, ap, ◌∙◌, subst, arith, eq-eqb}
use Rattle.std.specs.Prelude.{slice_get, slice_index_or, is_some}
use mathlib.Core.Logic.{dite}
use native.Mathlib.Decide.{ℕ_discrete}
use Rattle.usb_machine.specs.declared.state.Mark.{Mark as MarkState}
use Rattle.usb_machine.specs.declared.state.Mark.TheVariants.{Clear, Unlinked, Finished}
use Rattle.usb_machine.specs.declared.entry.Entry.{Entry}
use Rattle.usb_machine.specs.declared.plain.Plain.{Plain}
use Rattle.usb_machine.specs.State.{why_of}
use Rattle.usb_machine.specs.History.{Machine, home_of, state_of, pending_of}
use Rattle.usb_machine.specs.Legal.{IsLegal, times}
use Rattle.usb_machine.specs.Plain.{urbs_of, Stands}
use Rattle.usb_machine.proofs.Rooms.{pending_is_queued, queued_has_home}
use Rattle.usb_scene.specs.declared.scene.Scene.{Scene}
use Rattle.usb_line.specs.Line.{is_unlinked, marked_below}
use Rattle.usb_machine.proofs.AtHome.{at_home}
use Rattle.usb_line.proofs.Marked.{unlinked}

-- a reason to unlink is a mark of it
pub unlinked_why : (m : MarkState) → is_some (why_of m) ≡ is_unlinked m
unlinked_why Clear = refl
unlinked_why (Unlinked why) = refl
unlinked_why (Finished code) = refl

-- what stands at a place stands in the list
pub among : (us : List ℕ) (k u : ℕ) → slice_get us k ≡ Some u → 0 < times u us
among [] k u is = cc
among (v ∷ us) zero u is = let same : v ≡ u = cc in let one = ap (λ (b : Bool). cond {A = ℕ} b 1 0) (eq-eqb v u same) in omega arith
among (v ∷ us) (suc k) u is = let more = among us k u is in omega arith

-- an URB that is pending has a home, and is one that the machine knows
pub pending_is_queued_at : (g : Machine) (h : List Entry) (e k u : ℕ) → IsLegal g h → slice_get (pending_of g h e) k ≡ Some u → (e ≡ home_of g u) × ((state_of h u).queued ≡ true)
pending_is_queued_at g h e k u legal is =
    let here = at_home g h e u legal (among (pending_of g h e) k u is) in
    (here, pending_is_queued g h u legal (subst (λ e. 0 < times u (pending_of g h e)) here (among (pending_of g h e) k u is)))

pub within : (homes : List (Option ℕ)) (u e : ℕ) → slice_index_or homes u None ≡ Some e → u < length homes
within [] u e is = cc
within (x ∷ homes) zero e is = omega arith
within (x ∷ homes) (suc u) e is = let l = within homes u e is in omega arith

pub pending_known : (plain : Plain) (g : Machine) (h : List Entry) (e k u : ℕ) → Stands plain g h → slice_get (pending_of g h e) k ≡ Some u → u < urbs_of plain
pending_known plain g h e k u stands is =
    let home = queued_has_home g u h stands.legal (pending_is_queued_at g h e k u stands.legal is).1 in
    let l = within g.layout.homes u home.0 home.1 in let same = stands.urbs in omega arith

-- none of the first n passes the test
abbrev pub NoneBefore : (ℕ → Bool) → List ℕ → ℕ → Type 0
NoneBefore p us n = (k v : ℕ) → k < n → slice_get us k ≡ Some v → p v ≡ false

pub none_more : (p : ℕ → Bool) (us : List ℕ) (n : ℕ) → NoneBefore p us n → ((v : ℕ) → slice_get us n ≡ Some v → p v ≡ false) → NoneBefore p us (n + 1)
none_more p us n none fails k v l is = dite (ℕ_discrete k n)
    (λ same. fails v (ap (slice_get us) (sym same) ∙ is))
    (λ off. none k v (omega arith) is)

-- the first that passes is the first of the filtered list
pub first_passes : (p : ℕ → Bool) (us : List ℕ) (n u : ℕ) → NoneBefore p us n → slice_get us n ≡ Some u → p u ≡ true → slice_get (filter p us) 0 ≡ Some u
first_passes p [] n u none here passes = cc
first_passes p (v ∷ us) zero u none here passes = let same : v ≡ u = cc in ap (λ b. slice_get (cond b (v ∷ filter p us) (filter p us)) 0) (ap p same ∙ passes) ∙ ap Some same
first_passes p (v ∷ us) (suc n) u none here passes = ap (λ b. slice_get (cond b (v ∷ filter p us) (filter p us)) 0) (none 0 v (omega arith) refl)
    ∙ first_passes p us n u (λ k w l is. none (suc k) w (omega arith) is) here passes

pub none_passes : (p : ℕ → Bool) (us : List ℕ) → NoneBefore p us (length us) → filter p us ≡ []
none_passes p [] none = refl
none_passes p (v ∷ us) none = ap (λ b. cond b (v ∷ filter p us) (filter p us)) (none 0 v (omega arith) refl) ∙ none_passes p us (λ k w l is. none (suc k) w (omega arith) is)

first_of_joined : (us vs : List ℕ) (u : ℕ) → slice_get us 0 ≡ Some u → slice_get (us ++ vs) 0 ≡ Some u
first_of_joined [] vs u is = cc
first_of_joined (v ∷ us) vs u is = is

module _ (s : Scene) (h : List Entry) where
  -- the first endpoint with an unlinked URB has the first of all
  pub first_below : (e n u : ℕ) → marked_below s h e ≡ [] → slice_get (unlinked s h e) 0 ≡ Some u → e < n → slice_get (marked_below s h n) 0 ≡ Some u
  first_below e zero u none here l = absurd (omega arith)
  first_below e (suc n) u none here l = dite (ℕ_discrete e n)
      (λ same. ap (λ us. slice_get (us ++ unlinked s h n) 0) (ap (marked_below s h) (sym same) ∙ none) ∙ (ap (λ d. slice_get (unlinked s h d) 0) (sym same) ∙ here))
      (λ off. first_of_joined (marked_below s h n) (unlinked s h n) u (first_below e n u none here (omega arith)))

  pub none_below : (e : ℕ) → marked_below s h e ≡ [] → slice_get (unlinked s h e) 0 ≡ None → marked_below s h (suc e) ≡ []
  none_below e none here = (λ i. none i ++ empty (unlinked s h e) here i)
    where
      empty : (us : List ℕ) → slice_get us 0 ≡ None → us ≡ []
      empty [] is = refl
      empty (u ∷ us) is = cc
