-- The pending URBs that were unlinked.
use Rattle.std.proofs.Common.{ℕ, zero, suc, ◌≡◌, ◌+◌, ◌<◌, ◌≤◌, Bool, true, false, cond, eqb, List, [], ◌∷◌, ◌++◌, filter, refl, sym, ap, ◌∙◌, subst, arith, ne_eqb}
use mathlib.Core.Logic.{dite}
use native.Mathlib.Decide.{ℕ_discrete, dec_lt}
use Rattle.usb_machine.specs.declared.entry.Entry.{Entry}
use Rattle.usb_machine.specs.History.{Machine, home_of, state_of, pending_of}
use Rattle.usb_machine.specs.Legal.{IsLegal, times}
use Rattle.usb_machine.proofs.AtHome.{at_home}
use Rattle.usb_scene.specs.declared.scene.Scene.{Scene}
use Rattle.usb_prepare.specs.Ends.{ends_of}
use Rattle.usb_prepare.specs.Layout.{home}
use Rattle.usb_trace.specs.Plan.{machine_of}
use Rattle.usb_line.specs.Line.{is_unlinked, marked_below, marked_of}
use Rattle.usb_line.proofs.MayFollow.{once}

pub times-append : (u : ℕ) (us vs : List ℕ) → times u (us ++ vs) ≡ times u us + times u vs
times-append u [] vs = omega arith
times-append u (v ∷ us) vs = let a = times-append u us vs in omega arith

times-filter : (u : ℕ) (p : ℕ → Bool) (us : List ℕ) → times u (filter p us) ≤ times u us
times-filter u p [] = omega arith
times-filter u p (v ∷ us) = go (p v) (times-filter u p us)
  where
    go : (b : Bool) → times u (filter p us) ≤ times u us → times u (cond b (v ∷ filter p us) (filter p us)) ≤ times u (v ∷ us)
    go true l = omega arith
    go false l = omega arith

pub first_at_home : (g : Machine) (h : List Entry) (e u : ℕ) (others : List ℕ) → IsLegal g h → pending_of g h e ≡ u ∷ others → e ≡ home_of g u
first_at_home g h e u others legal first = at_home g h e u legal (once u (pending_of g h e) others first)

module _ (s : Scene) (h : List Entry) where
  abbrev pub unlinked : ℕ → List ℕ
  unlinked e = filter (λ u. is_unlinked (state_of h u).mark) (pending_of (machine_of s) h e)

  -- who is among them is pending
  marked_pending : (u n : ℕ) → 0 < times u (marked_below s h n) → (e : ℕ) × (e < n) × (0 < times u (pending_of (machine_of s) h e))
  marked_pending u zero l = absurd (omega arith)
  marked_pending u (suc e) l = dite (dec_lt 0 (times u (unlinked e)))
      (λ here. let a = times-filter u (λ u. is_unlinked (state_of h u).mark) (pending_of (machine_of s) h e) in (e, omega arith, omega arith))
      (λ off. let a = times-append u (marked_below s h e) (unlinked e) in let r = marked_pending u e (omega arith) in (r.0, (let b = r.1 in omega arith), r.2))

  pub marked_at_home : (u : ℕ) (others : List ℕ) → IsLegal (machine_of s) h → marked_of s h ≡ u ∷ others → 0 < times u (pending_of (machine_of s) h (home s u))
  marked_at_home u others legal is = let r = marked_pending u (ends_of s) (once u (marked_of s h) others is) in
      subst (λ e. 0 < times u (pending_of (machine_of s) h e)) (at_home (machine_of s) h r.0 u legal r.2) r.2

  append_none : (xs ys : List ℕ) → xs ++ ys ≡ [] → (xs ≡ []) × (ys ≡ [])
  append_none [] ys e = (refl, e)
  append_none (x ∷ xs) ys e = cc

  none_at : (n e : ℕ) → e < n → marked_below s h n ≡ [] → unlinked e ≡ []
  none_at zero e l is = absurd (omega arith)
  none_at (suc d) e l is = let both = append_none (marked_below s h d) (unlinked d) is in dite (ℕ_discrete e d)
      (λ same. subst (λ d. unlinked d ≡ []) (sym same) both.1)
      (λ off. none_at d e (omega arith) both.0)

  -- where none is among them, no first pending URB was unlinked
  pub first_unmarked : (e u : ℕ) (others : List ℕ) → e < ends_of s → marked_of s h ≡ [] → pending_of (machine_of s) h e ≡ u ∷ others → is_unlinked (state_of h u).mark ≡ false
  first_unmarked e u others l none first = go (is_unlinked (state_of h u).mark) refl (sym (ap (filter (λ u. is_unlinked (state_of h u).mark)) first) ∙ none_at (ends_of s) e l none)
    where
      go : (b : Bool) → is_unlinked (state_of h u).mark ≡ b → filter (λ u. is_unlinked (state_of h u).mark) (u ∷ others) ≡ [] → is_unlinked (state_of h u).mark ≡ false
      go false is e = is
      go true is e = let f = sym (ap (λ b. cond b (u ∷ filter (λ u. is_unlinked (state_of h u).mark) others) (filter (λ u. is_unlinked (state_of h u).mark) others)) is) ∙ e in cc

  -- and who is pending and unlinked is among them
  among_filter : (u : ℕ) (us : List ℕ) → 0 < times u us → is_unlinked (state_of h u).mark ≡ true → 0 < times u (filter (λ u. is_unlinked (state_of h u).mark) us)
  among_filter u [] l is = absurd (omega arith)
  among_filter u (v ∷ us) l is = dite (ℕ_discrete v u)
      (λ same. let here : is_unlinked (state_of h v).mark ≡ true = ap (λ (v : ℕ). is_unlinked (state_of h v).mark) same ∙ is in
      subst (λ b. 0 < times u (cond b (v ∷ filter (λ u. is_unlinked (state_of h u).mark) us) (filter (λ u. is_unlinked (state_of h u).mark) us))) (sym here) (once u _ _ (ap (λ (v : ℕ). v ∷ filter (λ u. is_unlinked (state_of h u).mark) us) same)))
      (λ off. let none : cond {A = ℕ} (eqb v u) 1 0 ≡ 0 = ap (λ b. cond {A = ℕ} b 1 0) (ne_eqb v u off) in let rest = among_filter u us (omega arith) is in go (is_unlinked (state_of h v).mark) rest)
    where
      go : (b : Bool) → 0 < times u (filter (λ u. is_unlinked (state_of h u).mark) us) → 0 < times u (cond b (v ∷ filter (λ u. is_unlinked (state_of h u).mark) us) (filter (λ u. is_unlinked (state_of h u).mark) us))
      go true l = omega arith
      go false l = l

  among_below : (u e n : ℕ) → e < n → 0 < times u (unlinked e) → 0 < times u (marked_below s h n)
  among_below u e zero l some = absurd (omega arith)
  among_below u e (suc d) l some = let a = times-append u (marked_below s h d) (unlinked d) in dite (ℕ_discrete e d)
      (λ same. let here : 0 < times u (unlinked d) = subst (λ d. 0 < times u (unlinked d)) same some in omega arith)
      (λ off. let r = among_below u e d (omega arith) some in omega arith)

  pub is_marked : (u e : ℕ) → e < ends_of s → 0 < times u (pending_of (machine_of s) h e) → is_unlinked (state_of h u).mark ≡ true → 0 < times u (marked_of s h)
  is_marked u e l some is = among_below u e (ends_of s) l (among_filter u (pending_of (machine_of s) h e) some is)
