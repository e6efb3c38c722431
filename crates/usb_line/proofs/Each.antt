-- One entry for each of the URBs below a number.
use Rattle.std.proofs.Common.{ℕ, zero, suc, ◌≡◌, ◌<◌, ◌≤◌, List, [], ◌∷◌, ◌++◌, map, refl, sym, ap, ◌∙◌, subst, arith, append_assoc, append-nil}
use Rattle.std.proofs.lemmas.List.{map-append}
use mathlib.Core.Logic.{dite}
use native.Mathlib.Decide.{ℕ_discrete}
use Rattle.usb_types.specs.declared.errno.Code.{Code}
use Rattle.usb_types.specs.declared.urb.Why.{Why}
use Rattle.usb_machine.specs.declared.entry.Entry.{Entry}
use Rattle.usb_machine.specs.State.{after}
use Rattle.usb_machine.specs.History.{Machine, state_of}
use Rattle.usb_machine.specs.Legal.{Follows, urb_of}
use Rattle.usb_machine.specs.Plain.{IsOfUrb}
use Rattle.usb_machine.specs.Calls.{mark_entry, marks_of}
use Rattle.usb_prepare.specs.Below.{below}
use Rattle.usb_trace.proofs.Entries.{own_state, other_state, AllFollow, AllFollow-append}

-- marks with the answers that a function says
pub marks_by : (p : ℕ) (why : Why) (answer : ℕ → Code) (us : List ℕ) → marks_of p why us (map answer us) ≡ map (λ u. mark_entry p why u (answer u)) us
marks_by p why answer [] = refl
marks_by p why answer (u ∷ us) = ap (λ l. mark_entry p why u (answer u) ∷ l) (marks_by p why answer us)

module _ (x : ℕ → Entry) (about : (u : ℕ) → IsOfUrb (x u).event × (urb_of (x u).event ≡ u)) where
  abbrev pub each_below : ℕ → List Entry
  each_below n = map x (below n)

  pub each-suc : (n : ℕ) → each_below (suc n) ≡ each_below n ++ x n ∷ []
  each-suc n = map-append x (below n) (n ∷ [])

  module _ (h : List Entry) where
    next : (n : ℕ) → h ++ each_below (suc n) ≡ (h ++ each_below n) ++ x n ∷ []
    next n = ap (λ l. h ++ l) (each-suc n) ∙ sym (append_assoc h (each_below n) (x n ∷ []))

    -- the state of an URB from n on stays
    pub each_above : (n v : ℕ) → n ≤ v → state_of (h ++ each_below n) v ≡ state_of h v
    each_above zero v l = ap (λ k. state_of k v) (append-nil h)
    each_above (suc n) v l = ap (λ k. state_of k v) (next n)
        ∙ (other_state n (h ++ each_below n) (x n ∷ []) ((about n).0, (about n).1, tt) v (λ i. omega arith) ∙ each_above n v (omega arith))

    -- and that of an URB below n changes by its own entry
    pub each_at : (n v : ℕ) → v < n → state_of (h ++ each_below n) v ≡ after (x v).event (x v).answer (state_of h v)
    each_at zero v l = absurd (omega arith)
    each_at (suc n) v l = ap (λ k. state_of k v) (next n) ∙ dite (ℕ_discrete v n)
        (λ is. subst (λ v. state_of ((h ++ each_below n) ++ x n ∷ []) v ≡ after (x v).event (x v).answer (state_of h v)) (sym is)
        (own_state n (h ++ each_below n) (x n ∷ []) ((about n).0, (about n).1, tt) ∙ ap (after (x n).event (x n).answer) (each_above n n (omega arith))))
        (λ off. other_state n (h ++ each_below n) (x n ∷ []) ((about n).0, (about n).1, tt) v off ∙ each_at n v (omega arith))

    -- entries that may come by the state of their URB alone
    pub each_follow : (g : Machine) (n : ℕ) → ((u : ℕ) → u < n → (k : List Entry) → state_of k u ≡ state_of h u → Follows g k (x u)) → AllFollow g h (each_below n)
    each_follow g zero may = tt
    each_follow g (suc n) may = subst (AllFollow g h) (sym (each-suc n))
        (AllFollow-append g h (each_below n) (x n ∷ []) (each_follow g n (λ u l. may u (omega arith))) (may n (omega arith) (h ++ each_below n) (each_above n n (omega arith)), tt))
