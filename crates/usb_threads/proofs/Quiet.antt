-- Main keeps each URB that it has seen quiet under its last rejects.
use Rattle.std.proofs.Common.{ℕ, zero, suc, ◌≡◌, ◌≢◌, ◌+◌, ◌<◌, Bool, true, not, ◌||◌, cond, eqb, fold, List, [], ◌∷◌, ◌++◌, refl, sym, ap, ◌∙◌, subst, arith, append_assoc, append-nil, eq-eqb, ne_eqb}
use Rattle.std.specs.List.{flat_map}
use Rattle.std.proofs.lemmas.List.Sums.{fold-append}
use Rattle.std.proofs.lemmas.Grind.{flat_map-append}
use mathlib.Core.Logic.{dite}
use native.Mathlib.Decide.{ℕ_discrete}
use Rattle.usb_machine.specs.declared.event.Event.TheVariants.{Reject, Quiet}
use Rattle.usb_machine.specs.declared.entry.Entry.{Entry}
use Rattle.usb_machine.specs.Parts.{held_of, held_after, nothing_held, any_flag, keeps}
use Rattle.usb_machine.specs.declared.pass_row.Held.{Held}
use Rattle.usb_machine.proofs.Steps.{held_at}
use Rattle.usb_prepare.specs.Below.{below}
use Rattle.usb_trace.specs.Run.{seen_quiet}

module _ (p : ℕ) where
  -- what is held against v after a reject and a quiet of u
  abbrev after : ℕ → Held → Bool → Held
  after u d b = let raised = cond b (held_after d (Reject record { 0 = u })) d in cond b (held_after raised (Quiet record { 0 = u })) raised

  after_is : (u v : ℕ) (d : Held) → fold (held_at v) d (seen_quiet p u) ≡ after u d (eqb u v)
  after_is u v d = refl

  kept_here : (u : ℕ) (d : Held) → (after u d (eqb u u)).kept ≡ true
  kept_here u d = ap (λ b. (after u d b).kept) (eq-eqb u u refl) ∙ ap (λ b. not b || any_flag d.flags) (ne_eqb (d.rejects + 1) 0 (λ i. absurd (omega arith)))

  kept_else : (u v : ℕ) (d : Held) → u ≢ v → after u d (eqb u v) ≡ d
  kept_else u v d off = ap (after u d) (ne_eqb u v off)

  pub kept_all : (m : List Entry) (n v : ℕ) → v < n → keeps (m ++ flat_map (seen_quiet p) (below n)) v ≡ true
  kept_all m zero v l = absurd (omega arith)
  kept_all m (suc n) v l =
      let xs = flat_map (seen_quiet p) (below n) in
      let grown : m ++ flat_map (seen_quiet p) (below (suc n)) ≡ (m ++ xs) ++ seen_quiet p n
      = ap (λ l. m ++ l) (flat_map-append (seen_quiet p) (below n) (n ∷ []) ∙ ap (λ l. xs ++ l) (append-nil (seen_quiet p n))) ∙ sym (append_assoc m xs (seen_quiet p n)) in
      let now : (w : ℕ) → keeps ((m ++ xs) ++ seen_quiet p n) w ≡ (after n (held_of (m ++ xs) w) (eqb n w)).kept = λ w. ap (λ (d : Held). d.kept) (fold-append (held_at w) nothing_held (m ++ xs) (seen_quiet p n)) in
      ap (λ l. keeps l v) grown ∙ (now v ∙ dite (ℕ_discrete n v)
      (λ is. subst (λ w. (after n (held_of (m ++ xs) w) (eqb n w)).kept ≡ true) is (kept_here n (held_of (m ++ xs) n)))
      (λ off. ap (λ (d : Held). d.kept) (kept_else n v (held_of (m ++ xs) v) off) ∙ kept_all m n v (omega arith)))
