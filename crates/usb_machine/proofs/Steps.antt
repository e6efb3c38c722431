-- What one more entry does to each part of a history.
use Rattle.std.proofs.Common.{◌≡◌, ◌≢◌, eq-eqb, ne_eqb, append-nil, ℕ, false, cond, eqb, List, [], ◌∷◌, ◌++◌, sym, refl, ap, ◌∙◌, Option, None}
use Rattle.std.proofs.lemmas.List.Sums.{fold-append}
use Rattle.std.proofs.lemmas.List.Elements.{filter-append}
use Rattle.usb_machine.specs.declared.entry.Entry.{Entry}
use Rattle.usb_machine.specs.declared.transfer.Transfer.{Transfer}
use Rattle.usb_machine.specs.State.{opening}
use Rattle.usb_machine.specs.History.{Machine, state_of, after_entry, is_of, line_of, line_after, pending_of, pending_after, sent_of, sent_after}
use Rattle.usb_machine.specs.Parts.{part_of, owes, owes_after, Held, held_of, held_after, nothing_held}

module _ (h : List Entry) (x : Entry) where
  pub state_of-snoc : (u : ℕ) → state_of (h ++ x ∷ []) u ≡ after_entry u (state_of h u) x
  state_of-snoc u = fold-append (after_entry u) opening h (x ∷ [])

  pub line_of-snoc : (g : Machine) (e : ℕ) → line_of g (h ++ x ∷ []) e ≡ line_after g e (line_of g h e) x.event
  line_of-snoc g e = fold-append (λ us y. line_after g e us y.event) [] h (x ∷ [])

  pub pending_of-snoc : (g : Machine) (e : ℕ) → pending_of g (h ++ x ∷ []) e ≡ pending_after g e (pending_of g h e) x.event x.answer
  pending_of-snoc g e = fold-append (λ us y. pending_after g e us y.event y.answer) [] h (x ∷ [])

  pub sent_of-snoc : (u : ℕ) → sent_of (h ++ x ∷ []) u ≡ sent_after u (sent_of h u) x.event x.answer x.carried
  sent_of-snoc u = fold-append (λ (t : Option Transfer) y. sent_after u t y.event y.answer y.carried) None h (x ∷ [])

  pub part_of-snoc : (p : ℕ) → part_of (h ++ x ∷ []) p ≡ part_of h p ++ cond (eqb x.pass p) (x ∷ []) []
  part_of-snoc p = filter-append (λ y. eqb y.pass p) h (x ∷ [])

pub owes-snoc : (m : List Entry) (x : Entry) (u : ℕ) → owes (m ++ x ∷ []) u ≡ owes_after u (owes m u) x.event x.answer
owes-snoc m x u = fold-append (λ b y. owes_after u b y.event y.answer) false m (x ∷ [])

pub held_of-snoc : (m : List Entry) (x : Entry) (u : ℕ) → held_of (m ++ x ∷ []) u ≡ cond (is_of u x.event) (held_after (held_of m u) x.event) (held_of m u)
held_of-snoc m x u = fold-append (λ d y. cond (is_of u y.event) (held_after d y.event) d) nothing_held m (x ∷ [])

abbrev pub held_at : ℕ → Held → Entry → Held
held_at u d x = cond (is_of u x.event) (held_after d x.event) d

module _ (h : List Entry) (x : Entry) where
  pub part_own : part_of (h ++ x ∷ []) x.pass ≡ part_of h x.pass ++ x ∷ []
  part_own = part_of-snoc h x x.pass ∙ ap (λ b. part_of h x.pass ++ cond b (x ∷ []) []) (eq-eqb x.pass x.pass refl)

  pub part_other : (q : ℕ) → q ≢ x.pass → part_of (h ++ x ∷ []) q ≡ part_of h q
  part_other q off = part_of-snoc h x q ∙ (ap (λ b. part_of h q ++ cond b (x ∷ []) []) (ne_eqb x.pass q (λ e. off (sym e))) ∙ append-nil (part_of h q))

  pub held_own : (u : ℕ) → held_of (part_of (h ++ x ∷ []) x.pass) u ≡ held_at u (held_of (part_of h x.pass) u) x
  held_own u = ap (λ m. held_of m u) part_own ∙ held_of-snoc (part_of h x.pass) x u

  pub held_other : (u q : ℕ) → q ≢ x.pass → held_of (part_of (h ++ x ∷ []) q) u ≡ held_of (part_of h q) u
  held_other u q off = ap (λ m. held_of m u) (part_other q off)

  pub owes_own : (u : ℕ) → owes (part_of (h ++ x ∷ []) x.pass) u ≡ owes_after u (owes (part_of h x.pass) u) x.event x.answer
  owes_own u = ap (λ m. owes m u) part_own ∙ owes-snoc (part_of h x.pass) x u

  pub owes_other : (u q : ℕ) → q ≢ x.pass → owes (part_of (h ++ x ∷ []) q) u ≡ owes (part_of h q) u
  owes_other u q off = ap (λ m. owes m u) (part_other q off)
