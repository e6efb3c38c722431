-- The URBs that the hub flushes, and what it holds while it takes its flag off again.
use Rattle.std.proofs.Common.{ℕ, zero, suc, ◌≡◌, ◌+◌, ◌<◌, ◌≤◌, inl, inr, ⊎_elim, true, cond, List, [], ◌∷◌, ◌++◌, length, get_or, refl, sym, ap, ◌∙◌, subst, arith, add-one, ne_eqb}
use Rattle.std.specs.List.{range_with_len}
use Rattle.std.proofs.lemmas.List.{length-map, map-append}
use Rattle.std.proofs.lemmas.List.FromFn.{length-range_with_len}
use Rattle.usb_types.specs.declared.urb.UrbId.{UrbId}
use Rattle.usb_types.specs.declared.urb.Flag.TheVariants.{Down}
use Rattle.usb_machine.specs.declared.event.Event.TheVariants.{Unflag}
use Rattle.usb_machine.specs.declared.entry.Entry.{Entry}
use Rattle.usb_machine.specs.declared.pass_row.Held.{Held}
use Rattle.usb_machine.specs.Parts.{held_of, held_after}
use Rattle.usb_machine.specs.Calls.{plain_entry, unflag_entries}
use Rattle.usb_machine.proofs.Steps.{held_of-snoc}
use Rattle.usb_machine.specs.Fresh.{Known, Grown}
use Rattle.usb_machine.proofs.Growing.{grown_more}
use Rattle.usb_cancel.specs.Flushing.{ids, Has, AreApart}

abbrev below : ℕ → List ℕ
below n = range_with_len 0 n

next_from : (a n : ℕ) → range_with_len a (suc n) ≡ range_with_len a n ++ (a + n) ∷ []
next_from a zero = let same : a ≡ a + 0 = omega arith in ap (λ k. k ∷ []) same
next_from a (suc n) = let same : a + 1 + n ≡ a + suc n = omega arith in ap (λ l. a ∷ l) (next_from (a + 1) n ∙ ap (λ k. range_with_len (a + 1) n ++ k ∷ []) same)

next_below : (n : ℕ) → below (n + 1) ≡ below n ++ n ∷ []
next_below n = let same : 0 + n ≡ n = omega arith in ap below (add-one n) ∙ (next_from 0 n ∙ ap (λ k. below n ++ k ∷ []) same)

has_from : (a n v : ℕ) → Has (range_with_len a n) v → (a ≤ v) × (v < a + n)
has_from a zero v h = absurd h
has_from a (suc n) v h = ⊎_elim
    (λ (e : a ≡ v). (omega arith, omega arith))
    (λ (k : Has (range_with_len (a + 1) n) v). let both = has_from (a + 1) n v k in let low = both.0 in let high = both.1 in (omega arith, omega arith))
    h

-- a number among those below n is below n
pub has_below : (n v : ℕ) → Has (below n) v → v < n
has_below n v h = let high = (has_from 0 n v h).1 in omega arith

apart_from : (a n : ℕ) → AreApart (range_with_len a n)
apart_from a zero = tt
apart_from a (suc n) = ((λ h. let low = (has_from (a + 1) n a h).0 in omega arith), apart_from (a + 1) n)

pub apart_below : (n : ℕ) → AreApart (below n)
apart_below n = apart_from 0 n

pub has_at : (us : List UrbId) (k : ℕ) (d : UrbId) → k < length us → Has (ids us) (get_or us k d).0
has_at [] k d l = absurd (omega arith)
has_at (u ∷ us) zero d l = inl refl
has_at (u ∷ us) (suc k) d l = inr (has_at us k d (omega arith))

pub long_below : (us : List UrbId) (n : ℕ) → ids us ≡ below n → length us ≡ n
long_below us n is = sym (length-map us (λ (u : UrbId). u.0)) ∙ (ap (λ (l : List ℕ). length l) is ∙ length-range_with_len 0 n)

pub ids_next : (us longer : List UrbId) (n : ℕ) → ids us ≡ below n → longer ≡ us ++ record { 0 = n } ∷ [] → ids longer ≡ below (n + 1)
ids_next us longer n is more = ap ids more ∙ (map-append (λ (u : UrbId). u.0) us (record { 0 = n } ∷ []) ∙ (ap (λ l. l ++ n ∷ []) is ∙ sym (next_below n)))

unflags_next : (p k : ℕ) → unflag_entries p Down (below k) ++ plain_entry p (Unflag record { 0 = k } Down) ∷ [] ≡ unflag_entries p Down (below (k + 1))
unflags_next p k = sym (ap (unflag_entries p Down) (next_below k) ∙ map-append (λ u. plain_entry p (Unflag record { 0 = u } Down)) (below k) (k ∷ []))

pub unflag_next : (p q r : Known) (k : ℕ) → Grown p q (unflag_entries p.number Down (below k)) → Grown q r (plain_entry q.number (Unflag record { 0 = k } Down) ∷ []) → Grown p r (unflag_entries p.number Down (below (k + 1)))
unflag_next p q r k a b = subst (λ l. Grown p r l) (unflags_next p.number k)
    (subst (λ n. Grown p r (unflag_entries p.number Down (below k) ++ plain_entry n (Unflag record { 0 = k } Down) ∷ [])) a.number
    (grown_more p q r (unflag_entries p.number Down (below k)) (plain_entry q.number (Unflag record { 0 = k } Down) ∷ []) a b))

pub still_down : (q r : Known) (k v : ℕ) → k + 1 ≤ v → Grown q r (plain_entry q.number (Unflag record { 0 = k } Down) ∷ []) → (held_of q.mine v).flags.down ≡ true → (held_of r.mine v).flags.down ≡ true
still_down q r k v low step is = let x : Entry = plain_entry q.number (Unflag record { 0 = k } Down) in
    ap (λ m. (held_of m v).flags.down) step.mine ∙ (ap (λ (d : Held). d.flags.down) (held_of-snoc q.mine x v ∙ ap (λ b. cond b (held_after (held_of q.mine v) x.event) (held_of q.mine v)) (ne_eqb k v (λ e. omega arith))) ∙ is)
