-- One URB more in a row of entries of all URBs.
use Rattle.std.proofs.Common.{ℕ, zero, suc, ◌≡◌, ◌≢◌, ◌+◌, ◌≤◌, cond, eqb, List, [], ◌∷◌, ◌++◌, map, refl, sym, ap, ◌∙◌, subst, arith, add-one, append_assoc, append-nil, ne_eqb}
use Rattle.std.specs.List.{flat_map}
use Rattle.std.proofs.lemmas.Grind.{flat_map-append}
use Rattle.usb_machine.specs.declared.event.Event.TheVariants.{Reject, Quiet}
use Rattle.usb_machine.specs.declared.entry.Entry.{Entry}
use Rattle.usb_machine.specs.declared.plain.Plain.{Plain}
use Rattle.usb_machine.specs.History.{Machine, state_of}
use Rattle.usb_machine.specs.Parts.{part_of}
use Rattle.usb_machine.specs.Legal.{urb_of}
use Rattle.usb_machine.specs.Plain.{IsOfUrb, Stands}
use Rattle.usb_machine.specs.Calls.{plain_entry}
use Rattle.usb_prepare.specs.Below.{below}
use Rattle.usb_trace.specs.Run.{seen_quiet}
use Rattle.usb_line.specs.Steps.{AsMany}
use Rattle.usb_trace.proofs.Entries.{grows, other_state}
use Rattle.usb_line.proofs.Each.{each-suc}
use Rattle.usb_line.proofs.Held.{rejects_at, no_reject, one_reject}

pub as_many : (a b c : Plain) → AsMany a b → AsMany b c → AsMany a c
as_many a b c x y = record { urbs = y.urbs ∙ x.urbs; ends = y.ends ∙ x.ends }

-- the entry of the next URB stands last
pub each_longer : (x : ℕ → Entry) (about : (u : ℕ) → IsOfUrb (x u).event × (urb_of (x u).event ≡ u)) (plain : Plain) (g : Machine) (h : List Entry) (n : ℕ)
    → Stands plain g ((h ++ map x (below n)) ++ x n ∷ []) → Stands plain g (h ++ map x (below (n + 1)))
each_longer x about plain g h n stands =
    subst (λ k. Stands plain g (h ++ map x (below k))) (sym (add-one n))
    (subst (Stands plain g) (append_assoc h (map x (below n)) (x n ∷ []) ∙ ap (λ l. h ++ l) (sym (each-suc x about n))) stands)

module _ (p : ℕ) where
  abbrev seen : ℕ → List Entry
  seen n = flat_map (seen_quiet p) (below n)

  seen-suc : (n : ℕ) → seen (suc n) ≡ seen n ++ seen_quiet p n
  seen-suc n = flat_map-append (seen_quiet p) (below n) (n ∷ []) ∙ ap (λ l. seen n ++ l) (append-nil (seen_quiet p n))

  module _ (h : List Entry) where
    next : (n : ℕ) → h ++ seen (suc n) ≡ (h ++ seen n) ++ seen_quiet p n
    next n = ap (λ l. h ++ l) (seen-suc n) ∙ sym (append_assoc h (seen n) (seen_quiet p n))

    -- what stands of an URB that was not seen yet
    pub seen_above : (n v : ℕ) → n ≤ v → state_of (h ++ seen n) v ≡ state_of h v
    seen_above zero v l = ap (λ k. state_of k v) (append-nil h)
    seen_above (suc n) v l = ap (λ k. state_of k v) (next n)
        ∙ (other_state n (h ++ seen n) (seen_quiet p n) (tt, refl, (tt, refl, tt)) v (λ i. omega arith) ∙ seen_above n v (omega arith))

    one_seen : (m : List Entry) (n v : ℕ) → v ≢ n → rejects_at v (m ++ seen_quiet p n) ≡ rejects_at v m
    one_seen m n v off =
        let reject : Entry = plain_entry p (Reject record { 0 = n }) in let quiet : Entry = plain_entry p (Quiet record { 0 = n }) in
        let on : rejects_at v (m ++ seen_quiet p n) ≡ rejects_at v (m ++ reject ∷ []) = ap (rejects_at v) (sym (append_assoc m (reject ∷ []) (quiet ∷ []))) ∙ no_reject v (m ++ reject ∷ []) (quiet ∷ []) (tt, tt) in
        let up = one_reject v m p n in
        let none : cond {A = ℕ} (eqb n v) 1 0 ≡ 0 = ap (λ b. cond {A = ℕ} b 1 0) (ne_eqb n v (λ i. off (sym i))) in omega arith

    pub held_above : (n v : ℕ) → n ≤ v → rejects_at v (part_of (h ++ seen n) p) ≡ rejects_at v (part_of h p)
    held_above zero v l = ap (λ k. rejects_at v (part_of k p)) (append-nil h)
    held_above (suc n) v l = ap (λ k. rejects_at v (part_of k p)) (next n)
        ∙ (ap (rejects_at v) (grows p (h ++ seen n) (seen_quiet p n) (refl, (refl, tt)))
        ∙ (one_seen (part_of (h ++ seen n) p) n v (λ i. absurd (omega arith)) ∙ held_above n v (omega arith)))

    pub seen_longer : (plain : Plain) (g : Machine) (n : ℕ) → Stands plain g (((h ++ seen n) ++ plain_entry p (Reject record { 0 = n }) ∷ []) ++ plain_entry p (Quiet record { 0 = n }) ∷ [])
        → Stands plain g (h ++ flat_map (seen_quiet p) (below (n + 1)))
    seen_longer plain g n stands =
        subst (λ k. Stands plain g (h ++ seen k)) (sym (add-one n))
        (subst (Stands plain g) (append_assoc (h ++ seen n) (plain_entry p (Reject record { 0 = n }) ∷ []) (plain_entry p (Quiet record { 0 = n }) ∷ []) ∙ sym (next n)) stands)
