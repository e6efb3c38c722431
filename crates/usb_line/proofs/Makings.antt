-- What a pass that is not the server's made, with whatever turns between its entries.
use Rattle.std.proofs.Common.{ℕ, ◌≡◌, ◌≢◌, ◌+◌, ◌<◌, true, false, cond, eqb, Option, None, List, [], ◌∷◌, ◌++◌, length, refl, sym, ap, ◌∙◌, subst, arith, append_assoc, append-nil, eq-eqb}
use Rattle.usb_types.specs.declared.errno.Code.{Code}
use Rattle.usb_types.specs.declared.urb.Why.TheVariants.{Kill}
use Rattle.usb_machine.specs.declared.entry.TheConstants.{SERVER}
use Rattle.usb_machine.specs.declared.event.Event.TheVariants.{Reject, Quiet, Claim}
use Rattle.usb_machine.specs.declared.event.Answer.TheVariants.{Number}
use Rattle.usb_machine.specs.declared.entry.Entry.{Entry}
use Rattle.usb_machine.specs.declared.state.UrbState.{UrbState}
use Rattle.usb_machine.specs.State.{unlinking}
use Rattle.usb_machine.specs.History.{state_of}
use Rattle.usb_machine.specs.Parts.{part_of, held_of, holds_any, keeps}
use Rattle.usb_machine.specs.Legal.{Follows}
use Rattle.usb_machine.specs.Calls.{entry, plain_entry, mark_entry, claim_entries, poison_entries, kill_entries, unblock_entries}
use Rattle.usb_machine.proofs.Steps.{part_own}
use Rattle.usb_scene.specs.declared.scene.Scene.{Scene}
use Rattle.usb_scene.specs.WellFormed.{IsWellFormed}
use Rattle.usb_trace.specs.Plan.{machine_of}
use Rattle.usb_line.specs.Line.{Progress, adds, killing, WaitsFor}
use Rattle.usb_trace.proofs.Entries.{AreOf, grows, stays, own_state, AllFollow, AllFollow-append}
use Rattle.usb_line.proofs.MayFollow.{mark_follows, reject_follows, withdraw_follows, quiet_follows, claim_follows}
use Rattle.usb_line.proofs.Held.{rejects_at, no_reject, one_reject, quiet_keeps, holds_reject}
use Rattle.usb_line.proofs.Serving.{AreBare, Serves}
use Rattle.usb_line.proofs.Others.{others_serve}
use Rattle.usb_line.proofs.Turns.{IsTurned}
use Rattle.usb_line.proofs.Waits.{wait_serves, wait_turned, wait_quiet}

-- between f and m pass p made these entries, and no pass but it and the server made any
pub record IsMadeBy (s : Scene) (f : Progress) (p : ℕ) (xs : List Entry) (m : Progress) : Type 0 where
  pub serves : Serves s m
  pub own : part_of m.history p ≡ part_of f.history p ++ xs
  pub elsewhere : (q : ℕ) → q ≢ SERVER → q ≢ p → part_of m.history q ≡ part_of f.history q
  pub call_records : m.call_records ≡ f.call_records
  pub down : m.down ≡ f.down

pub made_none : (s : Scene) (f : Progress) (p : ℕ) → Serves s f → IsMadeBy s f p [] f
made_none s f p old = record { serves = old; own = sym (append-nil (part_of f.history p)); elsewhere = λ q off other. refl; call_records = refl; down = refl }

pub made_entries : (s : Scene) (f : Progress) (p : ℕ) (xs : List Entry) → p ≢ SERVER → AreOf p xs → AllFollow (machine_of s) f.history xs → AreBare s xs → Serves s f → IsMadeBy s f p xs (adds f xs)
made_entries s f p xs off are follow bare old = record {
  serves = others_serve s f p xs off are follow bare old;
  own = grows p f.history xs are;
  elsewhere = λ q not_server other. stays p f.history xs are q (λ i. other (sym i));
  call_records = refl;
  down = refl;
}

pub made_on : (s : Scene) (f m k : Progress) (p : ℕ) (xs ys : List Entry) → IsMadeBy s f p xs m → IsMadeBy s m p ys k → IsMadeBy s f p (xs ++ ys) k
made_on s f m k p xs ys a b = record {
  serves = b.serves;
  own = b.own ∙ (ap (λ l. l ++ ys) a.own ∙ append_assoc (part_of f.history p) xs ys);
  elsewhere = λ q off other. b.elsewhere q off other ∙ a.elsewhere q off other;
  call_records = b.call_records ∙ a.call_records;
  down = b.down ∙ a.down;
}

pub made_turned : (s : Scene) (f m k : Progress) (p : ℕ) (xs : List Entry) → p ≢ SERVER → IsMadeBy s f p xs m → Serves s k → IsTurned m k → IsMadeBy s f p xs k
made_turned s f m k p xs off a serves t = record {
  serves = serves;
  own = t.parts p off ∙ a.own;
  elsewhere = λ q not_server other. t.parts q not_server ∙ a.elsewhere q not_server other;
  call_records = t.call_records ∙ a.call_records;
  down = t.down ∙ a.down;
}

module _ (s : Scene) (p u : ℕ) (there : p < 2 + (length s.threads + 3)) where
  -- an URB that is quiet is seen so, and what rests is claimed under a reject or a flag
  pub claim_follow : (h : List Entry) → (state_of h u).queued ≡ false → (state_of h u).handlers ≡ 0 → holds_any (held_of (part_of h p) u) ≡ true
      → AllFollow (machine_of s) h (claim_entries p u (state_of h u).rest)
  claim_follow h queued handlers holds =
      let quiet : Entry = plain_entry p (Quiet record { 0 = u }) in
      let part : part_of (h ++ quiet ∷ []) p ≡ part_of h p ++ quiet ∷ [] = part_own h quiet in
      let same : state_of (h ++ quiet ∷ []) u ≡ state_of h u = own_state u h (quiet ∷ []) (tt, refl, tt) in (
        quiet_follows s h p u there queued handlers,
        (
          subst (λ (n : Option ℕ). Follows (machine_of s) (h ++ plain_entry p (Quiet record { 0 = u }) ∷ []) (entry p (Claim record { 0 = u }) (Number n) None)) (ap (λ (t : UrbState). t.rest) same)
              (claim_follows s (h ++ quiet ∷ []) p u there (ap (λ m. keeps m u) part ∙ quiet_keeps (part_of h p) p u holds)),
          tt,
        ),
      )

  begin_follow : (h : List Entry) → AllFollow (machine_of s) h (plain_entry p (Reject record { 0 = u }) ∷ mark_entry p Kill u (unlinking (state_of h u)) ∷ [])
  begin_follow h =
      let reject : Entry = plain_entry p (Reject record { 0 = u }) in
      let same : unlinking (state_of (h ++ reject ∷ []) u) ≡ unlinking (state_of h u) = ap unlinking (own_state u h (reject ∷ []) (tt, refl, tt)) in
      (reject_follows s h p u there, (subst (λ (c : Code). Follows (machine_of s) (h ++ plain_entry p (Reject record { 0 = u }) ∷ []) (mark_entry p Kill u c)) same (mark_follows s (h ++ reject ∷ []) p u there Kill), tt))

  module _ (good : IsWellFormed s) (off : p ≢ SERVER) (f m : Progress) (old : Serves s f) (waits : WaitsFor s u (killing p u f) m) where
    abbrev begins : List Entry
    begins = plain_entry p (Reject record { 0 = u }) ∷ mark_entry p Kill u (unlinking (state_of f.history u)) ∷ []

    -- a kill begins with its reject and its mark
    pub begun : IsMadeBy s f p begins (killing p u f)
    begun = made_entries s f p begins off (refl, (refl, tt)) (begin_follow f.history) (tt, (tt, tt)) old

    pub waited : IsMadeBy s f p begins m
    waited = made_turned s f (killing p u f) m p begins off begun (wait_serves s good u (killing p u f) m waits begun.serves) (wait_turned s u (killing p u f) m waits)

    -- the pass holds the reject until it is withdrawn
    held_so : 0 < rejects_at u (part_of m.history p)
    held_so =
        let reject : Entry = plain_entry p (Reject record { 0 = u }) in
        let mark : Entry = mark_entry p Kill u (unlinking (state_of f.history u)) in
        let split : rejects_at u (part_of m.history p) ≡ rejects_at u ((part_of f.history p ++ reject ∷ []) ++ mark ∷ []) = ap (rejects_at u) (waited.own ∙ sym (append_assoc (part_of f.history p) (reject ∷ []) (mark ∷ []))) in
        let on = no_reject u (part_of f.history p ++ reject ∷ []) (mark ∷ []) (tt, tt) in
        let up = one_reject u (part_of f.history p) p u in
        let one : cond {A = ℕ} (eqb u u) 1 0 ≡ 1 = ap (λ b. cond {A = ℕ} b 1 0) (eq-eqb u u refl) in omega arith

    abbrev rest : Option ℕ
    rest = (state_of m.history u).rest

    claimed_follow : AllFollow (machine_of s) m.history (claim_entries p u rest)
    claimed_follow = let quiet = wait_quiet s u (killing p u f) m waits in claim_follow m.history quiet.0 quiet.1 (holds_reject (held_of (part_of m.history p) u) held_so)

    -- a poison, with its turns
    pub poison_made : IsMadeBy s f p (poison_entries p u (unlinking (state_of f.history u)) rest) (adds m (claim_entries p u rest))
    poison_made = made_on s f m (adds m (claim_entries p u rest)) p begins (claim_entries p u rest) waited
        (made_entries s m p (claim_entries p u rest) off (refl, (refl, tt)) claimed_follow (tt, (tt, tt)) waited.serves)

    unblocked_follow : AllFollow (machine_of s) (m.history ++ claim_entries p u rest) (unblock_entries p u)
    unblocked_follow =
        let part = grows p m.history (claim_entries p u rest) (refl, (refl, tt)) in
        let same = ap (rejects_at u) part ∙ no_reject u (part_of m.history p) (claim_entries p u rest) (tt, (tt, tt)) in
        let held = held_so in
        (withdraw_follows s (m.history ++ claim_entries p u rest) p u there (omega arith), tt)

    -- a kill, with its turns
    pub kill_made : IsMadeBy s f p (kill_entries p u (unlinking (state_of f.history u)) rest) (adds m (claim_entries p u rest ++ unblock_entries p u))
    kill_made = made_on s f m (adds m (claim_entries p u rest ++ unblock_entries p u)) p begins (claim_entries p u rest ++ unblock_entries p u) waited
        (made_entries s m p (claim_entries p u rest ++ unblock_entries p u) off (refl, (refl, (refl, tt)))
        (AllFollow-append (machine_of s) m.history (claim_entries p u rest) (unblock_entries p u) claimed_follow unblocked_follow) (tt, (tt, (tt, tt))) waited.serves)
