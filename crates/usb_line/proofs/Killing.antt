-- Kills: what the machine stands for at each step, and what the run's object shows then.
use Rattle.std.proofs.Common.{ℕ, ◌≡◌, ◌<◌, true, false, cond, eqb, Option, List, [], ◌∷◌, ◌++◌, refl, sym, ap, ◌∙◌, subst, arith, append_assoc, eq-eqb}
use Rattle.usb_types.specs.declared.errno.Code.{Code}
use Rattle.usb_types.specs.declared.urb.Why.TheVariants.{Kill}
use Rattle.usb_machine.specs.declared.event.Event.TheVariants.{Reject, Withdraw}
use Rattle.usb_machine.specs.declared.entry.Entry.{Entry}
use Rattle.usb_machine.specs.declared.plain.Plain.{Plain}
use Rattle.usb_machine.specs.State.{unlinking}
use Rattle.usb_machine.specs.History.{state_of}
use Rattle.usb_machine.specs.Parts.{part_of, held_of, holds_any}
use Rattle.usb_machine.specs.Plain.{Stands, urbs_of}
use Rattle.usb_machine.specs.Calls.{plain_entry, mark_entry, claim_entries, unblock_entries}
use Rattle.usb_scene.specs.declared.scene.Scene.{Scene}
use Rattle.usb_line.specs.declared.run.LineRun.{LineRun}
use Rattle.usb_prepare.specs.Layout.{urb_count}
use Rattle.usb_trace.specs.Plan.{machine_of}
use Rattle.usb_line.specs.Line.{Progress, adds, killing, WaitsFor}
use Rattle.usb_line.specs.Shows.{Shows}
use Rattle.usb_line.specs.Calls.{MayKill}
use Rattle.usb_trace.proofs.Entries.{own_state, grows}
use Rattle.usb_line.proofs.Held.{rejects_at, no_reject, one_reject, holds_reject}
use Rattle.usb_line.proofs.Waits.{wait_turned, wait_quiet}
use Rattle.usb_line.proofs.Showing.{shows_still}

-- the machine has the URBs of the scene
pub plain_urbs : (s : Scene) (f : Progress) (run : LineRun) → Shows s f run → urbs_of run.plain ≡ urb_count s
plain_urbs s f run shows = shows.stands.urbs

module _ (s : Scene) (f : Progress) (run : LineRun) (p u : ℕ) (may : MayKill s f run p u) where
  abbrev reject : Entry
  reject = plain_entry p (Reject record { 0 = u })

  abbrev mark : Entry
  mark = mark_entry p Kill u (unlinking (state_of f.history u))

  -- the reject and the mark were made
  pub shows_killing : (after : Plain) (a : Code) → a ≡ unlinking (state_of (f.history ++ reject ∷ []) u) → Stands after (machine_of s) ((f.history ++ reject ∷ []) ++ mark_entry p Kill u a ∷ [])
      → Shows s (killing p u f) (record run { plain = after })
  shows_killing after a told stands =
      let same : a ≡ unlinking (state_of f.history u) = told ∙ ap unlinking (own_state u f.history (reject ∷ []) (tt, refl, tt)) in
      shows_still s f (reject ∷ mark ∷ []) (tt, (tt, tt)) run after may.shows
      (subst (Stands after (machine_of s)) (append_assoc f.history (reject ∷ []) (mark ∷ []))
      (subst (λ (a : Code). Stands after (machine_of s) ((f.history ++ reject ∷ []) ++ mark_entry p Kill u a ∷ [])) same stands))

  module _ (m : Progress) (waits : WaitsFor s u (killing p u f) m) where
    -- the pass holds the reject
    pub reject_held : 0 < rejects_at u (part_of m.history p)
    reject_held =
        let part : part_of m.history p ≡ (part_of f.history p ++ reject ∷ []) ++ mark ∷ []
        = (wait_turned s u (killing p u f) m waits).parts p may.other ∙ (grows p f.history (reject ∷ mark ∷ []) (refl, (refl, tt)) ∙ sym (append_assoc (part_of f.history p) (reject ∷ []) (mark ∷ []))) in
        let split : rejects_at u (part_of m.history p) ≡ rejects_at u ((part_of f.history p ++ reject ∷ []) ++ mark ∷ []) = ap (rejects_at u) part in
        let on = no_reject u (part_of f.history p ++ reject ∷ []) (mark ∷ []) (tt, tt) in
        let up = one_reject u (part_of f.history p) p u in
        let one : cond {A = ℕ} (eqb u u) 1 0 ≡ 1 = ap (λ b. cond {A = ℕ} b 1 0) (eq-eqb u u refl) in omega arith

    pub reject_holds : holds_any (held_of (part_of m.history p) u) ≡ true
    reject_holds = holds_reject (held_of (part_of m.history p) u) reject_held

    pub quiet_then : ((state_of m.history u).queued ≡ false) × ((state_of m.history u).handlers ≡ 0)
    quiet_then = wait_quiet s u (killing p u f) m waits

    -- what rested was claimed
    pub shows_claim : (now : LineRun) (after : Plain) (rest : Option ℕ) → Shows s m now → rest ≡ (state_of m.history u).rest → Stands after (machine_of s) (m.history ++ claim_entries p u rest)
        → Shows s (adds m (claim_entries p u (state_of m.history u).rest)) (record now { plain = after })
    shows_claim now after rest shows told stands = shows_still s m (claim_entries p u (state_of m.history u).rest) (tt, (tt, tt)) now after shows
        (subst (λ (r : Option ℕ). Stands after (machine_of s) (m.history ++ claim_entries p u r)) told stands)

    abbrev claims : List Entry
    claims = claim_entries p u (state_of m.history u).rest

    pub still_held : 0 < rejects_at u (part_of (m.history ++ claims) p)
    still_held =
        let part = grows p m.history claims (refl, (refl, tt)) in
        let same = ap (rejects_at u) part ∙ no_reject u (part_of m.history p) claims (tt, (tt, tt)) in
        let held = reject_held in omega arith

    -- and the reject was withdrawn
    pub shows_withdrawn : (now : LineRun) (after : Plain) → Shows s (adds m claims) now → Stands after (machine_of s) ((m.history ++ claims) ++ plain_entry p (Withdraw record { 0 = u }) ∷ [])
        → Shows s (adds m (claims ++ unblock_entries p u)) (record now { plain = after })
    shows_withdrawn now after shows stands =
        subst (λ h. Shows s (record m { history = h }) (record now { plain = after })) (append_assoc m.history claims (unblock_entries p u))
        (shows_still s (adds m claims) (unblock_entries p u) (tt, tt) now after shows stands)
