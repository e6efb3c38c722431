use Rattle.std.proofs.Common.{ℕ, ◌≡◌, ◌++◌, ◌∷◌, [], Option, None, List, sym, ap, ◌∙◌, subst, append_assoc, true, refl}
use Rattle.usb_machine.specs.declared.event.Event.TheVariants.{Quiet, Claim}
use Rattle.usb_machine.specs.declared.event.Answer.TheVariants.{Number}
use Rattle.usb_machine.specs.declared.entry.Entry.{Entry}
use Rattle.usb_machine.specs.declared.state.UrbState.{UrbState}
use Rattle.usb_machine.specs.History.{state_of}
use Rattle.usb_machine.specs.Parts.{part_of, keeps}
use Rattle.usb_machine.specs.Plain.{Stands}
use Rattle.usb_machine.specs.Calls.{entry, plain_entry}
use Rattle.usb_machine.proofs.Steps.{part_own}
use Rattle.usb_trace.specs.Plan.{machine_of}
use Rattle.usb_line.specs.Steps.{told_number}
use Rattle.usb_trace.proofs.Entries.{own_state}
use Rattle.usb_line.proofs.MayFollow.{claim_follows}
use Rattle.usb_line.proofs.Held.{quiet_keeps}
use Rattle.usb_line.proofs.steps.claim.Goals as goal

pub returns-clause-claimed : goal.returns-clause-claimed
returns-clause-claimed c s h stands there queued handlers holds =
    let u = c.args.urb.0 in let p = c.args.pass in
    let quiet : Entry = plain_entry p (Quiet record { 0 = u }) in
    let at : List Entry = h ++ quiet ∷ [] in
    let same : (state_of at u).rest ≡ (state_of h u).rest = ap (λ (t : UrbState). t.rest) (own_state u h (quiet ∷ []) (tt, refl, tt)) in
    let kept : keeps (part_of at p) u ≡ true = ap (λ m. keeps m u) (part_own h quiet) ∙ quiet_keeps (part_of h p) p u holds in
    let done = c.enter.ensures.entered s at (Number (state_of at u).rest) None (c.see_quiet.ensures.seen s h stands there queued handlers) (claim_follows s at p u there kept) tt in
    let told = c.number_in.ensures ∙ ap told_number done.0 in (
      told ∙ same,
      subst (Stands c.enter.new.plain (machine_of s)) (append_assoc h (quiet ∷ []) _)
          (subst (λ (n : Option ℕ). Stands c.enter.new.plain (machine_of s) (at ++ entry p (Claim record { 0 = u }) (Number n) None ∷ [])) (sym told) done.1),
    )
