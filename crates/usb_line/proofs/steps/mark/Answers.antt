use Rattle.std.proofs.Common.{◌++◌, ◌∷◌, [], None, sym, ap, ◌∙◌, subst}
use Rattle.usb_types.specs.declared.errno.Code.{Code}
use Rattle.usb_machine.specs.declared.event.Answer.TheVariants.{Code as Status}
use Rattle.usb_machine.specs.State.{unlinking}
use Rattle.usb_machine.specs.History.{state_of}
use Rattle.usb_machine.specs.Plain.{Stands}
use Rattle.usb_machine.specs.Calls.{mark_entry}
use Rattle.usb_trace.specs.Plan.{machine_of}
use Rattle.usb_line.specs.Steps.{told_code}
use Rattle.usb_line.proofs.MayFollow.{mark_follows}
use Rattle.usb_line.proofs.steps.mark.Goals as goal

pub returns-clause-marked : goal.returns-clause-marked
returns-clause-marked c s h stands there =
    let u = c.args.urb.0 in
    let done = c.enter.ensures.entered s h (Status (unlinking (state_of h u))) None stands (mark_follows s h c.args.pass u there c.args.why) tt in
    let same = c.code_in.ensures ∙ ap told_code done.0 in
    (same, subst (λ (a : Code). Stands c.enter.new.plain (machine_of s) (h ++ mark_entry c.args.pass c.args.why u a ∷ [])) (sym same) done.1)
