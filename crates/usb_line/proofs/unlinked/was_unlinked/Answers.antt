use Rattle.std.proofs.Common.{ap, ◌∙◌}
use Rattle.std.specs.Prelude.{is_some}
use Rattle.usb_machine.specs.History.{state_of}
use Rattle.usb_trace.specs.Plan.{machine_of}
use Rattle.usb_line.proofs.Scanning.{unlinked_why}
use Rattle.usb_line.proofs.unlinked.was_unlinked.Goals as goal

pub returns : goal.returns
returns c s h stands = c.is_some.ensures ∙ (ap is_some (c.mark.ensures (machine_of s) h stands) ∙ unlinked_why (state_of h c.args.urb.0).mark)
