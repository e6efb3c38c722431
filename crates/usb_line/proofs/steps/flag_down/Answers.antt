use Rattle.std.proofs.Common.{None}
use Rattle.usb_types.specs.declared.urb.Flag.TheVariants.{Down}
use Rattle.usb_machine.specs.declared.event.Answer.TheVariants.{Nothing}
use Rattle.usb_line.proofs.MayFollow.{flag_follows}
use Rattle.usb_line.proofs.steps.flag_down.Goals as goal

pub returns-clause-flagged : goal.returns-clause-flagged
returns-clause-flagged c s h stands flag = (c.enter.ensures.entered s h Nothing None stands (flag_follows s h c.args.urb.0 Down flag) tt).1
