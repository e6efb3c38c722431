use Rattle.std.proofs.Common.{None}
use Rattle.usb_types.specs.declared.urb.Flag.TheVariants.{Down}
use Rattle.usb_machine.specs.declared.event.Answer.TheVariants.{Nothing}
use Rattle.usb_line.proofs.MayFollow.{unflag_follows}
use Rattle.usb_line.proofs.steps.unflag_down.Goals as goal

pub returns-clause-unflagged : goal.returns-clause-unflagged
returns-clause-unflagged c s h stands flag = (c.enter.ensures.entered s h Nothing None stands (unflag_follows s h c.args.urb.0 Down flag) tt).1
