use Rattle.std.proofs.Common.{None}
use Rattle.usb_machine.specs.declared.event.Answer.TheVariants.{Nothing}
use Rattle.usb_line.proofs.MayFollow.{quiet_follows}
use Rattle.usb_line.proofs.steps.see_quiet.Goals as goal

pub returns-clause-seen : goal.returns-clause-seen
returns-clause-seen c s h stands there queued handlers =
    let u = c.args.urb.0 in (c.enter.ensures.entered s h Nothing None stands (quiet_follows s h c.args.pass u there queued handlers) tt).1
