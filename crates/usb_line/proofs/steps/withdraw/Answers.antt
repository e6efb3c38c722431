use Rattle.std.proofs.Common.{None}
use Rattle.usb_machine.specs.declared.event.Answer.TheVariants.{Nothing}
use Rattle.usb_line.proofs.MayFollow.{withdraw_follows}
use Rattle.usb_line.proofs.steps.withdraw.Goals as goal

pub returns-clause-withdrawn : goal.returns-clause-withdrawn
returns-clause-withdrawn c s h stands there held =
    let u = c.args.urb.0 in (c.enter.ensures.entered s h Nothing None stands (withdraw_follows s h c.args.pass u there held) tt).1
