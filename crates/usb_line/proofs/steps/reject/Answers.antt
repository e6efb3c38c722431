use Rattle.std.proofs.Common.{None}
use Rattle.usb_machine.specs.declared.event.Answer.TheVariants.{Nothing}
use Rattle.usb_line.proofs.MayFollow.{reject_follows}
use Rattle.usb_line.proofs.steps.reject.Goals as goal

pub returns-clause-raised : goal.returns-clause-raised
returns-clause-raised c s h stands there held =
    let u = c.args.urb.0 in (c.enter.ensures.entered s h Nothing None stands (reject_follows s h c.args.pass u there) held).1
