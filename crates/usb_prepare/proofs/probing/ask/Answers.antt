use Rattle.usb_prepare.proofs.Answering.{asks}
use Rattle.usb_prepare.proofs.probing.ask.Goals as goal

pub returns-clause-asked : goal.returns-clause-asked
returns-clause-asked c = asks c.args.device.now c.control.new.self c.args.setup c.control.ensures.0 _ _ c.control.result c.goes_on.result c.control.ensures.1 c.control.ensures.2 c.goes_on.ensures
