use Rattle.usb_machine.proofs.Mays.{home_by_row}
use Rattle.usb_machine.proofs.plain.Plain.has_home.Goals as goal

pub returns : goal.returns
returns c g h s = home_by_row c.args.self.now g h s c.args.urb.0 c.is_some.result c.index.result.now c.requires c.index.ensures c.is_some.ensures
