use Rattle.usb_device.proofs.Counting.{enumerated}
use Rattle.usb_device.proofs.laws.an_enumeration_uses_no_item.Goals as goal

pub returns : goal.returns
returns c = enumerated
