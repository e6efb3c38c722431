use Rattle.usb_bind.proofs.ByNumber.{by_number}
use Rattle.usb_bind.proofs.laws.an_interface_is_found_by_its_number.Goals as goal

pub returns : goal.returns
returns c = by_number
