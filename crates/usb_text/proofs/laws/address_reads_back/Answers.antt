use Rattle.usb_text.proofs.Back.{address_of-hex_pair}
use Rattle.usb_text.proofs.laws.address_reads_back.Goals as goal

pub returns : goal.returns
returns c = address_of-hex_pair
