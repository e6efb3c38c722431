use Rattle.usb_text.proofs.BackBytes.{data_of-hex_text}
use Rattle.usb_text.proofs.laws.data_reads_back.Goals as goal

pub returns : goal.returns
returns c = data_of-hex_text
