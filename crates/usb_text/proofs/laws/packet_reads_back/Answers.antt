use Rattle.usb_text.proofs.BackBytes.{payload_of-packet_text}
use Rattle.usb_text.proofs.laws.packet_reads_back.Goals as goal

pub returns : goal.returns
returns c = payload_of-packet_text
