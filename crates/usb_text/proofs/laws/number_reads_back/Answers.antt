use Rattle.usb_text.proofs.Back.{number_of-decimal}
use Rattle.usb_text.proofs.laws.number_reads_back.Goals as goal

pub returns : goal.returns
returns c = number_of-decimal
