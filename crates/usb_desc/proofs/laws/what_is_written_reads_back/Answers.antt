use Rattle.usb_desc.proofs.Whole.{tree_again}
use Rattle.usb_desc.proofs.laws.what_is_written_reads_back.Goals as goal

pub returns : goal.returns
returns c = tree_again
