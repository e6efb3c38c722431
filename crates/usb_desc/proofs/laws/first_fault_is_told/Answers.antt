use Rattle.usb_desc.proofs.FirstFaults.{first_told}
use Rattle.usb_desc.proofs.laws.first_fault_is_told.Goals as goal

pub returns : goal.returns
returns c = first_told
