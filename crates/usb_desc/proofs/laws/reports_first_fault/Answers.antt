use Rattle.usb_desc.proofs.FirstFaults.{is_first}
use Rattle.usb_desc.proofs.laws.reports_first_fault.Goals as goal

pub returns : goal.returns
returns c = is_first
