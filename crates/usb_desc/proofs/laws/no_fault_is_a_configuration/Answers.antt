use Rattle.usb_desc.proofs.FirstFaults.{is_configuration}
use Rattle.usb_desc.proofs.laws.no_fault_is_a_configuration.Goals as goal

pub returns : goal.returns
returns c = is_configuration
