use Rattle.usb_desc.proofs.Devices.{device_again}
use Rattle.usb_desc.proofs.laws.a_device_reads_back.Goals as goal

pub returns : goal.returns
returns c = device_again
