use Rattle.usb_desc.proofs.Devices.{device_found}
use Rattle.usb_desc.proofs.laws.a_device_writes_back.Goals as goal

pub returns : goal.returns
returns c = device_found
