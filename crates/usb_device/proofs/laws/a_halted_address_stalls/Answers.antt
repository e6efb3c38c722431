use Rattle.usb_device.proofs.Counting.{halted_stalls}
use Rattle.usb_device.proofs.laws.a_halted_address_stalls.Goals as goal

pub returns : goal.returns
returns c = halted_stalls
