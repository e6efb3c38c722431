use Rattle.usb_device.proofs.Counting.{unhalted_counts}
use Rattle.usb_device.proofs.laws.a_device_without_halts_counts_calls.Goals as goal

pub returns : goal.returns
returns c = unhalted_counts
