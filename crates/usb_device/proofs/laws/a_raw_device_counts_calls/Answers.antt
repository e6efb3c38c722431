use Rattle.usb_device.proofs.Counting.{raw_counts}
use Rattle.usb_device.proofs.laws.a_raw_device_counts_calls.Goals as goal

pub returns : goal.returns
returns c = raw_counts
