use Rattle.usb_device.proofs.Counting.{no_more}
use Rattle.usb_device.proofs.laws.no_more_is_given_than_is_wanted.Goals as goal

pub returns : goal.returns
returns c = no_more
