use Rattle.usb_acm.proofs.Told.{all_are_counted}
use Rattle.usb_acm.proofs.laws.each_byte_is_received_or_dropped.Goals as goal

pub returns : goal.returns
returns c = all_are_counted
