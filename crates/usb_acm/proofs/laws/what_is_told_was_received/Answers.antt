use Rattle.usb_acm.proofs.Told.{told_is_received}
use Rattle.usb_acm.proofs.laws.what_is_told_was_received.Goals as goal

pub returns : goal.returns
returns c = told_is_received
