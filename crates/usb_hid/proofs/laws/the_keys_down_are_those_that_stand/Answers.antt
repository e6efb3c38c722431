use Rattle.usb_hid.proofs.Held.{down_is_held}
use Rattle.usb_hid.proofs.laws.the_keys_down_are_those_that_stand.Goals as goal

pub returns : goal.returns
returns c = down_is_held
