use Rattle.usb_hid.proofs.Held.{down_from_up}
use Rattle.usb_hid.proofs.laws.a_key_goes_down_where_it_is_up.Goals as goal

pub returns : goal.returns
returns c = down_from_up
