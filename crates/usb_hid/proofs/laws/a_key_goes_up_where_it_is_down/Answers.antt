use Rattle.usb_hid.proofs.Held.{up_from_down}
use Rattle.usb_hid.proofs.laws.a_key_goes_up_where_it_is_down.Goals as goal

pub returns : goal.returns
returns c = up_from_down
