use Rattle.usb_bind.proofs.Roles.{urb_for_each}
use Rattle.usb_bind.proofs.laws.a_binding_has_its_urbs.Goals as goal

pub returns : goal.returns
returns c = urb_for_each
