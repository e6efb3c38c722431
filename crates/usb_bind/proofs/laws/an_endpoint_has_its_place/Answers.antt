use Rattle.usb_bind.proofs.Placed.{end_placed}
use Rattle.usb_bind.proofs.laws.an_endpoint_has_its_place.Goals as goal

pub returns : goal.returns
returns c = end_placed
