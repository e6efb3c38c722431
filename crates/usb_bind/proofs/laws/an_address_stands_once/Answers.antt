use Rattle.usb_bind.proofs.Standing.{ends_stand_once}
use Rattle.usb_bind.proofs.laws.an_address_stands_once.Goals as goal

pub returns : goal.returns
returns c = ends_stand_once
