use Rattle.std.proofs.Common.{refl}
use Rattle.usb_bind.proofs.Meets.{met_none}
use Rattle.usb_bind.proofs.met.Met.none.Goals as goal

pub returns : goal.returns
returns c = met_none _ refl
