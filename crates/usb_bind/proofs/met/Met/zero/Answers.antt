use Rattle.std.proofs.Common.{refl}
use Rattle.usb_bind.proofs.Meets.{met_zero}
use Rattle.usb_bind.proofs.met.Met.zero.Goals as goal

pub returns : goal.returns
returns c = met_zero _ refl refl
