use Rattle.usb_bind.proofs.Probing.{binds}
use Rattle.usb_bind.proofs.laws.what_a_probe_binds.Goals as goal

pub returns : goal.returns
returns c = binds
