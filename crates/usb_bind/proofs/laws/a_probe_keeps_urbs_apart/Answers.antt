use Rattle.usb_bind.proofs.Agreeing.{probe_agrees}
use Rattle.usb_bind.proofs.laws.a_probe_keeps_urbs_apart.Goals as goal

pub returns : goal.returns
returns c = probe_agrees
