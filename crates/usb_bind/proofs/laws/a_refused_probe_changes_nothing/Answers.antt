use Rattle.usb_bind.proofs.Probing.{refused}
use Rattle.usb_bind.proofs.laws.a_refused_probe_changes_nothing.Goals as goal

pub returns : goal.returns
returns c = refused
