use Rattle.usb_bind.proofs.Undone.{cancel_undoes}
use Rattle.usb_bind.proofs.laws.a_cancel_undoes_a_probe.Goals as goal

pub returns : goal.returns
returns c = cancel_undoes
