use Rattle.usb_bind.proofs.Agreeing.{claim_agrees}
use Rattle.usb_bind.proofs.laws.a_claim_keeps_urbs_apart.Goals as goal

pub returns : goal.returns
returns c = claim_agrees
