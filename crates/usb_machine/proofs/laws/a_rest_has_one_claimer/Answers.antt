use Rattle.usb_machine.proofs.Claims.{claims_last}
use Rattle.usb_machine.proofs.laws.a_rest_has_one_claimer.Goals as goal

pub returns : goal.returns
returns c = claims_last
