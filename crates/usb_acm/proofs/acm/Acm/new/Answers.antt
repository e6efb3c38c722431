use Rattle.std.proofs.Common.{arith}
use Rattle.std.proofs.lemmas.Grind.{common_steps}
use Rattle.usb_acm.proofs.Standing.{after_at_first}
use Rattle.usb_acm.proofs.acm.Acm.new.Goals as goal

pub returns : goal.returns
returns c = after_at_first _ (grind (arith, common_steps))
