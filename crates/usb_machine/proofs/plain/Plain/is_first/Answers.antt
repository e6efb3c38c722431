use Rattle.std.proofs.Common.{true≢false, sym}
use Rattle.usb_machine.proofs.Mays.{homeless, first_times}
use Rattle.usb_machine.proofs.plain.Plain.is_first.Goals as goal

pub returns-in-None : goal.returns-in-None
returns-in-None c g h s = (λ t. absurd (true≢false (sym t)), λ f. absurd (homeless c.args.self.now g h s c.args.urb.0 c.index.result.now c.requires c.index.ensures c.in-None.is (first_times _ _ f)))
