use Rattle.std.proofs.Common.{true≢false, sym, subst, List, ℕ, IsTrue, ◌↔◌, ◌<◌}
use Rattle.usb_machine.specs.Legal.{times}
use Rattle.usb_machine.proofs.Mays.{homeless, home_pending, contains_times}
use Rattle.usb_machine.proofs.plain.Plain.is_pending.Goals as goal

pub returns-in-None : goal.returns-in-None
returns-in-None c g h s = (λ t. absurd (true≢false (sym t)), λ k. absurd (homeless c.args.self.now g h s c.args.urb.0 c.index.result.now c.requires c.index.ensures c.in-None.is k))

pub returns-in-Some : goal.returns-in-Some
returns-in-Some c g h s =
    let u = c.args.urb.0 in let q = c.index-in-Some.result.now in
    let same = home_pending c.args.self.now g h s u c.in-Some.ep c.index.result.now q c.requires c.index.ensures c.in-Some.is c.index-in-Some.ensures in
    let here = contains_times u q.pending.items in let e = c.is_pending.ensures in
    subst (λ (us : List ℕ). IsTrue c.is_pending.result ↔ (0 < times u us)) same (λ t. here.0 (e.0 t), λ k. e.1 (here.1 k))
