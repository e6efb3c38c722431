use Rattle.std.proofs.Common.{ap, sym, subst}
use Rattle.usb_turn_host.specs.Setup.{setup_of}
use Rattle.usb_machine.specs.Fresh.{Known}
use Rattle.usb_machine.specs.Tokens.{IsWholeServer}
use Rattle.usb_turn_host.specs.Stock.{machine_of}
use Rattle.usb_turn_host.specs.Turning.{known_of}
use Rattle.usb_turn_host.specs.Server.{pending_at, HasRooms}
use Rattle.usb_turn_host.proofs.Serving.{whole_push}
use Rattle.usb_turn_host.proofs.host.TurnHost.take.Goals as goal

pub returns-in-Some-clause-whole : goal.returns-in-Some-clause-whole
returns-in-Some-clause-whole g c =
    let machine = machine_of (setup_of c.args.self.now.turns) in
    let old = c.args.server.now in
    let new = c.push.new.self in
    let q = known_of c.take_first.new.pass in
    let same = ap known_of c.push.ensures.rest.0 in
    let whole = whole_push machine (known_of old.pass) q c.args.ep c.in-Some.urb old.pending.items new.pending.items old.given c.in-Some.ensures.took.0 c.requires.end c.requires.whole c.push.ensures.pushed in
    subst (λ (k : Known). IsWholeServer machine k (pending_at new.pending.items) new.given (λ m. HasRooms m new.pending.items)) (sym same)
    (subst (λ n. IsWholeServer machine q (pending_at new.pending.items) n (λ m. HasRooms m new.pending.items)) (sym c.push.ensures.rest.1) whole)
