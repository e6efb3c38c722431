use Rattle.std.proofs.Common.{◌≡◌, true, ◌++◌, None, subst, sym, refl, ap, ◌∙◌}
use Rattle.usb_machine.specs.declared.event.Event.TheVariants.{Claim}
use Rattle.usb_machine.specs.declared.event.Answer.TheVariants.{Number}
use Rattle.usb_machine.specs.Parts.{keeps}
use Rattle.usb_machine.specs.Calls.{entry}
use Rattle.usb_machine.specs.HostCalls.{rested_of, number_of}
use Rattle.usb_turn.specs.Pass.{left}
use Rattle.usb_turn.specs.Shown.{id_of}
use Rattle.usb_turn_host.specs.Setup.{setup_of}
use Rattle.usb_turn_host.specs.Stock.{IsStock}
use Rattle.usb_turn_host.proofs.Turns.{moves, spin, named, snoc_front}
use Rattle.usb_turn_host.proofs.host.TurnHost.take_rest.Goals as goal

pub leave-requires-clause-stands : goal.leave-requires-clause-stands
leave-requires-clause-stands g c =
    let setup = setup_of c.args.self.now.turns in
    let p = c.args.pass.now in
    let q = c.enter-stock.new.pass in
    let e = c.enter-stock.ensures in
    let new = c.claim-rested.new.self in
    let event = Claim c.args.urb in
    let answer = Number (number_of c.claim-rested.result) in
    let stands = moves (id_of c.args.self.now.turns) setup p q c.enter-stock.result new event answer None c.requires.here e.same e.begins e.own e.stands e.key
    c.number.result c.number.ensures (λ h l. (subst (λ m. keeps m c.args.urb.0 ≡ true) (sym l.own) c.requires.kept, tt)) refl c.claim-rested.ensures.stands in
    subst (λ l. IsStock new (q.seen ++ l)) (sym (named q.number new event answer c.claim-rested.ensures.made)) stands

pub returns-clause-here : goal.returns-clause-here
returns-clause-here g c =
    let setup = setup_of c.args.self.now.turns in
    let p = c.args.pass.now in
    let q = c.enter-stock.new.pass in
    let e = c.enter-stock.ensures in
    let new = c.claim-rested.new.self in
    let event = Claim c.args.urb in
    let answer = Number (number_of c.claim-rested.result) in
    let stands = moves (id_of c.args.self.now.turns) setup p q c.enter-stock.result new event answer None c.requires.here e.same e.begins e.own e.stands e.key
    c.number.result c.number.ensures (λ h l. (subst (λ m. keeps m c.args.urb.0 ≡ true) (sym l.own) c.requires.kept, tt)) refl c.claim-rested.ensures.stands in
    (spin (id_of c.args.self.now.turns) setup p q c.enter-stock.result new event answer None c.requires.here e.same e.begins e.own e.stands e.key
    c.leave.new.pass c.claim-rested.ensures.setup stands (c.leave.ensures.same ∙ ap (left q) (named q.number new event answer c.claim-rested.ensures.made)) c.leave.ensures.own).0

pub returns-clause-fresh : goal.returns-clause-fresh
returns-clause-fresh g c =
    let setup = setup_of c.args.self.now.turns in
    let p = c.args.pass.now in
    let q = c.enter-stock.new.pass in
    let e = c.enter-stock.ensures in
    let new = c.claim-rested.new.self in
    let event = Claim c.args.urb in
    let answer = Number (number_of c.claim-rested.result) in
    let stands = moves (id_of c.args.self.now.turns) setup p q c.enter-stock.result new event answer None c.requires.here e.same e.begins e.own e.stands e.key
    c.number.result c.number.ensures (λ h l. (subst (λ m. keeps m c.args.urb.0 ≡ true) (sym l.own) c.requires.kept, tt)) refl c.claim-rested.ensures.stands in
    (spin (id_of c.args.self.now.turns) setup p q c.enter-stock.result new event answer None c.requires.here e.same e.begins e.own e.stands e.key
    c.leave.new.pass c.claim-rested.ensures.setup stands (c.leave.ensures.same ∙ ap (left q) (named q.number new event answer c.claim-rested.ensures.made)) c.leave.ensures.own).1

pub returns-clause-rested : goal.returns-clause-rested
returns-clause-rested g c before last is =
    let setup = setup_of c.args.self.now.turns in
    let p = c.args.pass.now in
    let q = c.enter-stock.new.pass in
    let e = c.enter-stock.ensures in
    let new = c.claim-rested.new.self in
    let event = Claim c.args.urb in
    let answer = Number (number_of c.claim-rested.result) in
    let stands = moves (id_of c.args.self.now.turns) setup p q c.enter-stock.result new event answer None c.requires.here e.same e.begins e.own e.stands e.key
    c.number.result c.number.ensures (λ h l. (subst (λ m. keeps m c.args.urb.0 ≡ true) (sym l.own) c.requires.kept, tt)) refl c.claim-rested.ensures.stands in
    let seen = (spin (id_of c.args.self.now.turns) setup p q c.enter-stock.result new event answer None c.requires.here e.same e.begins e.own e.stands e.key
    c.leave.new.pass c.claim-rested.ensures.setup stands (c.leave.ensures.same ∙ ap (left q) (named q.number new event answer c.claim-rested.ensures.made)) c.leave.ensures.own).2 in
    c.claim-rested.ensures.rested q.seen e.stands ∙ ap (λ h. rested_of h c.args.urb.0) (snoc_front q.seen before (entry q.number event answer None) last (sym seen ∙ is))
