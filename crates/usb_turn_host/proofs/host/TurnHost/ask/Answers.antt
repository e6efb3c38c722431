use Rattle.std.proofs.Common.{◌≡◌, [], ◌∷◌, ◌++◌, Some, subst, sym, refl, ap, ◌∙◌}
use Rattle.usb_machine.specs.declared.event.Event.TheVariants.{Submit}
use Rattle.usb_machine.specs.declared.event.Answer.TheVariants.{Code as Status}
use Rattle.usb_machine.specs.Calls.{entry}
use Rattle.usb_machine.specs.HostCalls.{answer_of_submit}
use Rattle.usb_turn.specs.Pass.{left}
use Rattle.usb_turn.specs.Shown.{id_of}
use Rattle.usb_turn_host.specs.Setup.{setup_of}
use Rattle.usb_turn_host.specs.Stock.{IsStock, made_by}
use Rattle.usb_turn_host.proofs.Turns.{moves, spin}
use Rattle.usb_turn_host.proofs.host.TurnHost.ask.Goals as goal

pub leave-requires-clause-stands : goal.leave-requires-clause-stands
leave-requires-clause-stands g c =
    let setup = setup_of c.args.self.now.turns in
    let p = c.args.pass.now in
    let q = c.enter-stock.new.pass in
    let e = c.enter-stock.ensures in
    let new = c.submit-asked.new.self in
    let event = Submit c.args.urb c.args.t.number in
    let answer = Status (answer_of_submit c.submit-asked.result) in
    let r = c.requires.transfer in
    let stands = moves (id_of c.args.self.now.turns) setup p q c.enter-stock.result new event answer (Some c.args.t) c.requires.here e.same e.begins e.own e.stands e.key
    c.number.result c.number.ensures (λ h l. (c.requires.home, tt)) (refl, r.0, r.1, r.2) c.submit-asked.ensures.stands in
    let made = subst (λ n. made_by n new ≡ entry n event answer (Some c.args.t) ∷ []) c.number.ensures (c.submit-asked.ensures.made q.seen e.stands) in
    subst (λ l. IsStock new (q.seen ++ l)) (sym made) stands

pub returns-clause-here : goal.returns-clause-here
returns-clause-here g c =
    let setup = setup_of c.args.self.now.turns in
    let p = c.args.pass.now in
    let q = c.enter-stock.new.pass in
    let e = c.enter-stock.ensures in
    let new = c.submit-asked.new.self in
    let event = Submit c.args.urb c.args.t.number in
    let answer = Status (answer_of_submit c.submit-asked.result) in
    let r = c.requires.transfer in
    let stands = moves (id_of c.args.self.now.turns) setup p q c.enter-stock.result new event answer (Some c.args.t) c.requires.here e.same e.begins e.own e.stands e.key
    c.number.result c.number.ensures (λ h l. (c.requires.home, tt)) (refl, r.0, r.1, r.2) c.submit-asked.ensures.stands in
    let made = subst (λ n. made_by n new ≡ entry n event answer (Some c.args.t) ∷ []) c.number.ensures (c.submit-asked.ensures.made q.seen e.stands) in
    (spin (id_of c.args.self.now.turns) setup p q c.enter-stock.result new event answer (Some c.args.t) c.requires.here e.same e.begins e.own e.stands e.key
    c.leave.new.pass c.submit-asked.ensures.setup stands (c.leave.ensures.same ∙ ap (left q) made) c.leave.ensures.own).0

pub returns-clause-fresh : goal.returns-clause-fresh
returns-clause-fresh g c =
    let setup = setup_of c.args.self.now.turns in
    let p = c.args.pass.now in
    let q = c.enter-stock.new.pass in
    let e = c.enter-stock.ensures in
    let new = c.submit-asked.new.self in
    let event = Submit c.args.urb c.args.t.number in
    let answer = Status (answer_of_submit c.submit-asked.result) in
    let r = c.requires.transfer in
    let stands = moves (id_of c.args.self.now.turns) setup p q c.enter-stock.result new event answer (Some c.args.t) c.requires.here e.same e.begins e.own e.stands e.key
    c.number.result c.number.ensures (λ h l. (c.requires.home, tt)) (refl, r.0, r.1, r.2) c.submit-asked.ensures.stands in
    let made = subst (λ n. made_by n new ≡ entry n event answer (Some c.args.t) ∷ []) c.number.ensures (c.submit-asked.ensures.made q.seen e.stands) in
    (spin (id_of c.args.self.now.turns) setup p q c.enter-stock.result new event answer (Some c.args.t) c.requires.here e.same e.begins e.own e.stands e.key
    c.leave.new.pass c.submit-asked.ensures.setup stands (c.leave.ensures.same ∙ ap (left q) made) c.leave.ensures.own).1
