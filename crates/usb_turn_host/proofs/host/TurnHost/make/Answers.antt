use Rattle.std.proofs.Common.{◌++◌, None, subst, sym, refl, ap, ◌∙◌}
use Rattle.usb_turn.specs.Pass.{left}
use Rattle.usb_turn.specs.Shown.{id_of}
use Rattle.usb_turn_host.specs.Setup.{setup_of}
use Rattle.usb_turn_host.specs.Stock.{IsStock}
use Rattle.usb_turn_host.proofs.Turns.{makes, turn, named}
use Rattle.usb_turn_host.proofs.host.TurnHost.make.Goals as goal
use Rattle.usb_turn_host.proofs.host.TurnHost.make.Goals.{After-leave}

pub leave-requires-clause-stands : goal.leave-requires-clause-stands
leave-requires-clause-stands g c =
    let setup = setup_of c.args.self.now.turns in
    let q = c.enter-stock.new.pass in
    let e = c.enter-stock.ensures in
    let new = c.make-answer.new.self in
    let event = c.args.event in
    let answer = c.make-answer.result in
    let stands = makes (id_of c.args.self.now.turns) setup c.args.pass.now q c.enter-stock.result new event answer None c.requires.here e.same e.begins e.own e.stands e.key
    c.number.result c.number.ensures refl c.requires.may c.requires.still c.make-answer.ensures.stands in
    subst (λ l. IsStock new (q.seen ++ l)) (sym (named q.number new event answer c.make-answer.ensures.made)) stands

pub returns-clause-here : goal.returns-clause-here
returns-clause-here g c =
    let setup = setup_of c.args.self.now.turns in
    let q = c.enter-stock.new.pass in
    let e = c.enter-stock.ensures in
    let new = c.make-answer.new.self in
    let event = c.args.event in
    let answer = c.make-answer.result in
    let stands = makes (id_of c.args.self.now.turns) setup c.args.pass.now q c.enter-stock.result new event answer None c.requires.here e.same e.begins e.own e.stands e.key
    c.number.result c.number.ensures refl c.requires.may c.requires.still c.make-answer.ensures.stands in
    (turn (id_of c.args.self.now.turns) setup c.args.pass.now q c.enter-stock.result new event answer None c.requires.here e.same e.begins e.own e.stands e.key
    c.leave.new.pass c.make-answer.ensures.setup stands
    (c.leave.ensures.same ∙ ap (left q) (named q.number new event answer c.make-answer.ensures.made)) c.leave.ensures.own (c.make-answer.ensures.answer q.seen e.stands)).0

pub returns-clause-fresh : goal.returns-clause-fresh
returns-clause-fresh g c =
    let setup = setup_of c.args.self.now.turns in
    let q = c.enter-stock.new.pass in
    let e = c.enter-stock.ensures in
    let new = c.make-answer.new.self in
    let event = c.args.event in
    let answer = c.make-answer.result in
    let stands = makes (id_of c.args.self.now.turns) setup c.args.pass.now q c.enter-stock.result new event answer None c.requires.here e.same e.begins e.own e.stands e.key
    c.number.result c.number.ensures refl c.requires.may c.requires.still c.make-answer.ensures.stands in
    (turn (id_of c.args.self.now.turns) setup c.args.pass.now q c.enter-stock.result new event answer None c.requires.here e.same e.begins e.own e.stands e.key
    c.leave.new.pass c.make-answer.ensures.setup stands
    (c.leave.ensures.same ∙ ap (left q) (named q.number new event answer c.make-answer.ensures.made)) c.leave.ensures.own (c.make-answer.ensures.answer q.seen e.stands)).1

pub returns-clause-answered : goal.returns-clause-answered
returns-clause-answered g c =
    let setup = setup_of c.args.self.now.turns in
    let q = c.enter-stock.new.pass in
    let e = c.enter-stock.ensures in
    let new = c.make-answer.new.self in
    let event = c.args.event in
    let answer = c.make-answer.result in
    let stands = makes (id_of c.args.self.now.turns) setup c.args.pass.now q c.enter-stock.result new event answer None c.requires.here e.same e.begins e.own e.stands e.key
    c.number.result c.number.ensures refl c.requires.may c.requires.still c.make-answer.ensures.stands in
    (turn (id_of c.args.self.now.turns) setup c.args.pass.now q c.enter-stock.result new event answer None c.requires.here e.same e.begins e.own e.stands e.key
    c.leave.new.pass c.make-answer.ensures.setup stands
    (c.leave.ensures.same ∙ ap (left q) (named q.number new event answer c.make-answer.ensures.made)) c.leave.ensures.own (c.make-answer.ensures.answer q.seen e.stands)).2
