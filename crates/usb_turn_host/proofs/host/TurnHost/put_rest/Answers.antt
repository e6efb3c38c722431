use Rattle.std.proofs.Common.{◌≡◌, [], ◌∷◌, ◌++◌, Some, subst, sym, refl, ap, ◌∙◌}
use Rattle.usb_machine.specs.declared.entry.Entry.{Entry}
use Rattle.usb_machine.specs.declared.entry.TheConstants.{SERVER}
use Rattle.usb_machine.specs.declared.event.Event.TheVariants.{Rest}
use Rattle.usb_machine.specs.declared.event.Answer.TheVariants.{Nothing}
use Rattle.usb_machine.specs.Calls.{entry}
use Rattle.usb_turn.specs.Pass.{Pass, left}
use Rattle.usb_turn.specs.Shown.{id_of}
use Rattle.usb_turn_host.specs.Setup.{setup_of}
use Rattle.usb_turn_host.specs.Stock.{IsStock, machine_of, made_by}
use Rattle.usb_turn_host.specs.Turning.{known_of}
use Rattle.usb_turn_host.proofs.Turns.{moves, spin}
use Rattle.usb_turn_host.proofs.Later.{runs_later}
use Rattle.usb_turn_host.proofs.host.TurnHost.put_rest.Goals as goal

pub leave-requires-clause-stands : goal.leave-requires-clause-stands
leave-requires-clause-stands g c =
    let setup = setup_of c.args.self.now.turns in
    let p = c.args.pass.now in
    let q = c.enter-stock.new.pass in
    let e = c.enter-stock.ensures in
    let number : q.number ≡ SERVER = ap (λ (z : Pass Entry). z.number) e.same ∙ c.requires.server in
    let new = c.rest.new.self in
    let event = Rest c.args.urb c.args.t.number in
    let stands = moves (id_of c.args.self.now.turns) setup p q c.enter-stock.result new event Nothing (Some c.args.t) c.requires.here e.same e.begins e.own e.stands e.key
    SERVER (sym number) (λ h l. ((c.requires.server, runs_later (machine_of setup) (known_of p) h c.requires.server l c.args.urb.0 refl c.requires.here.own c.requires.runs), tt)) (refl, c.requires.transfer) c.rest.ensures.stands in
    let made = subst (λ n. made_by n new ≡ entry n event Nothing (Some c.args.t) ∷ []) (sym number) c.rest.ensures.made in
    subst (λ l. IsStock new (q.seen ++ l)) (sym made) stands

pub returns-clause-here : goal.returns-clause-here
returns-clause-here g c =
    let setup = setup_of c.args.self.now.turns in
    let p = c.args.pass.now in
    let q = c.enter-stock.new.pass in
    let e = c.enter-stock.ensures in
    let number : q.number ≡ SERVER = ap (λ (z : Pass Entry). z.number) e.same ∙ c.requires.server in
    let new = c.rest.new.self in
    let event = Rest c.args.urb c.args.t.number in
    let stands = moves (id_of c.args.self.now.turns) setup p q c.enter-stock.result new event Nothing (Some c.args.t) c.requires.here e.same e.begins e.own e.stands e.key
    SERVER (sym number) (λ h l. ((c.requires.server, runs_later (machine_of setup) (known_of p) h c.requires.server l c.args.urb.0 refl c.requires.here.own c.requires.runs), tt)) (refl, c.requires.transfer) c.rest.ensures.stands in
    let made = subst (λ n. made_by n new ≡ entry n event Nothing (Some c.args.t) ∷ []) (sym number) c.rest.ensures.made in
    (spin (id_of c.args.self.now.turns) setup p q c.enter-stock.result new event Nothing (Some c.args.t) c.requires.here e.same e.begins e.own e.stands e.key
    c.leave.new.pass c.rest.ensures.setup stands (c.leave.ensures.same ∙ ap (left q) made) c.leave.ensures.own).0

pub returns-clause-fresh : goal.returns-clause-fresh
returns-clause-fresh g c =
    let setup = setup_of c.args.self.now.turns in
    let p = c.args.pass.now in
    let q = c.enter-stock.new.pass in
    let e = c.enter-stock.ensures in
    let number : q.number ≡ SERVER = ap (λ (z : Pass Entry). z.number) e.same ∙ c.requires.server in
    let new = c.rest.new.self in
    let event = Rest c.args.urb c.args.t.number in
    let stands = moves (id_of c.args.self.now.turns) setup p q c.enter-stock.result new event Nothing (Some c.args.t) c.requires.here e.same e.begins e.own e.stands e.key
    SERVER (sym number) (λ h l. ((c.requires.server, runs_later (machine_of setup) (known_of p) h c.requires.server l c.args.urb.0 refl c.requires.here.own c.requires.runs), tt)) (refl, c.requires.transfer) c.rest.ensures.stands in
    let made = subst (λ n. made_by n new ≡ entry n event Nothing (Some c.args.t) ∷ []) (sym number) c.rest.ensures.made in
    (spin (id_of c.args.self.now.turns) setup p q c.enter-stock.result new event Nothing (Some c.args.t) c.requires.here e.same e.begins e.own e.stands e.key
    c.leave.new.pass c.rest.ensures.setup stands (c.leave.ensures.same ∙ ap (left q) made) c.leave.ensures.own).1
