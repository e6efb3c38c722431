use Rattle.std.proofs.Common.{◌≡◌, ◌<◌, ◌^◌, ◌++◌, None, subst, sym, refl, ap, ◌∙◌}
use Rattle.usb_machine.specs.declared.entry.Entry.{Entry}
use Rattle.usb_machine.specs.declared.entry.TheConstants.{SERVER}
use Rattle.usb_machine.specs.declared.event.Event.TheVariants.{Give}
use Rattle.usb_machine.specs.declared.event.Answer.TheVariants.{Code as Status}
use Rattle.usb_machine.specs.History.{home_of}
use Rattle.usb_machine.specs.Legal.{times}
use Rattle.usb_turn.specs.Pass.{Pass, left}
use Rattle.usb_turn.specs.Shown.{id_of}
use Rattle.usb_turn_host.specs.Setup.{setup_of}
use Rattle.usb_turn_host.specs.Stock.{IsStock, machine_of}
use Rattle.usb_turn_host.specs.Turning.{known_of}
use Rattle.usb_turn_host.proofs.Turns.{moves, spin, named}
use Rattle.usb_turn_host.proofs.Later.{pending_later, marked_later, few_later}
use Rattle.usb_turn_host.proofs.host.TurnHost.hand_back.Goals as goal

pub leave-requires-clause-stands : goal.leave-requires-clause-stands
leave-requires-clause-stands g c =
    let setup = setup_of c.args.self.now.turns in
    let p = c.args.pass.now in
    let q = c.enter-stock.new.pass in
    let e = c.enter-stock.ensures in
    let number : q.number ≡ SERVER = ap (λ (z : Pass Entry). z.number) e.same ∙ c.requires.server in
    let new = c.give-code.new.self in
    let event = Give c.args.urb in
    let answer = Status c.give-code.result in
    let stands = moves (id_of c.args.self.now.turns) setup p q c.enter-stock.result new event answer None c.requires.here e.same e.begins e.own e.stands e.key
    SERVER (sym number) (λ h l. ((c.requires.server, subst (λ us. 0 < times c.args.urb.0 us) (sym (pending_later (machine_of setup) (known_of p) h c.requires.server l (home_of (machine_of setup) c.args.urb.0))) c.requires.pending, marked_later (machine_of setup) (known_of p) h c.requires.server l c.args.urb.0 c.requires.here.own c.requires.marked), few_later (machine_of setup) (known_of p) h c.requires.server l c.args.urb.0 (2 ^ 63) c.requires.few)) refl c.give-code.ensures.stands in
    let made = named q.number new event answer c.give-code.ensures.made in
    subst (λ l. IsStock new (q.seen ++ l)) (sym made) stands

pub returns-clause-here : goal.returns-clause-here
returns-clause-here g c =
    let setup = setup_of c.args.self.now.turns in
    let p = c.args.pass.now in
    let q = c.enter-stock.new.pass in
    let e = c.enter-stock.ensures in
    let number : q.number ≡ SERVER = ap (λ (z : Pass Entry). z.number) e.same ∙ c.requires.server in
    let new = c.give-code.new.self in
    let event = Give c.args.urb in
    let answer = Status c.give-code.result in
    let stands = moves (id_of c.args.self.now.turns) setup p q c.enter-stock.result new event answer None c.requires.here e.same e.begins e.own e.stands e.key
    SERVER (sym number) (λ h l. ((c.requires.server, subst (λ us. 0 < times c.args.urb.0 us) (sym (pending_later (machine_of setup) (known_of p) h c.requires.server l (home_of (machine_of setup) c.args.urb.0))) c.requires.pending, marked_later (machine_of setup) (known_of p) h c.requires.server l c.args.urb.0 c.requires.here.own c.requires.marked), few_later (machine_of setup) (known_of p) h c.requires.server l c.args.urb.0 (2 ^ 63) c.requires.few)) refl c.give-code.ensures.stands in
    let made = named q.number new event answer c.give-code.ensures.made in
    (spin (id_of c.args.self.now.turns) setup p q c.enter-stock.result new event answer None c.requires.here e.same e.begins e.own e.stands e.key
    c.leave.new.pass c.give-code.ensures.setup stands (c.leave.ensures.same ∙ ap (left q) made) c.leave.ensures.own).0

pub returns-clause-fresh : goal.returns-clause-fresh
returns-clause-fresh g c =
    let setup = setup_of c.args.self.now.turns in
    let p = c.args.pass.now in
    let q = c.enter-stock.new.pass in
    let e = c.enter-stock.ensures in
    let number : q.number ≡ SERVER = ap (λ (z : Pass Entry). z.number) e.same ∙ c.requires.server in
    let new = c.give-code.new.self in
    let event = Give c.args.urb in
    let answer = Status c.give-code.result in
    let stands = moves (id_of c.args.self.now.turns) setup p q c.enter-stock.result new event answer None c.requires.here e.same e.begins e.own e.stands e.key
    SERVER (sym number) (λ h l. ((c.requires.server, subst (λ us. 0 < times c.args.urb.0 us) (sym (pending_later (machine_of setup) (known_of p) h c.requires.server l (home_of (machine_of setup) c.args.urb.0))) c.requires.pending, marked_later (machine_of setup) (known_of p) h c.requires.server l c.args.urb.0 c.requires.here.own c.requires.marked), few_later (machine_of setup) (known_of p) h c.requires.server l c.args.urb.0 (2 ^ 63) c.requires.few)) refl c.give-code.ensures.stands in
    let made = named q.number new event answer c.give-code.ensures.made in
    (spin (id_of c.args.self.now.turns) setup p q c.enter-stock.result new event answer None c.requires.here e.same e.begins e.own e.stands e.key
    c.leave.new.pass c.give-code.ensures.setup stands (c.leave.ensures.same ∙ ap (left q) made) c.leave.ensures.own).1
