use Rattle.std.proofs.Common.{refl}
use Rattle.usb_machine.specs.History.{Machine}
use Rattle.usb_machine.specs.Tokens.{Told}
use Rattle.usb_machine.proofs.Rooms.{home_below}
use Rattle.usb_side.specs.Side.{machine_in}
use Rattle.usb_side.proofs.Handling.{came_so, host_stays, first_same, second_same}
use Rattle.usb_side.proofs.giving.complete_here.Goals as goal

pub complete-requires-clause-handles : goal.complete-requires-clause-handles
complete-requires-clause-handles g c κs within =
    let m : Machine = g.H.Host.machine c.args.side.now.host.now in
    let told : Told = g.H.Given.GivenBack.told c.args.given in
    (home_below m told.urb c.requires.home, c.requires.runs)

pub returns-clause-came : goal.returns-clause-came
returns-clause-came g c = λ t is.
    let m : Machine = g.H.Host.machine c.args.side.now.host.now in
    let told : Told = g.H.Given.GivenBack.told c.args.given in
    came_so (machine_in g.H.Host.machine) (c.args.side.now.host.now, c.args.side.now.server.ghost_name) (λ s. (s.host.now, s.server.ghost_name)) (λ s. g.H.Host.known (g.H.Server.Token.own s.server.now)) _ _ _ (λ s u t z k. k) (λ s u t r z k. k) (λ s u z k. k) _ _ _
    c.args.side.now c.complete.new.side record { 0 = told.urb } told.code t c.args.handler.now c.complete.new.handler c.complete.result refl c.requires.whole.whole.number (c.complete.ensures.completed t is)

pub returns-clause-same : goal.returns-clause-same
returns-clause-same g c =
    let m : Machine = g.H.Host.machine c.args.side.now.host.now in
    let told : Told = g.H.Given.GivenBack.told c.args.given in
    let t = c.requires.transfer in
    first_same (host_stays (machine_in g.H.Host.machine) (c.args.side.now.host.now, c.args.side.now.server.ghost_name) (λ s. (s.host.now, s.server.ghost_name)) (λ s. g.H.Host.known (g.H.Server.Token.own s.server.now)) _ _ _ (λ s u t z k. k) (λ s u t r z k. k) (λ s u z k. k) _ _ _
    c.args.side.now c.complete.new.side record { 0 = told.urb } told.code t.0 c.args.handler.now c.complete.new.handler c.complete.result refl c.requires.whole.whole.number (c.complete.ensures.completed t.0 t.1))

pub returns-clause-same_reference : goal.returns-clause-same_reference
returns-clause-same_reference g c =
    let m : Machine = g.H.Host.machine c.args.side.now.host.now in
    let told : Told = g.H.Given.GivenBack.told c.args.given in
    let t = c.requires.transfer in
    second_same (host_stays (machine_in g.H.Host.machine) (c.args.side.now.host.now, c.args.side.now.server.ghost_name) (λ s. (s.host.now, s.server.ghost_name)) (λ s. g.H.Host.known (g.H.Server.Token.own s.server.now)) _ _ _ (λ s u t z k. k) (λ s u t r z k. k) (λ s u z k. k) _ _ _
    c.args.side.now c.complete.new.side record { 0 = told.urb } told.code t.0 c.args.handler.now c.complete.new.handler c.complete.result refl c.requires.whole.whole.number (c.complete.ensures.completed t.0 t.1))
