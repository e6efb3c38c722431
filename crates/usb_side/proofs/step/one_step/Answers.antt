use Rattle.std.proofs.Common.{sym, subst}
use Rattle.std.specs.Prelude.{option_map, Some}
use Rattle.usb_machine.specs.History.{Machine, HasHome}
use Rattle.usb_machine.specs.Fresh.{Known}
use Rattle.usb_machine.specs.Tokens.{Told}
use Rattle.usb_side.specs.Round.{TurnGave, GaveBack}
use Rattle.usb_side.specs.Handled.{Came}
use Rattle.usb_side.proofs.Behind.{gave_home, gave_runs, gave_transfer}
use Rattle.usb_side.proofs.Handling.{came_agrees, gave_of}
use Rattle.usb_side.proofs.step.one_step.Goals as goal

pub give_back-requires-clause-runs : goal.give_back-requires-clause-runs
give_back-requires-clause-runs g c κs within =
    let m : Machine = g.H.Host.machine c.args.side.now.host.now in
    let p : Known = g.H.Host.known (g.H.Server.Token.own c.args.side.now.server) in
    let q : Known = g.H.Host.known (g.H.Server.Token.own c.turn_once-given.new.side.server) in
    let told : Told = g.H.Given.GivenBack.told c.in-Some.given in
    let back : GaveBack m p q told.urb told.code told.transfer = subst (λ r. TurnGave m p q (option_map (λ y. g.H.Given.GivenBack.told y) r)) c.in-Some.is c.turn_once-given.ensures.gave in
    (gave_runs m p q told.urb told.code told.transfer back).1

pub give_back-requires-clause-home : goal.give_back-requires-clause-home
give_back-requires-clause-home g c κs within =
    let m : Machine = g.H.Host.machine c.args.side.now.host.now in
    let p : Known = g.H.Host.known (g.H.Server.Token.own c.args.side.now.server) in
    let q : Known = g.H.Host.known (g.H.Server.Token.own c.turn_once-given.new.side.server) in
    let told : Told = g.H.Given.GivenBack.told c.in-Some.given in
    let back : GaveBack m p q told.urb told.code told.transfer = subst (λ r. TurnGave m p q (option_map (λ y. g.H.Given.GivenBack.told y) r)) c.in-Some.is c.turn_once-given.ensures.gave in
    subst (λ k. HasHome (g.H.Host.machine k) told.urb) (sym c.turn_once-given.ensures.same) (gave_home m p q told.urb told.code told.transfer back)

pub give_back-requires-clause-homes : goal.give_back-requires-clause-homes
give_back-requires-clause-homes g c κs within = λ u i. subst (λ k. HasHome (g.H.Host.machine k) u) (sym c.turn_once-given.ensures.same) (c.requires.homes u i)

pub give_back-requires-clause-transfer : goal.give_back-requires-clause-transfer
give_back-requires-clause-transfer g c κs within =
    let m : Machine = g.H.Host.machine c.args.side.now.host.now in
    let p : Known = g.H.Host.known (g.H.Server.Token.own c.args.side.now.server) in
    let q : Known = g.H.Host.known (g.H.Server.Token.own c.turn_once-given.new.side.server) in
    let told : Told = g.H.Given.GivenBack.told c.in-Some.given in
    let back : GaveBack m p q told.urb told.code told.transfer = subst (λ r. TurnGave m p q (option_map (λ y. g.H.Given.GivenBack.told y) r)) c.in-Some.is c.turn_once-given.ensures.gave in
    gave_transfer m p q told.urb told.code told.transfer back

pub returns-in-Some-clause-stepped : goal.returns-in-Some-clause-stepped
returns-in-Some-clause-stepped g c =
    let m : Machine = g.H.Host.machine c.args.side.now.host.now in
    let p : Known = g.H.Host.known (g.H.Server.Token.own c.args.side.now.server) in
    let q : Known = g.H.Host.known (g.H.Server.Token.own c.turn_once-given.new.side.server) in
    let told : Told = g.H.Given.GivenBack.told c.in-Some.given in
    let back : GaveBack m p q told.urb told.code told.transfer = subst (λ r. TurnGave m p q (option_map (λ y. g.H.Given.GivenBack.told y) r)) c.in-Some.is c.turn_once-given.ensures.gave in
    let t = gave_transfer m p q told.urb told.code told.transfer back in
    let gave : GaveBack m p q told.urb told.code (Some t.0) = subst (λ r. GaveBack m p q told.urb told.code r) t.1 back in
    let z : Known = g.H.Host.known (g.H.Server.Token.own c.give_back.new.server) in
    let k = g.K.Handler in
    let new = c.give_back.new.handler in
    let came : Came m k.completes k.asks k.unasks q z record { 0 = told.urb } told.code t.0 c.args.handler.now c.give_back.result new
    = subst (λ x. Came (g.H.Host.machine x) k.completes k.asks k.unasks q z record { 0 = told.urb } told.code t.0 c.args.handler.now c.give_back.result new) c.turn_once-given.ensures.same (c.give_back.ensures.came t.0 t.1) in (
      record { 0 = told.urb },
      told.code,
      t.0,
      q,
      gave,
      came,
      λ o is. gave_of m k.completes k.asks k.unasks p q z record { 0 = told.urb } told.code t.0 c.args.handler.now o new gave
          (subst (λ r. Came m k.completes k.asks k.unasks q z record { 0 = told.urb } told.code t.0 c.args.handler.now r new) is came),
    )

pub returns-in-Some-clause-agrees : goal.returns-in-Some-clause-agrees
returns-in-Some-clause-agrees g c =
    let m : Machine = g.H.Host.machine c.args.side.now.host.now in
    let k : Machine = g.H.Host.machine c.turn_once-given.new.side.host.now in
    let p : Known = g.H.Host.known (g.H.Server.Token.own c.args.side.now.server) in
    let q : Known = g.H.Host.known (g.H.Server.Token.own c.turn_once-given.new.side.server) in
    let told : Told = g.H.Given.GivenBack.told c.in-Some.given in
    let back : GaveBack m p q told.urb told.code told.transfer = subst (λ r. TurnGave m p q (option_map (λ y. g.H.Given.GivenBack.told y) r)) c.in-Some.is c.turn_once-given.ensures.gave in
    let t = gave_transfer m p q told.urb told.code told.transfer back in
    let z : Known = g.H.Host.known (g.H.Server.Token.own c.give_back.new.server) in
    let whole = c.turn_once-given.ensures.agrees.whole in
    came_agrees k g.K.Handler.completes g.K.Handler.asks g.K.Handler.unasks q z record { 0 = told.urb } told.code t.0 c.args.handler.now c.give_back.result c.give_back.new.handler c.turn_once-given.new.controller whole.whole.number whole.sound (c.give_back.ensures.came t.0 t.1)
    _ (g.H.Server.ServerToken.given c.give_back.new.server) _ _ _ (λ u. g.H.Serves.is_settled c.turn_once-given.new.side.host.now c.give_back.new.server u)
    (record { here = c.give_back.ensures.here; whole = c.give_back.ensures.whole; sound = g.met.H.Host.sound c.turn_once-given.new.side.host.now (g.H.Server.Token.own c.give_back.new.server) c.give_back.ensures.here }) c.turn_once-given.ensures.agrees
