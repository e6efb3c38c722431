use Rattle.std.proofs.Common.{◌≡◌, ◌∙◌, ℕ, true, refl, sym, ap, subst, arith}
use Rattle.usb_machine.specs.History.{Machine, HasHome}
use Rattle.usb_machine.specs.Legal.{IsLegal}
use Rattle.usb_machine.specs.Fresh.{Known}
use Rattle.usb_machine.specs.Parts.{keeps}
use Rattle.usb_machine.specs.Replay.{machine_for}
use Rattle.usb_side_cases.specs.Rounds.{TakesAll, IsSubmit, Times, KilledOut}
use Rattle.usb_side_cases.proofs.Closed.{number_of_new, part_made, all_raced, own_kept, stays, all_back}
use Rattle.usb_side_cases.proofs.raced.race_in_threads.Goals as goal

pub race_and_serve-server-requires-clause-takes : goal.race_and_serve-server-requires-clause-takes
race_and_serve-server-requires-clause-takes g c κs within = subst (λ (m : Machine). TakesAll m c.args.urb.0) (sym c.in_ok-opened.ensures.machine) c.requires.takes

pub close_two-requires-clause-all : goal.close_two-requires-clause-all
close_two-requires-clause-all g c κs within =
    let known = g.H.Host.known in
    let opened = c.in_ok-opened.ensures in
    let parts = c.in_ok-opened.opened.0 in
    let raced = c.race_and_serve-server.result in
    let ends = c.race_and_serve-server.ensures in
    let u = c.args.urb.0 in
    all_raced (g.H.Host.machine parts.host) (known (g.H.Server.Token.own raced.0)) (known (g.H.Hub.Token.own raced.1.0)) (known raced.1.1.0) (known raced.1.1.1) (ap (λ (m : Machine). m.passes) opened.machine) ends.server.1 (ap (λ y. known (g.H.Hub.Token.own y)) ends.hub ∙ opened.hub)
    (number_of_new (λ p. Times (IsSubmit p u) c.args.times) (known c.in_ok-opened.two.0) (known raced.1.1.0) 2 opened.passes.0 ends.submitted)
    (number_of_new (λ p. KilledOut p u c.args.times) (known c.in_ok-opened.two.1) (known raced.1.1.1) 3 opened.passes.1 ends.killed)

pub close_two-requires-clause-quiet : goal.close_two-requires-clause-quiet
close_two-requires-clause-quiet g c κs within =
    let pass : Known = g.H.Host.known c.race_and_serve-server.result.1.1.1 in
    let only = subst (λ (m : Machine). (u : ℕ) → HasHome m u → u ≡ c.args.urb.0) (sym c.in_ok-opened.ensures.machine) c.requires.only in
    (3, pass, omega arith, refl, λ u home. subst (λ v. keeps pass.mine v ≡ true) (sym (only u home)) c.race_and_serve-server.ensures.kept)

pub returns-clause-submitted : goal.returns-clause-submitted
returns-clause-submitted g c =
    let q : Known = g.H.Host.known c.race_and_serve-server.result.1.1.0 in
    part_made (λ p. Times (IsSubmit p c.args.urb.0) c.args.times) (g.H.Opens.history c.in-Ok.closed) (g.H.Host.known c.in_ok-opened.two.0) q 2 c.in_ok-opened.ensures.passes.0 c.race_and_serve-server.ensures.submitted (c.in-Ok.ensures.own 2 q (omega arith))

pub returns-clause-killed : goal.returns-clause-killed
returns-clause-killed g c =
    let q : Known = g.H.Host.known c.race_and_serve-server.result.1.1.1 in
    part_made (λ p. KilledOut p c.args.urb.0 c.args.times) (g.H.Opens.history c.in-Ok.closed) (g.H.Host.known c.in_ok-opened.two.1) q 3 c.in_ok-opened.ensures.passes.1 c.race_and_serve-server.ensures.killed (c.in-Ok.ensures.own 3 q (omega arith))

pub returns-clause-back : goal.returns-clause-back
returns-clause-back g c =
    let q : Known = g.H.Host.known c.race_and_serve-server.result.1.1.1 in
    let m : Machine = machine_for c.args.layout 2 in
    let u = c.args.urb.0 in
    let h = g.H.Opens.history c.in-Ok.closed in
    let legal = subst (λ k. IsLegal k h) c.in_ok-opened.ensures.machine c.in-Ok.ensures.legal in
    let number = number_of_new (λ p. KilledOut p u c.args.times) (g.H.Host.known c.in_ok-opened.two.1) q 3 c.in_ok-opened.ensures.passes.1 c.race_and_serve-server.ensures.killed in
    all_back m u 3 h legal (omega arith) (own_kept h q u 3 number (c.in-Ok.ensures.own 3 q (omega arith)) c.race_and_serve-server.ensures.kept)

pub returns-clause-kept : goal.returns-clause-kept
returns-clause-kept g c =
    let q : Known = g.H.Host.known c.race_and_serve-server.result.1.1.1 in
    let m : Machine = machine_for c.args.layout 2 in
    let u = c.args.urb.0 in
    let h = g.H.Opens.history c.in-Ok.closed in
    let legal = subst (λ k. IsLegal k h) c.in_ok-opened.ensures.machine c.in-Ok.ensures.legal in
    let number = number_of_new (λ p. KilledOut p u c.args.times) (g.H.Host.known c.in_ok-opened.two.1) q 3 c.in_ok-opened.ensures.passes.1 c.race_and_serve-server.ensures.killed in
    stays m u 3 h legal (omega arith) (own_kept h q u 3 number (c.in-Ok.ensures.own 3 q (omega arith)) c.race_and_serve-server.ensures.kept)
