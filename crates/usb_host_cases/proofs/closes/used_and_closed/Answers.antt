use Rattle.std.proofs.Common.{◌≡◌, true, refl, sym, subst, arith}
use Rattle.usb_machine.specs.Parts.{keeps}
use Rattle.usb_host_cases.proofs.Ends.{all_grown}
use Rattle.usb_host_cases.proofs.closes.used_and_closed.Goals as goal

pub close_two-requires-clause-all : goal.close_two-requires-clause-all
close_two-requires-clause-all g c κs within =
    let known = g.H.Host.known in
    let ends = c.poison_and_kill-first.ensures in
    let passes = c.poison_and_kill-first.result in
    all_grown (g.H.Host.machine c.args.host) (known (g.H.Server.Token.own c.args.server)) (known (g.H.Hub.Token.own c.args.hub)) (known c.args.a) (known c.args.b) (known passes.0.0) (known passes.1.0) ends.first.1.grown.number ends.second.1.grown.number c.requires.all

pub close_two-requires-clause-quiet : goal.close_two-requires-clause-quiet
close_two-requires-clause-quiet g c κs within =
    let pass = g.H.Host.known c.poison_and_kill-first.result.0.0 in
    (2, pass, omega arith, refl, λ u home. subst (λ v. keeps pass.mine v ≡ true) (sym (c.requires.only u home)) c.poison_and_kill-first.ensures.kept)
