use Rattle.std.proofs.Common.{◌≡◌, ℕ, sym, subst, ap, arith}
use Rattle.usb_machine.specs.History.{Machine, HasHome}
use Rattle.usb_machine.specs.Calls.{kill_entries, poison_entries}
use Rattle.usb_host_cases.proofs.Ends.{all_four, part_is}
use Rattle.usb_host_cases.proofs.opened.opened_and_closed.Goals as goal

pub used_and_closed-requires-clause-all : goal.used_and_closed-requires-clause-all
used_and_closed-requires-clause-all g c κs within =
    let known = g.H.Host.known in
    let opened = c.in_ok-parts.ensures in
    all_four (g.H.Host.machine c.in_ok-parts.parts.host) (known (g.H.Server.Token.own c.in_ok-parts.parts.server)) (known (g.H.Hub.Token.own c.in_ok-parts.parts.hub)) (known c.in_ok-parts.two.0) (known c.in_ok-parts.two.1)
    (ap (λ (m : Machine). m.passes) opened.machine) opened.tokens.0 opened.tokens.1 opened.passes.0 opened.passes.1

pub used_and_closed-requires-clause-only : goal.used_and_closed-requires-clause-only
used_and_closed-requires-clause-only g c κs within = subst (λ (m : Machine). (u : ℕ) → HasHome m u → u ≡ c.args.urb.0) (sym c.in_ok-parts.ensures.machine) c.requires.only

pub returns-clause-poison : goal.returns-clause-poison
returns-clause-poison g c =
    let e = c.in-Ok.ensures in
    let first = e.2 in
    (first.0, first.1, part_is (g.H.Opens.history c.in-Ok.closed) (g.H.Host.known c.in_ok-parts.two.0) e.0 2 (λ n. poison_entries n c.args.urb.0 first.0 first.1) c.in_ok-parts.ensures.passes.0 first.2 (e.4.own 2 e.0 (omega arith)))

pub returns-clause-kill : goal.returns-clause-kill
returns-clause-kill g c =
    let e = c.in-Ok.ensures in
    let second = e.3 in
    (second.0, second.1, part_is (g.H.Opens.history c.in-Ok.closed) (g.H.Host.known c.in_ok-parts.two.1) e.1 3 (λ n. kill_entries n c.args.urb.0 second.0 second.1) c.in_ok-parts.ensures.passes.1 second.2 (e.4.own 3 e.1 (omega arith)))
