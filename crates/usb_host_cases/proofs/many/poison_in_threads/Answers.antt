use Rattle.std.proofs.Common.{◌≡◌, ℕ, sym, subst, ap}
use Rattle.usb_machine.specs.History.{Machine, HasHome}
use Rattle.usb_host_cases.proofs.Passes.{may_all, all_here, are_all, one_keeps, parts_are}
use Rattle.usb_host_cases.proofs.many.poison_in_threads.Goals as goal

pub poison_all-requires-clause-here : goal.poison_all-requires-clause-here
poison_all-requires-clause-here g c κs within =
    let opened = c.in_ok-parts.ensures in
    may_all g.H.Host.known c.args.passes c.in_ok-parts.parts.passes.items opened.passes (g.H.Host.is_of c.in_ok-parts.parts.host) c.args.urb.0 opened.here.2

pub close-requires-clause-here : goal.close-requires-clause-here
close-requires-clause-here g c =
    let host = c.in_ok-parts.parts.host in
    let opened = c.in_ok-parts.ensures in
    let server = g.H.Server.Token.own c.in_ok-parts.parts.server in
    (opened.here.0, opened.here.1, all_here g.H.Host.known c.args.passes c.in_ok-parts.parts.passes.items opened.passes (g.H.Host.machine host) (g.H.Host.is_of host) c.args.urb.0 c.in-Ok.poisoned.items server c.in-Ok.ensures)

pub close-requires-clause-all : goal.close-requires-clause-all
close-requires-clause-all g c =
    let host = c.in_ok-parts.parts.host in
    let opened = c.in_ok-parts.ensures in
    let server = g.H.Server.Token.own c.in_ok-parts.parts.server in
    are_all g.H.Host.known c.args.passes c.in_ok-parts.parts.passes.items opened.passes (g.H.Host.machine host) (g.H.Host.is_of host) c.args.urb.0 c.in-Ok.poisoned.items server c.in-Ok.ensures
    (g.H.Host.known server) (g.H.Host.known (g.H.Hub.Token.own c.in_ok-parts.parts.hub)) (ap (λ (m : Machine). m.passes) opened.machine) opened.server.0 opened.hub.0

pub close-requires-clause-quiet : goal.close-requires-clause-quiet
close-requires-clause-quiet g c =
    let host = c.in_ok-parts.parts.host in
    let opened = c.in_ok-parts.ensures in
    let server = g.H.Server.Token.own c.in_ok-parts.parts.server in
    one_keeps g.H.Host.known c.args.passes c.in_ok-parts.parts.passes.items opened.passes (g.H.Host.machine host) (g.H.Host.is_of host) c.args.urb.0 c.in-Ok.poisoned.items server c.in-Ok.ensures
    (g.H.Host.known server) (g.H.Host.known (g.H.Hub.Token.own c.in_ok-parts.parts.hub)) c.requires.passes.0 (subst (λ (m : Machine). (u : ℕ) → HasHome m u → u ≡ c.args.urb.0) (sym opened.machine) c.requires.only)

pub returns-clause-poisons : goal.returns-clause-poisons
returns-clause-poisons g c =
    let host = c.in_ok-parts.parts.host in
    let opened = c.in_ok-parts.ensures in
    let server = g.H.Server.Token.own c.in_ok-parts.parts.server in
    parts_are g.H.Host.known c.args.passes c.in_ok-parts.parts.passes.items opened.passes (g.H.Host.machine host) (g.H.Host.is_of host) c.args.urb.0 c.in-Ok.poisoned.items server c.in-Ok.ensures
    (g.H.Host.known server) (g.H.Host.known (g.H.Hub.Token.own c.in_ok-parts.parts.hub)) (g.H.Opens.history c.close.result) c.close.ensures
