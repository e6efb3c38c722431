use Rattle.std.proofs.Common.{◌≡◌, ℕ, ◌+◌, true, refl, sym, ap, subst, arith, IfOk}
use Rattle.usb_machine.specs.declared.entry.TheConstants.{HUB}
use Rattle.usb_machine.specs.History.{Machine, HasHome}
use Rattle.usb_machine.specs.Legal.{IsLegal}
use Rattle.usb_machine.specs.Fresh.{Known}
use Rattle.usb_machine.specs.Parts.{part_of, keeps}
use Rattle.usb_machine.specs.Replay.{machine_for}
use Rattle.usb_host_cases.specs.Ran.{MayReject}
use Rattle.usb_host_cases.proofs.Passes.{may_all}
use Rattle.usb_side_cases.specs.Crowd.{AreCalls, AreLastCalls, CalledAll}
use Rattle.usb_side_cases.proofs.Closed.{number_of_new, part_made, own_kept, all_back}
use Rattle.usb_side_cases.proofs.Crowds.{all_here, are_all, parts_are}
use Rattle.usb_side_cases.proofs.gathered.crowd_in_threads.Goals as goal

pub call_and_serve-server-requires-clause-hub : goal.call_and_serve-server-requires-clause-hub
call_and_serve-server-requires-clause-hub g c κs within =
    let opened = c.in_ok-parts.ensures in
    record {
      here = opened.here.1;
      home = subst (λ (m : Machine). HasHome m c.args.urb.0) (sym opened.machine) c.requires.urb;
      room = subst (λ (p : Known). MayReject p c.args.urb.0) (sym opened.tokens.1) (omega arith);
    }

pub call_and_serve-server-requires-clause-callers : goal.call_and_serve-server-requires-clause-callers
call_and_serve-server-requires-clause-callers g c κs within =
    let opened = c.in_ok-parts.ensures in
    let all = may_all g.H.Host.known c.args.passes c.in_ok-parts.parts.passes.items opened.passes (g.H.Host.is_of c.in_ok-parts.parts.host) c.args.urb.0 opened.here.2 in
    λ k d lt. record {
      here = (all k d lt).0;
      home = subst (λ (m : Machine). HasHome m c.args.urb.0) (sym opened.machine) c.requires.urb;
      room = (all k d lt).1;
    }

pub close-requires-clause-here : goal.close-requires-clause-here
close-requires-clause-here g c =
    let host = c.in_ok-parts.parts.host in
    let opened = c.in_ok-parts.ensures in
    let ran = c.call_and_serve-server.ensures in
    (ran.server.0, ran.here, all_here g.H.Host.known c.args.passes c.in_ok-parts.parts.passes.items opened.passes (g.H.Host.machine host) (g.H.Host.is_of host) c.args.urb.0 c.in-Ok.called.items (g.H.Server.Token.own c.in_ok-parts.parts.server) (subst (λ r. IfOk r (λ v. CalledAll (g.H.Host.machine host) g.H.Host.known (g.H.Host.is_of host) c.args.urb.0 c.in_ok-parts.parts.passes.items v.items)) c.in-Ok.is c.call_and_serve-server.ensures.callers))

pub close-requires-clause-all : goal.close-requires-clause-all
close-requires-clause-all g c =
    let host = c.in_ok-parts.parts.host in
    let opened = c.in_ok-parts.ensures in
    let ran = c.call_and_serve-server.ensures in
    let known = g.H.Host.known in
    let u = c.args.urb.0 in
    let m = g.H.Host.machine host in
    are_all known c.args.passes c.in_ok-parts.parts.passes.items opened.passes m (g.H.Host.is_of host) u c.in-Ok.called.items (g.H.Server.Token.own c.in_ok-parts.parts.server) (subst (λ r. IfOk r (λ v. CalledAll (g.H.Host.machine host) g.H.Host.known (g.H.Host.is_of host) c.args.urb.0 c.in_ok-parts.parts.passes.items v.items)) c.in-Ok.is c.call_and_serve-server.ensures.callers)
    (known (g.H.Server.Token.own c.call_and_serve-server.result.0)) (known (g.H.Hub.Token.own c.call_and_serve-server.result.1.0)) (ap (λ (k : Machine). k.passes) opened.machine) ran.server.1
    (number_of_new (λ p. AreLastCalls m u p) (known (g.H.Hub.Token.own c.in_ok-parts.parts.hub)) (known (g.H.Hub.Token.own c.call_and_serve-server.result.1.0)) 1 opened.tokens.1 ran.hub)

pub close-requires-clause-quiet : goal.close-requires-clause-quiet
close-requires-clause-quiet g c =
    let pass = g.H.Host.known (g.H.Hub.Token.own c.call_and_serve-server.result.1.0) in
    let only = subst (λ (m : Machine). (u : ℕ) → HasHome m u → u ≡ c.args.urb.0) (sym c.in_ok-parts.ensures.machine) c.requires.only in
    (1, pass, omega arith, refl, λ u home. subst (λ v. keeps pass.mine v ≡ true) (sym (only u home)) c.call_and_serve-server.ensures.kept)

pub returns-clause-callers : goal.returns-clause-callers
returns-clause-callers g c =
    let host = c.in_ok-parts.parts.host in
    let opened = c.in_ok-parts.ensures in
    let known = g.H.Host.known in
    let u = c.args.urb.0 in
    let h = g.H.Opens.history c.close.result in
    let all = parts_are known c.args.passes c.in_ok-parts.parts.passes.items opened.passes (g.H.Host.machine host) (g.H.Host.is_of host) u c.in-Ok.called.items (g.H.Server.Token.own c.in_ok-parts.parts.server) (subst (λ r. IfOk r (λ v. CalledAll (g.H.Host.machine host) g.H.Host.known (g.H.Host.is_of host) c.args.urb.0 c.in_ok-parts.parts.passes.items v.items)) c.in-Ok.is c.call_and_serve-server.ensures.callers)
    (known (g.H.Server.Token.own c.call_and_serve-server.result.0)) (known (g.H.Hub.Token.own c.call_and_serve-server.result.1.0)) h c.close.ensures in
    λ k lt. subst (λ (m : Machine). AreCalls m u (2 + k) (part_of h (2 + k))) opened.machine (all k lt)

pub returns-clause-hub : goal.returns-clause-hub
returns-clause-hub g c =
    let opened = c.in_ok-parts.ensures in
    let known = g.H.Host.known in
    let u = c.args.urb.0 in
    let h = g.H.Opens.history c.close.result in
    let q = known (g.H.Hub.Token.own c.call_and_serve-server.result.1.0) in
    subst (λ (m : Machine). AreLastCalls m u HUB (part_of h HUB)) opened.machine
    (part_made (λ p. AreLastCalls (g.H.Host.machine c.in_ok-parts.parts.host) u p) h (known (g.H.Hub.Token.own c.in_ok-parts.parts.hub)) q 1 opened.tokens.1 c.call_and_serve-server.ensures.hub (c.close.ensures.own 1 q (omega arith)))

pub returns-clause-back : goal.returns-clause-back
returns-clause-back g c =
    let opened = c.in_ok-parts.ensures in
    let known = g.H.Host.known in
    let u = c.args.urb.0 in
    let h = g.H.Opens.history c.close.result in
    let q : Known = known (g.H.Hub.Token.own c.call_and_serve-server.result.1.0) in
    let g2 : Machine = machine_for c.args.layout c.args.passes in
    let legal : IsLegal g2 h = subst (λ m. IsLegal m h) opened.machine c.close.ensures.legal in
    let number : q.number ≡ 1 = number_of_new (λ p. AreLastCalls (g.H.Host.machine c.in_ok-parts.parts.host) u p) (known (g.H.Hub.Token.own c.in_ok-parts.parts.hub)) q 1 opened.tokens.1 c.call_and_serve-server.ensures.hub in
    all_back g2 u 1 h legal (omega arith) (own_kept h q u 1 number (c.close.ensures.own 1 q (omega arith)) c.call_and_serve-server.ensures.kept)
