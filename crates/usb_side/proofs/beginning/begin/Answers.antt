use Rattle.std.proofs.Common.{◌≡◌, ◌<◌, ◌^◌, length, ap, sym, subst, arith}
use Rattle.usb_machine.specs.declared.entry.TheConstants.{SERVER}
use Rattle.usb_machine.specs.History.{Machine}
use Rattle.usb_machine.specs.Fresh.{Known}
use Rattle.usb_machine.specs.Tokens.{IsWholeServer, unused}
use Rattle.usb_serve.specs.Held.{HasLayout}
use Rattle.usb_serve.proofs.SoFars.{so_opens}
use Rattle.usb_side.proofs.Started.{begins}
use Rattle.usb_side.proofs.beginning.begin.Goals as goal

pub returns-clause-agrees : goal.returns-clause-agrees
returns-clause-agrees g c =
    let parts = c.in_ok-parts.parts in
    let controller = c.in_ok-controller.controller in
    let m : Machine = g.H.Host.machine parts.host in
    let p : Known = g.H.Host.known (g.H.Server.Token.own parts.server) in
    let is : p ≡ unused SERVER = c.in_ok-parts.ensures.server.0 in
    let whole = subst (λ k. IsWholeServer m k (g.H.Server.ServerToken.pending parts.server) (g.H.Server.ServerToken.given parts.server) (g.H.Server.ServerToken.has_room parts.server)) (sym is) c.in_ok-parts.ensures.server.1 in
    begins m c.args.layout c.args.passes (g.H.Server.ServerToken.given parts.server) p _ _ controller c.in_ok-parts.ensures.machine is
    (record { here = c.in_ok-parts.ensures.here.0; whole = whole; sound = g.met.H.Host.sound parts.host (g.H.Server.Token.own parts.server) c.in_ok-parts.ensures.here.0 })
    (subst (λ n. HasLayout c.args.layout n controller.ends.items) (sym (ap (λ l. length l) c.in_ok-controller.ensures.devices)) c.in_ok-controller.ensures.layout)
    c.in_ok-controller.ensures.empty

pub returns-clause-so_far : goal.returns-clause-so_far
returns-clause-so_far g c = so_opens _ c.in_ok-controller.controller.ends.items c.in_ok-controller.ensures.empty

pub returns-clause-room : goal.returns-clause-room
returns-clause-room g c = subst (λ n. n < 2 ^ 63) (sym c.in_ok-parts.ensures.server.1.given_are) (omega arith)
