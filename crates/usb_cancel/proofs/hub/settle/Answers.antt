use Rattle.std.proofs.Common.{[], ◌∷◌, None}
use Rattle.usb_machine.specs.declared.event.Event.TheVariants.{Quiet, Claim}
use Rattle.usb_machine.specs.declared.event.Answer.TheVariants.{Number}
use Rattle.usb_machine.specs.Calls.{entry, plain_entry}
use Rattle.usb_machine.specs.HostCalls.{number_of}
use Rattle.usb_machine.proofs.Growing.{fresh_then}
use Rattle.usb_cancel.proofs.Stopping.{has_claimed, since_longer}
use Rattle.usb_cancel.proofs.hub.settle.Goals as goal

pub returns-clause-fresh : goal.returns-clause-fresh
returns-clause-fresh g c =
    let known = g.H.Host.known in
    let own = g.H.Hub.Token.own in
    let p = known (own c.args.hub.now) in
    fresh_then (g.H.Host.machine c.args.host.now) p (known (own c.see.new.hub)) (known (own c.claim.new.hub)) (plain_entry p.number (Quiet c.args.urb) ∷ []) (λ n. entry n (Claim c.args.urb) (Number (number_of c.claim.result)) None ∷ []) c.see.ensures.fresh.grown c.claim.ensures.fresh

pub returns-clause-since : goal.returns-clause-since
returns-clause-since g c =
    let known = g.H.Host.known in
    let own = g.H.Hub.Token.own in
    let host = c.args.host.now in
    since_longer _ _ _ _ c.args.urb.0 c.claim.result c.see.ensures.fresh.grown.begins
    (has_claimed (g.H.Host.machine host) (known (own c.see.new.hub)) (known (own c.claim.new.hub)) c.args.urb.0 c.claim.result (g.met.H.Host.sound host (own c.see.new.hub) c.see.ensures.here) c.claim.ensures.fresh c.claim.ensures.rested)
