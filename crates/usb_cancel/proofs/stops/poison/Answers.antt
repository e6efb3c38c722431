use Rattle.std.proofs.Common.{[], ◌∷◌, None}
use Rattle.usb_types.specs.declared.errno.Code.TheVariants.{Fault}
use Rattle.usb_types.specs.declared.urb.Why.TheVariants.{Kill}
use Rattle.usb_machine.specs.declared.event.Event.TheVariants.{Reject, Quiet, Claim}
use Rattle.usb_machine.specs.declared.event.Answer.TheVariants.{Number}
use Rattle.usb_machine.specs.Calls.{entry, plain_entry, mark_entry}
use Rattle.usb_machine.specs.HostCalls.{number_of}
use Rattle.usb_machine.proofs.Growing.{grown_more, fresh_then}
use Rattle.usb_cancel.proofs.Stopping.{has_claimed, since_longer}
use Rattle.usb_cancel.proofs.stops.poison.Goals as goal

pub returns-clause-fresh : goal.returns-clause-fresh
returns-clause-fresh g c =
    let machine = g.H.Host.machine c.args.host.now in
    let known = g.H.Host.known in
    let p = known c.args.pass.now in
    let u = c.args.urb in
    let a = Fault c.unlink.result in
    let r = plain_entry p.number (Reject u) in
    let m = mark_entry p.number Kill u.0 a in
    let q = plain_entry p.number (Quiet u) in
    let two = fresh_then machine p (known c.reject.new.pass) (known c.unlink.new.pass) (r ∷ []) (λ n. mark_entry n Kill u.0 a ∷ []) c.reject.ensures.fresh.grown c.unlink.ensures.fresh in
    let three = fresh_then machine p (known c.unlink.new.pass) (known c.wait_quiet.new.pass) (r ∷ m ∷ []) (λ n. plain_entry n (Quiet u) ∷ []) two.grown c.wait_quiet.ensures.fresh in
    (a, fresh_then machine p (known c.wait_quiet.new.pass) (known c.claim.new.pass) (r ∷ m ∷ q ∷ []) (λ n. entry n (Claim u) (Number (number_of c.claim.result)) None ∷ []) three.grown c.claim.ensures.fresh)

pub returns-clause-claimed : goal.returns-clause-claimed
returns-clause-claimed g c =
    let known = g.H.Host.known in
    let host = c.args.host.now in
    (has_claimed (g.H.Host.machine host) (known c.wait_quiet.new.pass) (known c.claim.new.pass) c.args.urb.0 c.claim.result (g.met.H.Host.sound host c.wait_quiet.new.pass c.wait_quiet.ensures.here) c.claim.ensures.fresh c.claim.ensures.rested).claimed

pub returns-clause-since : goal.returns-clause-since
returns-clause-since g c =
    let known = g.H.Host.known in
    let host = c.args.host.now in
    let old = grown_more _ _ _ _ _ (grown_more _ _ _ _ _ c.reject.ensures.fresh.grown c.unlink.ensures.fresh.grown) c.wait_quiet.ensures.fresh.grown in
    since_longer _ _ _ _ c.args.urb.0 c.claim.result old.begins
    (has_claimed (g.H.Host.machine host) (known c.wait_quiet.new.pass) (known c.claim.new.pass) c.args.urb.0 c.claim.result (g.met.H.Host.sound host c.wait_quiet.new.pass c.wait_quiet.ensures.here) c.claim.ensures.fresh c.claim.ensures.rested)
