use Rattle.std.proofs.Common.{[], ◌∷◌}
use Rattle.usb_machine.specs.declared.event.Event.TheVariants.{Withdraw}
use Rattle.usb_machine.specs.Calls.{plain_entry, poison_entries}
use Rattle.usb_machine.specs.HostCalls.{number_of}
use Rattle.usb_machine.proofs.Growing.{fresh_then}
use Rattle.usb_cancel.proofs.Stopping.{claimed_later, since_later}
use Rattle.usb_cancel.proofs.stops.kill.Goals as goal

pub returns-clause-fresh : goal.returns-clause-fresh
returns-clause-fresh g c =
    let machine = g.H.Host.machine c.args.host.now in
    let known = g.H.Host.known in
    let p = known c.args.pass.now in
    let f = c.poison-rest.ensures.fresh in
    (f.0, fresh_then machine p (known c.poison-rest.new.pass) (known c.withdraw.new.pass) (poison_entries p.number c.args.urb.0 f.0 (number_of c.poison-rest.result)) (λ n. plain_entry n (Withdraw c.args.urb) ∷ []) f.1.grown c.withdraw.ensures.fresh)

pub returns-clause-claimed : goal.returns-clause-claimed
returns-clause-claimed g c =
    let known = g.H.Host.known in
    claimed_later (known c.poison-rest.new.pass) (known c.withdraw.new.pass) _ c.args.urb.0 c.poison-rest.result c.withdraw.ensures.fresh.grown c.poison-rest.ensures.claimed

pub returns-clause-since : goal.returns-clause-since
returns-clause-since g c =
    let known = g.H.Host.known in
    since_later _ (known c.poison-rest.new.pass) (known c.withdraw.new.pass) _ c.args.urb.0 c.poison-rest.result c.withdraw.ensures.fresh.grown c.poison-rest.ensures.since
