use Rattle.std.proofs.Common.{[], ◌∷◌}
use Rattle.usb_machine.specs.declared.event.Event.TheVariants.{Quiet}
use Rattle.usb_machine.specs.Calls.{plain_entry, block_entries}
use Rattle.usb_machine.proofs.Growing.{fresh_then}
use Rattle.usb_seat.specs.Sitting.{known_in}
use Rattle.usb_seat.proofs.stops.see_quiet.Goals as goal

pub returns-clause-fresh : goal.returns-clause-fresh
returns-clause-fresh g c =
    let known = known_in g.H.Host.known g.H.Hub.Token.own in
    fresh_then (g.H.Host.machine c.args.host.now) (known c.args.seat.now) (known c.reject.new.seat) (known c.wait_quiet_at.new.seat) (block_entries (known c.args.seat.now).number c.args.urb.0) (λ n. plain_entry n (Quiet c.args.urb) ∷ []) c.reject.ensures.fresh.grown c.wait_quiet_at.ensures.fresh
