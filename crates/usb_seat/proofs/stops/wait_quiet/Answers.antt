use Rattle.std.proofs.Common.{[], ◌∷◌}
use Rattle.usb_machine.specs.declared.event.Event.TheVariants.{Quiet}
use Rattle.usb_machine.specs.Calls.{plain_entry}
use Rattle.usb_machine.proofs.Growing.{grown_none, grown_more, fresh_then}
use Rattle.usb_seat.proofs.stops.wait_quiet.Goals as goal

pub loop-init : goal.loop-init
loop-init g c = (tt, tt, (c.requires.here, grown_none (g.H.Host.known c.args.pass.now)))

pub returns-then-quiet-clause-fresh : goal.returns-then-quiet-clause-fresh
returns-then-quiet-clause-fresh g c =
    let known = g.H.Host.known in
    fresh_then (g.H.Host.machine c.args.host.now) (known c.args.pass.now) (known c.loop.pass) (known c.quiet.new.pass) [] (λ n. plain_entry n (Quiet c.args.urb) ∷ []) c.loop.invariant.2.1 c.if-quiet.ensures.fresh

pub loop-preserved : goal.loop-preserved
loop-preserved g c =
    let known = g.H.Host.known in
    (tt, tt, (c.quiet.ensures.here, grown_more (known c.args.pass.now) (known c.loop.pass) (known c.quiet.new.pass) [] [] c.loop.invariant.2.1 c.if-quiet.ensures.fresh.0.grown))
