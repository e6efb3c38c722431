use Rattle.std.proofs.Common.{[]}
use Rattle.usb_machine.specs.Fresh.{Grown}
use Rattle.usb_seat.proofs.stops.wait_quiet.Given as goal

abbrev pub invariant-loop : goal.invariant-loop
invariant-loop g l =
    (goal.iterator-loop g).can_next l.iterator' × (goal.iterator-loop g).is_finite l.iterator'
    × (g.H.Host.is_of l.fn.host l.pass × Grown (g.H.Host.known l.initial.pass) (g.H.Host.known l.pass) [])
