use Rattle.std.proofs.Common.{◌≡◌, map}
use Rattle.usb_line.specs.Outcome.{received_at}
use Rattle.usb_line.proofs.line.received.Given as goal

abbrev pub invariant-loop-end : goal.invariant-loop-end
invariant-loop-end l = l.list ≡ map received_at l.yielded
