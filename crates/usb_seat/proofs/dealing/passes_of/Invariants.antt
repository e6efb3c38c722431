use Rattle.std.proofs.Common.{◌≡◌, map}
use Rattle.usb_seat.specs.declared.seats.Seat.TheVariants.{Own}
use Rattle.usb_seat.proofs.dealing.passes_of.Given as goal

abbrev pub invariant-loop-seat : goal.invariant-loop-seat
invariant-loop-seat g l = map Own l.passes.items ≡ l.yielded
