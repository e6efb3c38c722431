use Rattle.std.proofs.Common.{◌≡◌, map}
use Rattle.usb_seat.specs.declared.seats.Seat.TheVariants.{Own}
use Rattle.usb_seat.proofs.dealing.own_seats.Given as goal

abbrev pub invariant-loop-pass : goal.invariant-loop-pass
invariant-loop-pass g l = l.seats.items ≡ map Own l.yielded
