use Rattle.std.proofs.Common.{◌≡◌, length}
use Rattle.usb_seat.proofs.downs.rests_for.Given as goal

abbrev pub invariant-loop : goal.invariant-loop
invariant-loop l = length l.rests.items ≡ l.counter
