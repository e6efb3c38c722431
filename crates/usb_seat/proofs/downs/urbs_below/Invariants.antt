use Rattle.std.proofs.Common.{◌≡◌}
use Rattle.std.specs.List.{range_with_len}
use Rattle.usb_cancel.specs.Flushing.{ids}
use Rattle.usb_seat.proofs.downs.urbs_below.Given as goal

abbrev pub invariant-loop-u : goal.invariant-loop-u
invariant-loop-u l = ids l.below.items ≡ range_with_len 0 l.u
