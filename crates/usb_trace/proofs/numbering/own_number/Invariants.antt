use Rattle.std.proofs.Common.{◌≡◌, ◌+◌, ◌≤◌}
use Rattle.usb_trace.proofs.Numbered.{numbers_before}
use Rattle.usb_trace.proofs.numbering.own_number.Given as goal

abbrev pub invariant-loop-u : goal.invariant-loop-u
invariant-loop-u l = (l.number ≡ 2000000 + numbers_before l.owners l.u) × (l.u ≤ l.urb)
