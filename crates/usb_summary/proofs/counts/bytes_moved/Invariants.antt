use Rattle.std.proofs.Common.{◌≡◌, ◌-◌, ◌^◌, min, take}
use Rattle.std.specs.List.{sum_by}
use Rattle.usb_trace.specs.declared.rows.GivebackRow.{GivebackRow}
use Rattle.usb_summary.proofs.counts.bytes_moved.Given as goal

abbrev pub invariant-loop-g : goal.invariant-loop-g
invariant-loop-g l = l.bytes ≡ min (sum_by (λ (g : GivebackRow). g.actual) (take l.g-index l.given)) (2 ^ 64 - 1)
