use Rattle.std.specs.BinaryHeap.{heap_items, heap_capacity}
use Rattle.usb_bind.proofs.Spare.{HoldsBelow}
use Rattle.usb_bind.proofs.pool.UrbPool.filled.Given as goal

abbrev pub invariant-loop-number : goal.invariant-loop-number
invariant-loop-number l = HoldsBelow l.number l.limit (heap_items l.spare) (heap_capacity l.spare)
