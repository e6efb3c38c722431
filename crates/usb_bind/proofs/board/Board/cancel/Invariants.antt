use Rattle.std.proofs.Common.{◌≡◌, take}
use Rattle.usb_bind.specs.Board.{released_all}
use Rattle.usb_bind.proofs.board.Board.cancel.Given as goal

abbrev pub invariant-loop-slot : goal.invariant-loop-slot
invariant-loop-slot l = l.pool ≡ released_all l.fn.pool (take l.slot-index l.fn.bound.urbs)
