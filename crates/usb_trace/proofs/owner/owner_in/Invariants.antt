use Rattle.std.proofs.Common.{◌≡◌, drop}
use Rattle.usb_trace.specs.Plan.{owner_from}
use Rattle.usb_trace.proofs.owner.owner_in.Given as goal

abbrev pub invariant-loop-place : goal.invariant-loop-place
invariant-loop-place l = owner_from l.board 0 l.board.bindings l.urb ≡ owner_from l.board l.place (drop l.place l.board.bindings) l.urb
