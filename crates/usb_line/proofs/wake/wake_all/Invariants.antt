use Rattle.std.proofs.Common.{◌≡◌, ◌++◌, map, take, drop}
use Rattle.usb_line.specs.Awake.{awake}
use Rattle.usb_line.proofs.wake.wake_all.Given as goal

abbrev pub invariant-loop-end : goal.invariant-loop-end
invariant-loop-end l = l.ends ≡ map awake (take l.end-index l.fn.ends) ++ drop l.end-index l.fn.ends
