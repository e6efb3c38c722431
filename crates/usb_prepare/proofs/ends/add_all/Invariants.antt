use Rattle.std.proofs.Common.{◌≡◌, ◌++◌, take}
use Rattle.usb_prepare.proofs.ends.add_all.Given as goal

abbrev pub invariant-loop-shape : goal.invariant-loop-shape
invariant-loop-shape l = l.shapes ≡ l.fn.shapes ++ take l.shape-index l.ends
