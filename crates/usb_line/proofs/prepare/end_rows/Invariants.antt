use Rattle.std.proofs.Common.{take}
use Rattle.usb_line.specs.Opened.{AreNewEnds}
use Rattle.usb_line.proofs.prepare.end_rows.Given as goal

abbrev pub invariant-loop-shape : goal.invariant-loop-shape
invariant-loop-shape l = AreNewEnds (take l.shape-index l.shapes) l.ends.items
