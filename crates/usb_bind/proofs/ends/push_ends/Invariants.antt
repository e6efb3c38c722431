use Rattle.std.proofs.Common.{◌≡◌, ◌++◌, map, List, take}
use Rattle.std.specs.Prelude.{fold}
use Rattle.usb_desc.specs.declared.tree.End.{End}
use Rattle.usb_machine.specs.declared.layout.Shape.{Shape}
use Rattle.usb_bind.specs.Interfaces.{joined, shape_of_end}
use Rattle.usb_bind.specs.Seen.{KnowsEnds}
use Rattle.usb_bind.proofs.ends.push_ends.Given as goal

abbrev pub invariant-loop-end : goal.invariant-loop-end
invariant-loop-end l =
    (before : List Shape) (so_far : List End) → KnowsEnds l.fn.met so_far → l.fn.shapes ≡ before ++ map (shape_of_end l.device) so_far
    → KnowsEnds l.met (fold joined so_far (take l.end-index l.ends)) × (l.shapes ≡ before ++ map (shape_of_end l.device) (fold joined so_far (take l.end-index l.ends)))
