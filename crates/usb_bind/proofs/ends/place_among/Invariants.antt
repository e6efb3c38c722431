use Rattle.std.proofs.Common.{◌≡◌, false, List, take}
use Rattle.std.specs.Prelude.{fold}
use Rattle.usb_desc.specs.declared.tree.End.{End}
use Rattle.usb_desc.specs.Growth.{has_end}
use Rattle.usb_bind.specs.Interfaces.{joined}
use Rattle.usb_bind.specs.Seen.{KnowsEnds}
use Rattle.usb_bind.proofs.ends.place_among.Given as goal

abbrev pub invariant-loop-end : goal.invariant-loop-end
invariant-loop-end l =
    (so_far : List End) → KnowsEnds l.fn.met so_far → has_end so_far l.address ≡ false
    → KnowsEnds l.met (fold joined so_far (take l.end-index l.ends)) × (has_end (fold joined so_far (take l.end-index l.ends)) l.address ≡ false)
