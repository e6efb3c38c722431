use Rattle.std.proofs.Common.{◌≡◌, take, map}
use Rattle.usb_prepare.specs.Below.{below}
use Rattle.usb_prepare.specs.Ends.{shapes_from, first_end}
use Rattle.usb_prepare.proofs.ends.number_ends.Given as goal

abbrev pub invariant-loop-i : goal.invariant-loop-i
invariant-loop-i l = record { shapes_so : l.shapes ≡ shapes_from 0 (take l.i l.scene.devices); firsts_so : l.firsts ≡ map (first_end l.scene.devices) (below l.i) }
