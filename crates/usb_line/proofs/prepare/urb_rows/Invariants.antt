use Rattle.std.proofs.Common.{◌≡◌, map}
use Rattle.usb_prepare.specs.Below.{below}
use Rattle.usb_line.specs.Opened.{new_urb}
use Rattle.usb_line.proofs.prepare.urb_rows.Given as goal

abbrev pub invariant-loop-u : goal.invariant-loop-u
invariant-loop-u l = l.urbs.items ≡ map (new_urb l.scene) (below l.u)
