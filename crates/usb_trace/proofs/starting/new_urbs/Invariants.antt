use Rattle.std.proofs.Common.{◌≡◌, map}
use Rattle.usb_prepare.specs.Below.{below}
use Rattle.usb_trace.specs.Handlers.{new_handled}
use Rattle.usb_trace.proofs.starting.new_urbs.Given as goal

abbrev pub invariant-loop-u : goal.invariant-loop-u
invariant-loop-u l = l.urbs.items ≡ map (new_handled l.scene) (below l.u)
