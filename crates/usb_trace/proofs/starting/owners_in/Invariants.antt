use Rattle.std.proofs.Common.{◌≡◌, map}
use Rattle.usb_prepare.specs.Below.{below}
use Rattle.usb_trace.specs.Plan.{owner_of}
use Rattle.usb_trace.proofs.starting.owners_in.Given as goal

abbrev pub invariant-loop-u : goal.invariant-loop-u
invariant-loop-u l = l.owners.items ≡ map (owner_of l.scene) (below l.u)
