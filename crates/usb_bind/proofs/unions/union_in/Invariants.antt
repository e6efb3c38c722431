use Rattle.std.proofs.Common.{◌≡◌, length}
use Rattle.usb_bind.specs.Needs.{union_in}
use Rattle.usb_bind.proofs.unions.union_in.Given as goal

abbrev pub invariant-loop-rest : goal.invariant-loop-rest
invariant-loop-rest l = union_in 0 l.fn.extras ≡ union_in 0 l.rest

abbrev pub decreases-loop-rest : goal.decreases-loop-rest
decreases-loop-rest l = length l.rest
