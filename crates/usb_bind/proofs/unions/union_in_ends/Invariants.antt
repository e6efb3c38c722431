use Rattle.std.proofs.Common.{◌≡◌, drop}
use Rattle.usb_bind.specs.Needs.{union_in_ends}
use Rattle.usb_bind.proofs.unions.union_in_ends.Given as goal

abbrev pub invariant-loop-end : goal.invariant-loop-end
invariant-loop-end l = union_in_ends l.ends ≡ union_in_ends (drop l.end-index l.ends)
