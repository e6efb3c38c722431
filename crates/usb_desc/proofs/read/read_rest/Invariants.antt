use Rattle.std.proofs.Common.{◌≡◌, ◌≤◌, length}
use Rattle.usb_desc.specs.Read.{read_on}
use Rattle.usb_desc.proofs.read.read_rest.Given as goal

abbrev pub invariant-loop-rest : goal.invariant-loop-rest
invariant-loop-rest l = record {
  within : length l.rest ≤ l.total;
  so_far : read_on l.total l.tree 0 l.rest ≡ read_on l.total l.initial.tree 0 l.initial.rest;
}

abbrev pub decreases-loop-rest : goal.decreases-loop-rest
decreases-loop-rest l = length l.rest
