use Rattle.std.proofs.Common.{◌≡◌, length}
use Rattle.usb_types.specs.Table.{is_table, entries}
use Rattle.usb_types.proofs.search.check.Given as goal

abbrev pub invariant-loop-row : goal.invariant-loop-row
invariant-loop-row l = is_table (entries l.initial.rest) ≡ is_table (entries l.rest)

abbrev pub decreases-loop-row : goal.decreases-loop-row
decreases-loop-row l = length l.rest
