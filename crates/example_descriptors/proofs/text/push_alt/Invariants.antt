use Rattle.std.proofs.Common.{◌≡◌, ◌+◌, length}
use Rattle.example_descriptors.proofs.text.push_alt.Given as goal

abbrev pub invariant-loop-end : goal.invariant-loop-end
invariant-loop-end l = length l.lines.items ≡ length l.initial.lines.items + l.end-index
