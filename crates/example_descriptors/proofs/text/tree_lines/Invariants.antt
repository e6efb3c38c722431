use Rattle.std.proofs.Common.{◌≡◌, ◌+◌, length, sum_by, take}
use Rattle.example_descriptors.specs.Lines.{lines_of}
use Rattle.example_descriptors.proofs.text.tree_lines.Given as goal

abbrev pub invariant-loop-alt : goal.invariant-loop-alt
invariant-loop-alt l = length l.lines.items ≡ 1 + sum_by lines_of (take l.alt-index l.alt-items)
