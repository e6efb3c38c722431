use Rattle.std.proofs.Common.{◌≡◌, ◌+◌, ◌≤◌, length}
use Rattle.usb_text.specs.Lines.{raw_lines}
use Rattle.usb_scene.specs.Split.{in_front, lines_split, split_of}
use Rattle.usb_scene.proofs.lines.split.Given as goal

abbrev pub invariant-loop-rest : goal.invariant-loop-rest
invariant-loop-rest l = record {
  so_far : in_front l.lines (lines_split l.number (raw_lines l.rest)) ≡ split_of l.bytes;
  few : l.number + length l.rest ≤ length l.bytes;
}

abbrev pub decreases-loop-rest : goal.decreases-loop-rest
decreases-loop-rest l = length l.rest
