use Rattle.std.proofs.Common.{◌≡◌, ◌+◌, ◌≤◌, length}
use Rattle.usb_text.specs.Lines.{raw_lines}
use Rattle.usb_scene.specs.Read.{lines_read, scene_of}
use Rattle.usb_scene.proofs.read.read_scene.Given as goal

abbrev pub invariant-loop-rest : goal.invariant-loop-rest
invariant-loop-rest l = record {
  so_far : lines_read l.reading l.line (raw_lines l.rest) ≡ scene_of l.bytes;
  few : l.line + length l.rest ≤ length l.bytes;
}

abbrev pub decreases-loop-rest : goal.decreases-loop-rest
decreases-loop-rest l = length l.rest
