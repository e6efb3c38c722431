use Rattle.std.proofs.Common.{◌≡◌, ◌++◌, length}
use Rattle.usb_text.specs.Words.{words}
use Rattle.usb_scene.proofs.lines.words_of.Given as goal

abbrev pub invariant-loop-word : goal.invariant-loop-word
invariant-loop-word l = l.found ++ words l.rest ≡ words l.line

abbrev pub decreases-loop-word : goal.decreases-loop-word
decreases-loop-word l = length l.rest
