use Rattle.std.proofs.Common.{◌≡◌, drop}
use Rattle.usb_scene.specs.Rules.{len_in}
use Rattle.usb_scene.proofs.growth.len_in.Given as goal

abbrev pub invariant-loop-option : goal.invariant-loop-option
invariant-loop-option l = len_in (drop l.option-index l.options) ≡ len_in l.options
