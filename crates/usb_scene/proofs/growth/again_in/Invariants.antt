use Rattle.std.proofs.Common.{◌≡◌, drop}
use Rattle.usb_scene.specs.Rules.{again_in}
use Rattle.usb_scene.proofs.growth.again_in.Given as goal

abbrev pub invariant-loop-option : goal.invariant-loop-option
invariant-loop-option l = again_in (drop l.option-index l.options) ≡ again_in l.options
