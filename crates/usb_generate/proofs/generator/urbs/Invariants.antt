use Rattle.std.proofs.Common.{◌≡◌}
use Rattle.usb_generate.specs.Generator.{urbs}
use Rattle.usb_generate.proofs.generator.urbs.Given as goal

abbrev pub invariant-loop-number : goal.invariant-loop-number
invariant-loop-number l = l.urbs ≡ urbs l.number
