use Rattle.std.proofs.Common.{◌≡◌}
use Rattle.usb_scene.specs.declared.scene.Scene.{Scene}
use Rattle.usb_prepare.specs.Layout.{urb_count}
use Rattle.usb_line.specs.Line.{Progress}
use Rattle.usb_line.specs.Calls.{IsShut, Claimed}
use Rattle.usb_line.proofs.run.LineRun.claim_each.Given as goal

abbrev pub invariant-loop-u : goal.invariant-loop-u
invariant-loop-u l = (s : Scene) (f : Progress) → IsShut s f l.fn.self → l.urbs ≡ urb_count s → Claimed s f l.u l.self
