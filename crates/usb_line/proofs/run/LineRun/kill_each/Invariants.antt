use Rattle.std.proofs.Common.{◌≡◌}
use Rattle.usb_scene.specs.declared.scene.Scene.{Scene}
use Rattle.usb_prepare.specs.Layout.{urb_count}
use Rattle.usb_trace.specs.Plan.{main_pass}
use Rattle.usb_line.specs.Line.{Progress}
use Rattle.usb_line.specs.Calls.{IsCalled, KilledEach}
use Rattle.usb_line.proofs.run.LineRun.kill_each.Given as goal

abbrev pub invariant-loop-u : goal.invariant-loop-u
invariant-loop-u l = (s : Scene) (f : Progress) → IsCalled s f l.fn.self → l.pass ≡ main_pass s → l.urbs ≡ urb_count s → KilledEach s f l.u l.self
