use Rattle.usb_scene.specs.declared.scene.Scene.{Scene}
use Rattle.usb_scene.specs.WellFormed.{IsWellFormed}
use Rattle.usb_line.specs.Line.{Progress, GivesBack, woken}
use Rattle.usb_line.specs.Shows.{IsShown, Shows, turns_left}
use Rattle.usb_line.proofs.run.LineRun.serve.Given as goal

abbrev pub invariant-loop : goal.invariant-loop
invariant-loop l = record {
  shown : IsShown l.self;
  so_far : (s : Scene) (f : Progress) → IsWellFormed s → Shows s f l.fn.self → (m : Progress) × GivesBack s (woken f) m × Shows s m l.self;
}

abbrev pub decreases-loop : goal.decreases-loop
decreases-loop l = turns_left l.self
