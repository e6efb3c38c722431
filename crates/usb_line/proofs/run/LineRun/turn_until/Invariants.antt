use Rattle.std.proofs.Common.{◌≡◌, false, length}
use Rattle.usb_machine.specs.History.{state_of}
use Rattle.usb_scene.specs.declared.scene.Scene.{Scene}
use Rattle.usb_scene.specs.WellFormed.{IsWellFormed}
use Rattle.usb_line.specs.Line.{Progress, StaysLoud, is_quiet}
use Rattle.usb_line.specs.Shows.{IsShown, Shows, turns_left}
use Rattle.usb_line.specs.Steps.{IsStopping}
use Rattle.usb_line.proofs.run.LineRun.turn_until.Given as goal

abbrev pub invariant-loop-self : goal.invariant-loop-self
invariant-loop-self l = record {
  shown : IsShown l.self;
  urbs : length l.self.urbs.items ≡ length l.fn.self.urbs.items;
  so_far : (s : Scene) (f : Progress) → IsWellFormed s → Shows s f l.fn.self → is_quiet (state_of f.history l.urb) ≡ false → IsStopping (state_of f.history l.urb)
      → (m : Progress) × StaysLoud s l.urb f m × Shows s m l.self × IsStopping (state_of m.history l.urb);
}

abbrev pub decreases-loop-self : goal.decreases-loop-self
decreases-loop-self l = turns_left l.self
