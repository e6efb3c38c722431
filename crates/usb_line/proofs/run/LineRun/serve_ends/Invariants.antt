use Rattle.std.proofs.Common.{◌≡◌, ◌≤◌, []}
use Rattle.usb_scene.specs.declared.scene.Scene.{Scene}
use Rattle.usb_scene.specs.WellFormed.{IsWellFormed}
use Rattle.usb_line.specs.Line.{Progress, marked_of, Passes}
use Rattle.usb_line.specs.Shows.{Shows, turns_left}
use Rattle.usb_line.proofs.run.LineRun.serve_ends.Given as goal

abbrev pub invariant-loop-ep : goal.invariant-loop-ep
invariant-loop-ep l = record {
  keeps : turns_left l.self ≤ turns_left l.fn.self;
  so_far : (s : Scene) (f : Progress) → IsWellFormed s → Shows s f l.fn.self → marked_of s f.history ≡ [] → (m : Progress) × Passes s f l.ep m × Shows s m l.self;
}
