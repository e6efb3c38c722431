-- The controller of a run.
use Rattle.std.specs.Prelude.{◌≡◌, List, [], map}
use Rattle.usb_machine.specs.declared.entry.TheConstants.{SERVER}
use Rattle.usb_machine.specs.Fresh.{Known, Sound}
use Rattle.usb_scene.specs.declared.scene.Scene.{Scene}
use Rattle.usb_trace.specs.declared.rows.GivebackRow.{GivebackRow}
use Rattle.usb_trace.specs.Plan.{machine_of}
use Rattle.usb_trace.specs.Run.{Giveback}
use Rattle.usb_trace.specs.GivebackRow.{giveback_row}
use Rattle.usb_threads.specs.Serving.{Served}

-- the server's pass before the first turn
pub record IsIdle (s : Scene) (p : Known) : Type 0 where
  pub number : p.number ≡ SERVER
  pub new : p.mine ≡ []
  pub sound : Sound (machine_of s) p

-- the server made givebacks, of which this is told, and its devices and handlers have come as far
pub record HasControlled (s : Scene) (after : List Giveback → Type 0) (from to : Known) (given : List GivebackRow) : Type 0 where
  pub rounds : List Giveback
  pub served : Served s from to rounds
  pub stands : after rounds
  pub told : given ≡ map (giveback_row s) rounds
