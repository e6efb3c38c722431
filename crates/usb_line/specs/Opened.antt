-- What the object of a run begins with.
use Rattle.std.specs.Prelude.{ℕ, ◌≡◌, false, List, [], length, slice_get, Some, None}
use Rattle.usb_machine.specs.declared.layout.Shape.{Shape}
use Rattle.usb_scene.specs.declared.scene.Scene.{Scene}
use Rattle.usb_line.specs.declared.run.UrbRow.{UrbRow}
use Rattle.usb_line.specs.declared.run.EndRow.{EndRow}
use Rattle.usb_line.specs.declared.prepare.OpenedRun.{OpenedRun}
use Rattle.usb_prepare.specs.Prepared.{found_of, probes_of}
use Rattle.usb_prepare.specs.Layout.{home}
use Rattle.usb_trace.specs.Plan.{owner_of, again_of}
use Rattle.usb_trace.specs.GivebackRow.{IsReceived}
use Rattle.usb_line.specs.Line.{at_start}
use Rattle.usb_line.specs.Shows.{Shows}

-- an endpoint where nothing waits
pub record IsNewEnd (shape : Shape) (end : EndRow) : Type 0 where
  pub is : end.shape ≡ shape
  pub awake : end.asleep ≡ false
  pub none : IsReceived [] end.received

-- a new endpoint for each of these shapes
pub record AreNewEnds (shapes : List Shape) (ends : List EndRow) : Type 0 where
  pub count : length ends ≡ length shapes
  pub each : (e : ℕ) (shape : Shape) (end : EndRow) → slice_get shapes e ≡ Some shape → slice_get ends e ≡ Some end → IsNewEnd shape end

-- URB u before its first submit
abbrev pub new_urb : Scene → ℕ → UrbRow
new_urb s u = record { home = home s u; owner = owner_of s u; again = again_of s u; transfer = None }

-- the run before its first entry, and what its report says of the prepared scene
pub record IsOpenedRun (s : Scene) (o : OpenedRun) : Type 0 where
  pub run : Shows s at_start o.run
  pub found : o.found ≡ found_of s
  pub board : o.board ≡ (probes_of s).board
