-- A turn of the controller of a run.
use Rattle.std.specs.Prelude.{◌≡◌, List, [], ◌∷◌, ◌++◌, Option, Some, None}
use Rattle.usb_machine.specs.Fresh.{Known}
use Rattle.usb_scene.specs.declared.scene.Scene.{Scene}
use Rattle.usb_trace.specs.declared.rows.GivebackRow.{GivebackRow}
use Rattle.usb_trace.specs.Run.{Giveback}
use Rattle.usb_trace.specs.GivebackRow.{giveback_row}
use Rattle.usb_threads.specs.Serving.{GaveNothing, Gave}

-- after these givebacks the server gave nothing back, or one URB, of which this is told; what stands after the givebacks goes on
-- with it
abbrev pub Turned : Scene → List Giveback → Known → Known → Option GivebackRow → (List Giveback → Type 0) → Type 0
Turned s rounds p q None after = GaveNothing s p q × after rounds
Turned s rounds p q (Some row) after = (r : Giveback) × Gave s rounds p q r × (row ≡ giveback_row s r) × after (rounds ++ r ∷ [])
