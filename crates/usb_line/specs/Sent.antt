-- What a submit finds, and what it leaves.
use Rattle.std.specs.Prelude.{ℕ, ◌≡◌, ◌<◌, List, slice_get, slice_set, Some}
use Rattle.usb_types.specs.declared.errno.Code.{Code}
use Rattle.usb_machine.specs.declared.transfer.Transfer.{Transfer}
use Rattle.usb_machine.specs.declared.entry.Entry.{Entry}
use Rattle.usb_machine.specs.Shapes.{HasWindow, Accepts}
use Rattle.usb_machine.specs.State.{refusal}
use Rattle.usb_machine.specs.History.{HasHome, state_of}
use Rattle.usb_machine.specs.Calls.{submit_entries}
use Rattle.usb_scene.specs.declared.scene.Scene.{Scene}
use Rattle.usb_scene.specs.declared.scene.Call.{Call}
use Rattle.usb_trace.specs.declared.rows.HostCall.TheVariants as host_call
use Rattle.usb_line.specs.declared.run.UrbRow.{UrbRow}
use Rattle.usb_line.specs.declared.run.LineRun.{LineRun}
use Rattle.usb_prepare.specs.Layout.{home}
use Rattle.usb_trace.specs.Plan.{machine_of, fresh}
use Rattle.usb_line.specs.Line.{Progress, adds}
use Rattle.usb_line.specs.Shows.{Shows}
use Rattle.usb_trace.specs.Devices.{IsApt}
use Rattle.usb_line.specs.Steps.{passes_of}
use Rattle.usb_line.specs.Calls.{MayMake}
use Rattle.usb_line.specs.Turned.{SameElse}

-- the machine may be asked to send this transfer, which the URB's home takes
pub record MayAsk (s : Scene) (h : List Entry) (p u : ℕ) (t : Transfer) : Type 0 where
  pub there : p < passes_of s
  pub has : HasHome (machine_of s) u
  pub window : HasWindow t
  pub unmoved : t.actual ≡ 0
  pub taken : Accepts (slice_get (machine_of s).layout.shapes (home s u)) t

-- and the object shows the run before it
pub record MaySend (s : Scene) (f : Progress) (run : LineRun) (p u : ℕ) (t : Transfer) : Type 0 where
  pub shows : Shows s f run
  pub apt : IsApt s u t
  pub ask : MayAsk s f.history p u t

-- the gate was asked with this transfer, and answered this
pub record Sent (s : Scene) (f : Progress) (p u : ℕ) (t : Transfer) (code : Code) (run : LineRun) : Type 0 where
  pub gate : code ≡ refusal (state_of f.history u)
  pub shows : Shows s (adds f (submit_entries p u t code)) run

-- the object shows the run before a call that submits this URB with this transfer
pub record CanSubmit (run : LineRun) (p u : ℕ) (t : Transfer) : Type 0 where
  pub scene : Scene
  pub far : Progress
  pub thread : ℕ
  pub call : Call
  pub may : MayMake scene far thread call run p (host_call.Submit u)
  pub is : t ≡ fresh scene u call

-- the transfer is in the row of URB u, and nothing else changed
pub record Keeps (old new : LineRun) (u : ℕ) (t : Transfer) : Type 0 where
  pub row : UrbRow
  pub at : slice_get old.urbs.items u ≡ Some row
  pub rows : new.urbs.items ≡ slice_set old.urbs.items u (record row { transfer = Some t })
  pub same_ends : new.ends ≡ old.ends
  pub same_devices : new.devices ≡ old.devices
  pub same : SameElse old new
