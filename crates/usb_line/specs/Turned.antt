-- What the parts of a turn do.
use Rattle.std.specs.Prelude.{ℕ, suc, ◌≡◌, ◌<◌, ◌≤◌, ◌⊎◌, Bool, true, false, List, [], slice_get, slice_set, Option, Some, None}
use Rattle.usb_types.specs.declared.errno.Code.{Code}
use Rattle.usb_types.specs.declared.errno.Code.TheVariants.{Fault}
use Rattle.usb_types.specs.declared.urb.Why.{Why}
use Rattle.usb_types.specs.Codes.{errno_of}
use Rattle.usb_machine.specs.declared.transfer.Transfer.{Transfer}
use Rattle.usb_machine.specs.History.{pending_of}
use Rattle.usb_xfer.specs.Replies.{Reply}
use Rattle.usb_xfer.specs.declared.packet.Step.{Step}
use Rattle.usb_xfer.specs.declared.packet.Step.TheVariants.{More, Waiting, Ended}
use Rattle.usb_xfer.specs.On.{Gave, RunsOn}
use Rattle.usb_device.specs.declared.scripted.Scripted.{Scripted}
use Rattle.usb_device.specs.Replied.{Replied}
use Rattle.usb_scene.specs.declared.scene.Scene.{Scene}
use Rattle.usb_scene.specs.WellFormed.{IsWellFormed}
use Rattle.usb_line.specs.declared.run.UrbRow.{UrbRow}
use Rattle.usb_line.specs.declared.run.EndRow.{EndRow}
use Rattle.usb_line.specs.declared.run.LineRun.{LineRun}
use Rattle.usb_prepare.specs.Ends.{ends_of}
use Rattle.usb_trace.specs.Plan.{machine_of}
use Rattle.usb_line.specs.Line.{Progress, marked_of, had_after, GoesTo, IsServed, IsMarked, round_of, given_back, replies_had, Passes}
use Rattle.usb_line.specs.Shows.{Shows, turns_left}

-- the code that a transfer ended with
abbrev pub code_of : Step → Option Code
code_of (Ended c) = Some c
code_of More = None
code_of Waiting = None

-- nothing else of the run changed
pub record SameElse (old new : LineRun) : Type 0 where
  pub plain : new.plain ≡ old.plain
  pub told : new.given ≡ old.given
  pub host : new.down ≡ old.down
  pub cores : new.cores ≡ old.cores

-- the transfer of URB u was taken out of its row
pub record TakesOut (old new : LineRun) (u : ℕ) (t : Option Transfer) : Type 0 where
  pub row : UrbRow
  pub at : slice_get old.urbs.items u ≡ Some row
  pub is : t ≡ row.transfer
  pub rows : new.urbs.items ≡ slice_set old.urbs.items u (record row { transfer = None })
  pub same_ends : new.ends ≡ old.ends
  pub same_devices : new.devices ≡ old.devices
  pub same : SameElse old new

-- a transfer was moved on at endpoint e, whose device was asked until it ended with this code, or waits
pub record MovedOn (old new : LineRun) (e : ℕ) (t now : Transfer) (code : Option Code) : Type 0 where
  pub end : EndRow
  pub there : slice_get old.ends.items e ≡ Some end
  pub device : Scripted
  pub asked : slice_get old.devices.items end.shape.device ≡ Some device
  pub after : Scripted
  pub more : List Reply
  pub step : Step
  pub gave : Gave Replied end.shape t device more now after
  pub runs : RunsOn end.shape t now more step
  pub says : code ≡ code_of step
  pub devices_so : new.devices.items ≡ slice_set old.devices.items end.shape.device after
  pub same_ends : new.ends ≡ old.ends
  pub same_urbs : new.urbs ≡ old.urbs
  pub same : SameElse old new

-- the transfer waits in the row of URB u, and endpoint e sleeps
pub record FallsAsleep (old new : LineRun) (e u : ℕ) (t : Transfer) : Type 0 where
  pub row : UrbRow
  pub at : slice_get old.urbs.items u ≡ Some row
  pub end : EndRow
  pub there : slice_get old.ends.items e ≡ Some end
  pub rows : new.urbs.items ≡ slice_set old.urbs.items u (record row { transfer = Some t })
  pub ends_so : new.ends.items ≡ slice_set old.ends.items e (record end { asleep = true })
  pub same_devices : new.devices ≡ old.devices
  pub same : SameElse old new

-- the first pending URB of endpoint e, where it is awake and has one
abbrev pub FirstAwake : Scene → Progress → ℕ → Option ℕ → Type 0
FirstAwake s f e None = (f.asleep e ≡ true) ⊎ (pending_of (machine_of s) f.history e ≡ [])
FirstAwake s f e (Some u) = (f.asleep e ≡ false) × (slice_get (pending_of (machine_of s) f.history e) 0 ≡ Some u)

-- the object shows a progress with an unlinked URB, of which u is the first
pub record UnlinkedFirst (run : LineRun) (u : ℕ) : Type 0 where
  pub scene : Scene
  pub good : IsWellFormed scene
  pub far : Progress
  pub shows : Shows scene far run
  pub first : slice_get (marked_of scene far.history) 0 ≡ Some u

-- the first unlinked URB was given back
pub record GaveUnlinked (s : Scene) (f : Progress) (run : LineRun) : Type 0 where
  pub urb : ℕ
  pub why : Why
  pub start : Transfer
  pub is : IsMarked s f urb why start
  pub shows : Shows s (given_back s f (round_of s f urb (Fault (errno_of why)) false start (replies_had s f urb))) run

-- the object shows a progress in which no pending URB was unlinked
pub record IsUnmarked (run : LineRun) : Type 0 where
  pub scene : Scene
  pub good : IsWellFormed scene
  pub far : Progress
  pub shows : Shows scene far run
  pub none : marked_of scene far.history ≡ []

-- the first pending transfer of endpoint e ended, and came back
pub record EndsAt (s : Scene) (f : Progress) (e : ℕ) (run : LineRun) : Type 0 where
  pub awake : f.asleep e ≡ false
  pub urb : ℕ
  pub start : Transfer
  pub count : ℕ
  pub code : Code
  pub at : IsServed s f e urb start
  pub goes : GoesTo s f e start count (Ended code)
  pub shows : Shows s (given_back s f (round_of s f urb code true start (had_after s f e start count))) run

-- endpoint e was passed over, or its first pending transfer waits now
pub record PassesBy (s : Scene) (f : Progress) (e : ℕ) (run : LineRun) : Type 0 where
  pub far : Progress
  pub passes : (g : Progress) → Passes s g e f → Passes s g (suc e) far
  pub same : far.history ≡ f.history
  pub shows : Shows s far run

-- what the look at endpoint e did, by whether a transfer came back
abbrev pub EndServed : Scene → Progress → ℕ → Bool → LineRun → Type 0
EndServed s f e true run = EndsAt s f e run
EndServed s f e false run = PassesBy s f e run

-- what going through the endpoints did, by whether a transfer came back
abbrev pub EndsServed : Scene → Progress → Bool → LineRun → Type 0
EndsServed s f true run = (e : ℕ) × (m : Progress) × (e < ends_of s) × Passes s f e m × EndsAt s m e run
EndsServed s f false run = (m : Progress) × Passes s f (ends_of s) m × Shows s m run

-- fewer turns are left where something came back, and else no more
abbrev pub TurnsFall : Bool → LineRun → LineRun → Type 0
TurnsFall true old new = turns_left new < turns_left old
TurnsFall false old new = turns_left new ≤ turns_left old
