-- What the code of a run keeps of it.
use Rattle.std.specs.Prelude.{ℕ, ◌≡◌, ◌+◌, ◌-◌, ◌<◌, ◌^◌, Bool, true, false, if◌then◌else◌, List, [], length, map, sum_by, slice_get, Option, Some, None, option_and_then}
use Rattle.std.specs.Option.{option_map_or}
use Rattle.usb_machine.specs.declared.transfer.Transfer.{Transfer}
use Rattle.usb_machine.specs.declared.entry.Entry.{Entry}
use Rattle.usb_machine.specs.Completion.{after_window}
use Rattle.usb_machine.specs.declared.plain.Plain.{Plain}
use Rattle.usb_machine.specs.History.{state_of, pending_of, sent_of}
use Rattle.usb_machine.specs.Plain.{Stands}
use Rattle.usb_xfer.specs.Moved.{moved, IsOpen}
use Rattle.usb_device.specs.Left.{items_left}
use Rattle.usb_class.specs.Handler.{is_ctl}
use Rattle.usb_xfer.specs.Replies.{Question}
use Rattle.usb_scene.specs.declared.scene.Scene.{Scene}
use Rattle.usb_scene.specs.WellFormed.{IsWellFormed}
use Rattle.usb_line.specs.declared.run.UrbRow.{UrbRow}
use Rattle.usb_line.specs.declared.run.EndRow.{EndRow}
use Rattle.usb_line.specs.declared.run.LineRun.{LineRun}
use Rattle.usb_prepare.specs.Ends.{ends_of, shape_at}
use Rattle.usb_prepare.specs.Layout.{urb_count, home}
use Rattle.usb_class.specs.declared.owner.Owner.{Owner}
use Rattle.usb_trace.specs.Plan.{machine_of, owner_of, again_of}
use Rattle.usb_trace.specs.Run.{times_back, asked_of}
use Rattle.usb_trace.specs.Handlers.{ShowsCores}
use Rattle.usb_line.specs.Between.{IsCalm, AllLinked}
use Rattle.usb_trace.specs.Devices.{IsApt, ShowsDevices}
use Rattle.usb_trace.specs.GivebackRow.{giveback_row, acked_at, IsReceived}
use Rattle.usb_line.specs.Line.{Progress, asked_so_far, replies_had, Gives, GivesBack, IsIdle, woken}

-- the transfer is the one that was sent, as its replies so far moved it, and they did not end it
pub record IsMoving (s : Scene) (f : Progress) (u : ℕ) (t : Transfer) : Type 0 where
  pub start : Transfer
  pub apt : IsApt s u start
  pub sent : sent_of f.history u ≡ Some start
  pub moving : t ≡ moved (shape_at s (home s u)) start (replies_had s f u)
  pub going : IsOpen (shape_at s (home s u)) start (replies_had s f u)

-- the transfer of an URB is there exactly where it is queued
abbrev pub HoldsTransfer : Scene → Progress → ℕ → Option Transfer → Type 0
HoldsTransfer s f u None = (state_of f.history u).queued ≡ false
HoldsTransfer s f u (Some t) = ((state_of f.history u).queued ≡ true) × IsMoving s f u t

pub record ShowsUrb (s : Scene) (f : Progress) (u : ℕ) (row : UrbRow) : Type 0 where
  pub at : row.home ≡ home s u
  pub owner : row.owner ≡ owner_of s u
  pub more : row.again ≡ again_of s u - times_back u f.rounds
  pub holds : HoldsTransfer s f u row.transfer

pub record ShowsEnd (s : Scene) (f : Progress) (e : ℕ) (end : EndRow) : Type 0 where
  pub is : end.shape ≡ shape_at s e
  pub sleeps : end.asleep ≡ f.asleep e
  pub acked : IsReceived (acked_at s e f.rounds) end.received

-- the transfer that is first pending at an endpoint
abbrev pub first_sent : Scene → Progress → ℕ → Option Transfer
first_sent s f e = option_and_then (sent_of f.history) (slice_get (pending_of (machine_of s) f.history e) 0)

abbrev pub asked_by : Scene → Progress → ℕ → Option Transfer → List Question
asked_by s f e None = asked_of s e f.rounds
asked_by s f e (Some t) = asked_so_far s f e t

-- what an endpoint was asked in the run: by its givebacks, and since by what is first pending
abbrev pub asked_now : Scene → Progress → ℕ → List Question
asked_now s f e = asked_by s f e (first_sent s f e)

-- the run's object has come as far as f: its machine, its devices, endpoints and URBs, the cores of its drivers, and what came back
pub record Shows (s : Scene) (f : Progress) (run : LineRun) : Type 0 where
  pub stands : Stands run.plain (machine_of s) f.history
  pub calm : IsCalm f.history
  pub linked : AllLinked f.history
  pub devices : ShowsDevices s (asked_now s f) run.devices.items
  pub few_ends : ends_of s < 2 ^ 31
  pub all_ends : length run.ends.items ≡ ends_of s
  pub each_end : (e : ℕ) (end : EndRow) → slice_get run.ends.items e ≡ Some end → ShowsEnd s f e end
  pub all_urbs : length run.urbs.items ≡ urb_count s
  pub each_urb : (u : ℕ) (row : UrbRow) → slice_get run.urbs.items u ≡ Some row → ShowsUrb s f u row
  pub unmoved : (e : ℕ) → pending_of (machine_of s) f.history e ≡ [] → f.so_far e ≡ []
  pub cores : ShowsCores s f.rounds run.cores.items
  pub came_back : run.given.items ≡ map (giveback_row s) f.rounds
  pub host : run.down ≡ f.down

-- the object shows some progress of a scene
pub record IsShown (run : LineRun) : Type 0 where
  pub scene : Scene
  pub good : IsWellFormed scene
  pub far : Progress
  pub shows : Shows scene far run

-- the machine is one of a scene after a history
pub record IsStood (plain : Plain) : Type 0 where
  pub scene : Scene
  pub good : IsWellFormed scene
  pub history : List Entry
  pub stands : Stands plain (machine_of scene) history

-- a transfer of endpoint zero is followed by none, and another one perhaps by a question
abbrev pub rank : Option Owner → ℕ
rank o = option_map_or (λ (o : Owner). if is_ctl o.role then 1 else 2) o 2

abbrev pub held : Option Owner → Option Transfer → ℕ
held o None = 0
held o (Some t) = rank o + after_window t

-- at most so many turns give something back: what a driver reads again has used an item, and a job goes on after its window
abbrev pub turns_left : LineRun → ℕ
turns_left run = sum_by (λ (row : UrbRow). row.again + held row.owner row.transfer) run.urbs.items + sum_by items_left run.devices.items

-- what a turn did, by whether it gave back
abbrev pub Turned : Scene → Progress → Bool → LineRun → Type 0
Turned s f true run = (e : Progress) × Gives s f e × Shows s e run
Turned s f false run = (e : Progress) × IsIdle s f e × Shows s e run

-- what a serve did
pub record Served (s : Scene) (f : Progress) (run : LineRun) : Type 0 where
  pub middle : Progress
  pub last : Progress
  pub gave : GivesBack s (woken f) middle
  pub idle : IsIdle s middle last
  pub shows : Shows s last run
