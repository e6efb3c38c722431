-- What a serial port's core keeps, and what it does with a transfer that came back.
use Rattle.std.specs.Prelude.{◌≡◌, ℕ, ◌+◌, not, ◌&&◌, if◌then◌else◌, List, [], ◌++◌, length}
use Rattle.usb_types.specs.declared.errno.Code.{Code}
use Rattle.usb_types.specs.declared.errno.Code.TheVariants.{Zero, Fault}
use Rattle.usb_types.specs.declared.urb.Role.{Role}
use Rattle.usb_types.specs.declared.urb.Role.TheVariants.{In, Note as NoteRole, Read0, Read1}
use Rattle.usb_types.specs.declared.urb.Action.{Action}
use Rattle.usb_types.specs.declared.urb.Action.TheVariants.{Rest}
use Rattle.usb_machine.specs.declared.transfer.Transfer.{Transfer}
use Rattle.usb_machine.specs.Completion.{Completion, moved_bytes, read_again}
use Rattle.usb_acm.specs.declared.event.Event.{Event}
use Rattle.usb_acm.specs.Notifications.{notes, unfinished}
use Rattle.usb_acm.specs.Serial.{is_data, succeeded, lost, capped, stream_of, events_with, serial_events}

-- the bytes of a notification that is not whole yet, the events so far, and how many bytes were dropped
pub record AcmState : Type 0 where
  pub part : List ℕ
  pub events : List Event
  pub dropped : ℕ

-- the part that stands after a completion
abbrev pub part_with : List ℕ → Role → Code → List ℕ → List ℕ
part_with part NoteRole Zero moved = unfinished (part ++ moved)
part_with part NoteRole (Fault errno) moved = []
part_with part role status moved = part

-- the count of dropped bytes after it
abbrev pub dropped_with : ℕ → Role → Code → List ℕ → ℕ
dropped_with dropped role status moved = if is_data role && not (succeeded status) then capped (dropped + length moved) else dropped

-- the core takes note of one completion more
pub record Notes (old new : AcmState) (c : Completion) : Type 0 where
  pub part : new.part ≡ part_with old.part c.role c.status (moved_bytes c.transfer)
  pub events : new.events ≡ old.events ++ events_with (notes (old.part ++ moved_bytes c.transfer)) c.role c.status c.transfer.setup (moved_bytes c.transfer)
  pub dropped : new.dropped ≡ dropped_with old.dropped c.role c.status (moved_bytes c.transfer)

-- the core has seen these completions, and no other
pub record IsAfter (core : AcmState) (done : List Completion) : Type 0 where
  pub part : core.part ≡ unfinished (stream_of done)
  pub events : core.events ≡ serial_events done
  pub dropped : core.dropped ≡ capped (lost done)

-- the URBs of a serial port: its reads, its write, and the control transfers
abbrev pub IsOfAcm : Role → Type 0
IsOfAcm In = ⊥
IsOfAcm role = Unit {0}

-- the reads of data and of notes go on where reads do; all else rests
abbrev pub action_of : Role → Code → Transfer → Action
action_of NoteRole status t = read_again status t
action_of Read0 status t = read_again status t
action_of Read1 status t = read_again status t
action_of role status t = Rest
