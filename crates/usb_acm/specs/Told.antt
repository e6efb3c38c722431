-- What the events of a serial port mean: the bytes that they report, and the stream that notes bring.
use Rattle.std.specs.Prelude.{ℕ, ◌≡◌, List, [], map}
use Rattle.std.specs.List.{concat}
use Rattle.usb_types.specs.declared.errno.Code.TheVariants.{Zero}
use Rattle.usb_types.specs.declared.urb.Role.TheVariants.{Note as NoteRole}
use Rattle.usb_acm.specs.declared.event.Event.{Event}
use Rattle.usb_acm.specs.declared.event.Event.TheVariants.{Rx, State, Note, BadNote, Coding, Tx}
use Rattle.usb_machine.specs.Completion.{Completion}
use Rattle.usb_acm.specs.Serial.{is_data, bytes_where}

-- the bytes that an event reports as received
abbrev pub bytes_in : Event → List ℕ
bytes_in (Rx bytes) = bytes
bytes_in (State bits) = []
bytes_in (Note request) = []
bytes_in BadNote = []
bytes_in (Coding bytes) = []
bytes_in (Tx actual status) = []

abbrev pub bytes_told : List Event → List ℕ
bytes_told events = concat (map bytes_in events)

-- the bytes that all reads of data moved
abbrev pub read_bytes : List Completion → List ℕ
read_bytes done = bytes_where (λ (c : Completion). is_data c.role) done

-- a read of notes that succeeded
pub record IsNote (c : Completion) : Type 0 where
  pub role : c.role ≡ NoteRole
  pub status : c.status ≡ Zero
