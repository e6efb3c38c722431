-- The events of a printer, of all that its URBs brought back, and what becomes of a job's transfer.
use Rattle.std.specs.Prelude.{ℕ, ◌+◌, min, ◌&&◌, ◌==◌, Bool, true, false, if◌then◌else◌, List, [], ◌∷◌, ◌++◌, Option, Some, None, slice_index}
use Rattle.std.specs.List.{flat_map}
use Rattle.usb_types.specs.declared.errno.Errno.{Errno}
use Rattle.usb_types.specs.declared.errno.Errno.TheVariants.{ENOENT, ECONNRESET, ESHUTDOWN}
use Rattle.usb_types.specs.declared.errno.Code.{Code}
use Rattle.usb_types.specs.declared.errno.Code.TheVariants.{Zero, Fault}
use Rattle.usb_types.specs.declared.urb.Role.{Role}
use Rattle.usb_types.specs.declared.urb.Role.TheVariants.{Write, Ctl}
use Rattle.usb_types.specs.declared.urb.Action.{Action}
use Rattle.usb_types.specs.declared.urb.Action.TheVariants.{Rest, Again, Ask}
use Rattle.usb_machine.specs.declared.transfer.Transfer.{Transfer}
use Rattle.usb_machine.specs.Completion.{Completion, moved_bytes, after_window}
use Rattle.usb_printer.specs.declared.event.Event.{Event}
use Rattle.usb_printer.specs.declared.event.Event.TheVariants.{Job, Port}
use Rattle.usb_printer.specs.Ids.{id_events}

-- a job of this many bytes begins with a window of at most 8,192
abbrev pub first_window : ℕ → ℕ
first_window n = min n 8192

-- a job ends with its last window, and at its first fault
abbrev pub is_over : Code → Transfer → Bool
is_over Zero t = after_window t == 0
is_over (Fault errno) t = true

-- a job that is over has a line: the bytes of the windows before, and what was moved of the last
abbrev pub job_events : Code → Transfer → List Event
job_events status t = if is_over status t then Job t.number (t.from + t.actual) status ∷ [] else []

-- GET_PORT_STATUS (printer class 1.1, section 4.2.2)
abbrev pub asks_port : Option (List ℕ) → Bool
asks_port None = false
asks_port (Some setup) = slice_index setup 0 == 0xA1 && slice_index setup 1 == 0x01

-- an answer of just one byte is the port's status
abbrev pub port_in : List ℕ → List Event
port_in (status ∷ []) = Port status ∷ []
port_in moved = []

abbrev pub port_events : Code → Transfer → List Event
port_events Zero t = if asks_port t.setup then port_in (moved_bytes t) else []
port_events (Fault errno) t = []

-- what an URB that came back reports
abbrev pub told_by : Role → Code → Transfer → List Event
told_by Write status t = job_events status t
told_by Ctl status t = port_events status t
told_by role status t = []

abbrev pub events_of : Completion → List Event
events_of c = told_by c.role c.status c.transfer

-- the events of a printer: its id, and what each completion reports
abbrev pub print_events : List ℕ → List Completion → List Event
print_events id done = id_events id ++ flat_map events_of done

-- the status of an URB that was unlinked, killed or shut down
abbrev pub is_unlink : Errno → Bool
is_unlink ECONNRESET = true
is_unlink ENOENT = true
is_unlink ESHUTDOWN = true
is_unlink errno = false

-- after a window that went well comes the next one, and after a fault the question, unless the driver's own side made it
abbrev pub action_of : Role → Code → Transfer → Action
action_of Write Zero t = if after_window t == 0 then Rest else Again (t.from + t.len) (first_window (after_window t))
action_of Write (Fault errno) t = if is_unlink errno then Rest else Ask
action_of role status t = Rest
