-- What a printer's core keeps.
use Rattle.std.specs.Prelude.{◌≡◌, ℕ, Bool, ◌==◌, false, if◌then◌else◌, List, ◌++◌}
use Rattle.usb_types.specs.declared.urb.Role.{Role}
use Rattle.usb_types.specs.declared.urb.Role.TheVariants.{Write, Ctl}
use Rattle.usb_machine.specs.declared.transfer.Transfer.{Transfer}
use Rattle.usb_printer.specs.declared.event.Event.{Event}
use Rattle.usb_machine.specs.Completion.{Completion}
use Rattle.usb_printer.specs.Jobs.{events_of, print_events}

-- the number and the interface of its question, whether the question is out, and the events so far
pub record PrinterState : Type 0 where
  pub number : ℕ
  pub interface : ℕ
  pub out : Bool
  pub events : List Event

-- the URBs of a printer: its jobs, and the control transfers
abbrev pub IsOfPrinter : Role → Type 0
IsOfPrinter Write = Unit {0}
IsOfPrinter Ctl = Unit {0}
IsOfPrinter role = ⊥

-- a control transfer with the question's number is the question
abbrev pub is_question : ℕ → Role → Transfer → Bool
is_question question Ctl t = t.number == question
is_question question role t = false

-- the core takes note of one completion more: a question that came back is not out
abbrev pub noted : PrinterState → Completion → PrinterState
noted core c = record core { out = if is_question core.number c.role c.transfer then false else core.out; events = core.events ++ events_of c }

-- the core of a printer with this id has seen these completions, and no other
abbrev pub IsAfter : PrinterState → List ℕ → List Completion → Type 0
IsAfter core id done = core.events ≡ print_events id done
