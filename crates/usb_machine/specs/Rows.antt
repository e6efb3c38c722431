-- What a pass owes and holds of an URB, and what an event of the pass changes there.
use Rattle.std.specs.Prelude.{ℕ, ◌<◌, Bool, false, ◌||◌, List}
use Rattle.usb_machine.specs.declared.event.Event.{Event}
use Rattle.usb_machine.specs.declared.event.Event.TheVariants.{Submit, Link, Reject}
use Rattle.usb_machine.specs.declared.event.Answer.{Answer}
use Rattle.usb_machine.specs.declared.entry.Entry.{Entry}
use Rattle.usb_machine.specs.declared.pass_row.PassRow.{PassRow}
use Rattle.usb_machine.specs.State.{accepted}
use Rattle.usb_machine.specs.Parts.{Held, nothing_held, held_after, held_of, owes}

-- the rejects that a pass holds have room for one more
abbrev pub CanHold : Event → Held → Type 0
CanHold (Reject u) d = d.rejects < 255
CanHold event d = Unit {0}

-- what a pass with these entries owes and holds
abbrev pub row_of : List Entry → ℕ → PassRow
row_of m u = record { owes = owes m u; held = held_of m u }

abbrev pub no_row : PassRow
no_row = record { owes = false; held = nothing_held }

abbrev pub owes_next : Event → Answer → Bool → Bool
owes_next (Submit u n) answer b = b || accepted answer
owes_next (Link u) answer b = false
owes_next event answer b = b

-- after an event of the URB with its answer
abbrev pub row_after : Event → Answer → PassRow → PassRow
row_after event answer row = record { owes = owes_next event answer row.owes; held = held_after row.held event }
