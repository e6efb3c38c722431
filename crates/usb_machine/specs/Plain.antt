-- The machine as an object: the history that it stands for, and the events that it may be given.
use Rattle.std.specs.Prelude.{◌≡◌, ℕ, ◌+◌, ◌*◌, ◌^◌, ◌<◌, ◌≤◌, List, length, slice_get, slice_set, Option, Some, All}
use Rattle.circular_buffer.specs.Buffer.{buffer}
use Rattle.usb_machine.specs.declared.event.Event.{Event}
use Rattle.usb_machine.specs.declared.event.Event.TheVariants.{Take, Give, Reject}
use Rattle.usb_machine.specs.declared.transfer.Transfer.{Transfer}
use Rattle.usb_machine.specs.declared.entry.Entry.{Entry}
use Rattle.usb_machine.specs.declared.layout.Layout.{Layout}
use Rattle.usb_machine.specs.declared.state.UrbState.{UrbState}
use Rattle.usb_machine.specs.declared.event.Answer.{Answer}
use Rattle.usb_machine.specs.declared.entry.TheConstants.{SERVER}
use Rattle.usb_machine.specs.declared.pass_row.PassRow.{PassRow}
use Rattle.usb_machine.specs.declared.plain.Plain.{Plain}
use Rattle.usb_machine.specs.declared.queues.Queues.{Queues}
use Rattle.usb_machine.specs.History.{Machine, state_of, line_of, pending_of}
use Rattle.usb_machine.specs.Parts.{part_of, held_of}
use Rattle.usb_machine.specs.Legal.{May, urb_of, Carries, IsLegal}
use Rattle.usb_machine.specs.Rows.{CanHold, row_of, row_after}
use Rattle.usb_machine.specs.Queues.{HomeIsBelow, homed_at}

-- fewer than 2^31 URBs and endpoints, and each home is one of the endpoints
pub record IsLayout (layout : Layout) : Type 0 where
  pub urbs : length layout.homes < 2 ^ 31
  pub ends : length layout.shapes < 2 ^ 31
  pub homes : All (HomeIsBelow (length layout.shapes)) layout.homes

-- how many URBs and how many endpoints the object knows
abbrev pub urbs_of : Plain → ℕ
urbs_of plain = length plain.states.items

abbrev pub ends_of : Plain → ℕ
ends_of plain = length plain.ends.items

-- the event is of an URB, or a Take of an endpoint, that the object knows
abbrev pub IsInside : Plain → Event → Type 0
IsInside plain (Take e) = e < ends_of plain
IsInside plain event = urb_of event < urbs_of plain

-- the event is of an URB
abbrev pub IsOfUrb : Event → Type 0
IsOfUrb (Take e) = ⊥
IsOfUrb event = Unit {0}

-- the counts of an URB's state can be raised by the event
abbrev pub CanCount : Event → UrbState → Type 0
CanCount (Give u) s = s.handlers + 1 < 2 ^ 64
CanCount (Reject u) s = s.rejects + 1 < 2 ^ 64
CanCount event s = Unit {0}

-- a count that the event raises has room for one more
abbrev pub HasRoom : List Entry → ℕ → Event → Type 0
HasRoom h p (Give u) = (state_of h u.0).handlers < 2 ^ 63
HasRoom h p (Reject u) = (held_of (part_of h p) u.0).rejects < 255
HasRoom h p event = Unit {0}

-- the event may come next, made by this pass and with what it carries
pub record IsNext (g : Machine) (h : List Entry) (p : ℕ) (event : Event) (carried : Option Transfer) : Type 0 where
  pub pass : p < g.passes
  pub may : May g h p event
  pub room : HasRoom h p event
  pub carries : Carries g event carried

-- an endpoint's two lists after a history, in room for all URBs whose home it is
abbrev pub queues_of : Machine → List Entry → ℕ → Queues
queues_of g h e = let room = homed_at g.layout.homes e in record { line = buffer (line_of g h e) room; pending = buffer (pending_of g h e) room }

-- the row at this place is the one after the event with its answer, where it has room for it
abbrev pub NotesRow : Plain → Plain → ℕ → Event → Answer → Type 0
NotesRow old new place event answer = (row : PassRow) → slice_get old.rows.items place ≡ Some row → CanHold event row.held → new.rows.items ≡ slice_set old.rows.items place (row_after event answer row)

-- the object is the machine g after the legal history h
pub record Stands (plain : Plain) (g : Machine) (h : List Entry) : Type 0 where
  pub legal : IsLegal g h
  pub passes : plain.passes ≡ g.passes
  pub most : g.passes ≤ 66
  pub bottom : g.bottom ≡ SERVER
  pub homes : plain.homes.items ≡ g.layout.homes
  pub urbs : urbs_of plain ≡ length g.layout.homes
  pub ends : ends_of plain ≡ length g.layout.shapes
  pub states : (u : ℕ) → u < urbs_of plain → slice_get plain.states.items u ≡ Some (state_of h u)
  pub queues : (e : ℕ) → e < ends_of plain → slice_get plain.ends.items e ≡ Some (queues_of g h e)
  pub rows : (p u : ℕ) → p < g.passes → u < urbs_of plain → slice_get plain.rows.items (p * urbs_of plain + u) ≡ Some (row_of (part_of h p) u)
  pub few : (p u : ℕ) → (held_of (part_of h p) u).rejects ≤ 255

-- the pass and what the event is of are there, it may come next, and the counts that it raises have room
abbrev pub Fits : Plain → Machine → List Entry → ℕ → Event → Type 0
Fits plain g h p event = (p < g.passes) × IsInside plain event × May g h p event × HasRoom h p event
