-- What a controller keeps: the transfers of the pending URBs, each as it was taken and moved since.
use Rattle.std.specs.Prelude.{ℕ, ◌≡◌, ◌<◌, ◌^◌, ◌⊎◌, false, List, [], length, map, slice_get, slice_set, Option, Some, None, All, true, ◌∷◌, ◌≤◌}
use Rattle.circular_buffer.specs.Buffer.{buffer}
use Rattle.usb_machine.specs.declared.layout.Layout.{Layout}
use Rattle.usb_machine.specs.declared.layout.Shape.{Shape}
use Rattle.usb_machine.specs.declared.transfer.Transfer.{Transfer}
use Rattle.usb_machine.specs.Shapes.{HasWindow, shape_fault}
use Rattle.usb_machine.specs.Queues.{homed_at}
use Rattle.usb_xfer.specs.Replies.{Reply}
use Rattle.usb_xfer.specs.Moved.{moved, IsOpen, IsWhole}
use Rattle.usb_serve.specs.declared.controller.Held.{Held}
use Rattle.usb_serve.specs.declared.controller.EndRow.{EndRow}
use Rattle.usb_serve.specs.declared.controller.Controller.{Controller}
use Rattle.usb_serve.specs.Knows.{Knows}

-- an endpoint before any turn, with room for so many URBs
abbrev pub empty_end : Shape → ℕ → EndRow
empty_end shape room = record { shape = shape; asleep = false; clean = false; held = buffer [] room }

abbrev pub awake : EndRow → EndRow
awake row = record row { asleep = false }

abbrev pub held_in : Option EndRow → List Held
held_in None = []
held_in (Some row) = row.held.items

-- the pending URBs of endpoint e with their transfers
abbrev pub held_at : List EndRow → ℕ → List Held
held_at ends e = held_in (slice_get ends e)

abbrev pub urbs_in : List Held → List ℕ
urbs_in hs = map (λ (h : Held). h.urb.0) hs

-- the endpoint has these URBs pending
abbrev pub with_held : List Held → EndRow → EndRow
with_held hs row = record row { held = buffer hs row.held.capacity }

-- each endpoint of the layout is there with its shape, has room for the URBs whose home it is, and its device is there
pub record HasLayout (layout : Layout) (devices : ℕ) (ends : List EndRow) : Type 0 where
  pub all : length ends ≡ length layout.shapes
  pub few : length layout.shapes < 2 ^ 31
  pub each : (e : ℕ) (row : EndRow) → slice_get ends e ≡ Some row → (slice_get layout.shapes e ≡ Some row.shape) × (row.held.capacity ≡ homed_at layout.homes e) × (row.shape.device < devices) × (length row.held.items ≤ row.held.capacity)

-- a pending URB's transfer is the one that was taken, as replies moved it since. They have not ended it, or the URB's mark stands.
-- No finish settled its status
pub record IsHeld (k : Knows) (shape : Shape) (h : Held) : Type 0 where
  pub start : Transfer
  pub sent : k.was_sent h.urb.0 start
  pub window : HasWindow start
  pub fits : shape_fault shape start ≡ None
  pub before : List Reply
  pub moved_so : h.transfer ≡ moved shape start before
  pub going : IsOpen shape start before ⊎ k.is_marked h.urb.0
  pub whole : IsWhole shape start before
  pub unfinished : k.is_finished h.urb.0 → ⊥

-- and no reply has ended it
abbrev pub IsOpenHeld : Knows → Shape → Held → Type 0
IsOpenHeld k shape h = (o : IsHeld k shape h) × IsOpen shape o.start o.before

-- where the first pending URB looked clean, no reply has ended its transfer
pub record CleanIsOpen (k : Knows) (row : EndRow) : Type 0 where
  pub open_so : (h : Held) (others : List Held) → row.clean ≡ true → row.held.items ≡ h ∷ others → IsOpenHeld k row.shape h

-- a pending URB's transfer is as it was taken, and nothing of it was moved
abbrev pub IsNew : Knows → Held → Type 0
IsNew k h = k.was_sent h.urb.0 h.transfer × (h.transfer.actual ≡ 0)

-- the pending URBs of an endpoint after the first
abbrev pub after_first : List Held → List Held
after_first [] = []
after_first (h ∷ others) = others

-- per endpoint in order, just the transfers of the side's pending URBs, of which only the first was moved
pub record Holds (k : Knows) (ends : List EndRow) : Type 0 where
  pub urbs : (e : ℕ) → e < length ends → urbs_in (held_at ends e) ≡ k.pending e
  pub each : (e : ℕ) (row : EndRow) → slice_get ends e ≡ Some row → All (IsHeld k row.shape) row.held.items
  pub fresh : (e : ℕ) (row : EndRow) → slice_get ends e ≡ Some row → All (IsNew k) (after_first row.held.items)

-- the side and the controller agree
pub record Agrees {D : Type 0} (k : Knows) (c : Controller D) : Type 0 where
  pub whole : k.is_whole
  pub layout : HasLayout k.layout (length c.devices.items) c.ends.items
  pub holds : Holds k c.ends.items

-- a side with what a controller keeps
pub record Serving (S D : Type 0) : Type 0 where
  pub side : S
  pub devices : List D
  pub ends : List EndRow

module _ {S D : Type 0} where
  abbrev pub serving : S → Controller D → Serving S D
  serving side c = record { side = side; devices = c.devices.items; ends = c.ends.items }

  abbrev pub with_side : S → Serving S D → Serving S D
  with_side side x = record x { side = side }

  abbrev pub with_end : ℕ → EndRow → Serving S D → Serving S D
  with_end e row x = record x { ends = slice_set x.ends e row }
