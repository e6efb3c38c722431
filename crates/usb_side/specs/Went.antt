-- What a turn of the controller does to devices and to the replies so far.
use Rattle.std.specs.Prelude.{ℕ, ◌≡◌, ◌<◌, false, List, [], ◌++◌, length, slice_get, slice_set, Option, Some, None}
use Rattle.usb_types.specs.declared.urb.UrbId.{UrbId}
use Rattle.usb_machine.specs.declared.entry.Entry.{Entry}
use Rattle.usb_machine.specs.declared.layout.Shape.{Shape}
use Rattle.usb_machine.specs.declared.transfer.Transfer.{Transfer}
use Rattle.usb_machine.specs.Shapes.{HasWindow, shape_fault}
use Rattle.usb_machine.specs.History.{Machine, home_of, sent_of}
use Rattle.usb_machine.specs.Fresh.{Known, Begins}
use Rattle.usb_machine.specs.Tokens.{Told, first_of}
use Rattle.usb_xfer.specs.Replies.{Question, Reply}
use Rattle.usb_xfer.specs.Moved.{moved}
use Rattle.usb_xfer.specs.On.{Gave}
use Rattle.usb_serve.specs.declared.controller.EndRow.{EndRow}
use Rattle.usb_serve.specs.Held.{held_at, urbs_in}
use Rattle.usb_serve.specs.SoFar.{with_replies}
use Rattle.usb_side.specs.Round.{GaveNothing, GaveBack}

-- some transfer, where none was sent
abbrev pub no_transfer : Transfer
no_transfer = record { setup = None; buf = []; from = 0; len = 0; short_not_ok = false; actual = 0; number = 0 }

abbrev pub or_none : Option Transfer → Transfer
or_none None = no_transfer
or_none (Some t) = t

-- the transfer that was sent with this URB, if there is one
abbrev pub sent_with : List Entry → Option UrbId → Transfer
sent_with seen None = no_transfer
sent_with seen (Some u) = or_none (sent_of seen u.0)

-- the transfer that was sent with the URB that is first at endpoint e, where one is
abbrev pub first_sent : List Entry → List EndRow → ℕ → Transfer
first_sent seen ends e = sent_with seen (first_of (urbs_in (held_at ends e)))

-- a device gave these replies to the first pending transfer of endpoint e, of which `start` says how it was sent, and which the
-- replies so far had moved
pub record Replied {D : Type 0} (replies : D → ℕ → Question → Reply → D → Type 0) (g : Machine) (seen : List Entry) (start : ℕ → Transfer) (devices after : List D) (so : ℕ → List Reply) (e : ℕ) (more : List Reply) : Type 0 where
  pub shape : Shape
  pub at : slice_get g.layout.shapes e ≡ Some shape
  pub urb : ℕ
  pub home : home_of g urb ≡ e
  pub sent : sent_of seen urb ≡ Some (start e)
  pub window : HasWindow (start e)
  pub fits : shape_fault shape (start e) ≡ None
  pub before : Transfer
  pub moved_so : before ≡ moved shape (start e) (so e)
  pub device : D
  pub there : slice_get devices shape.device ≡ Some device
  pub now : Transfer
  pub then_is : D
  pub gave : Gave replies shape before device more now then_is
  pub devices_so : after ≡ slice_set devices shape.device then_is

-- the first pending transfers went on, at one endpoint after another: what the devices are, and the replies so far
pub data Went {D : Type 0} (replies : D → ℕ → Question → Reply → D → Type 0) (g : Machine) (seen : List Entry) (start : ℕ → Transfer) (devices : List D) (so : ℕ → List Reply) : List D → (ℕ → List Reply) → Type 0 where
  none : Went replies g seen start devices so devices so
  more : (m n : List D) (mid : ℕ → List Reply) (e : ℕ) (rs : List Reply) → Went replies g seen start devices so m mid → Replied replies g seen start m n mid e rs
      → Went replies g seen start devices so n (with_replies e (mid e ++ rs) mid)

-- the URB that came back at endpoint e was the first there: the replies so far moved its transfer, and then there are none. Or it
-- stood behind the first, and no reply moved its transfer
pub data Stood (start : ℕ → Transfer) (mid now : ℕ → List Reply) (e : ℕ) (sent : Transfer) (replies : List Reply) : Type 0 where
  first : sent ≡ start e → replies ≡ mid e → ((d : ℕ) → now d ≡ with_replies e [] mid d) → Stood start mid now e sent replies
  behind : replies ≡ [] → ((d : ℕ) → now d ≡ mid d) → Stood start mid now e sent replies

-- what a turn gave back, by what is told of it, and what that leaves of the replies so far
abbrev pub TurnLeft : Machine → Known → Known → (ℕ → Transfer) → (ℕ → List Reply) → (ℕ → List Reply) → Option Told → Type 0
TurnLeft g p q start mid now None = GaveNothing g p q × ((e : ℕ) → now e ≡ mid e)
TurnLeft g p q start mid now (Some t) = (b : GaveBack g p q t.urb t.code t.transfer) × Stood start mid now (home_of g t.urb) b.sent b.replies

-- what a turn did to devices and to the replies so far, and what it gave back. The first transfers are those that were sent when
-- it moved them; of one to which there are replies, before the turn or after it, that is what was sent then
pub record TurnWent {D : Type 0} (replies : D → ℕ → Question → Reply → D → Type 0) (g : Machine) (p q : Known) (old new : List EndRow) (before after : List D) (so : ℕ → List Reply) (still : (ℕ → List Reply) → Type 0) (given : Option Told) : Type 0 where
  pub seen : List Entry
  pub early : Begins seen p.seen
  pub late : Begins q.seen seen
  pub start : ℕ → Transfer
  pub starts : (e : ℕ) → 0 < length (so e) → start e ≡ first_sent p.seen old e
  pub mid : ℕ → List Reply
  pub went : Went replies g seen start before so after mid
  pub now : ℕ → List Reply
  pub so_far : still now
  pub ends : (e : ℕ) → 0 < length (now e) → first_sent q.seen new e ≡ start e
  pub left : TurnLeft g p q start mid now given
