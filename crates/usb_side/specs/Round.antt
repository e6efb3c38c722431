-- What a turn of the controller does to the server's entries.
use Rattle.std.specs.Prelude.{ℕ, ◌≡◌, ◌<◌, Bool, true, false, not, ◌==◌, filter, if◌then◌else◌, List, [], ◌∷◌, ◌++◌, length, slice_get, Option, Some, None}
use mathlib.Core.List.{IsPrefix}
use Rattle.usb_types.specs.declared.errno.Code.{Code}
use Rattle.usb_machine.specs.declared.entry.TheConstants.{SERVER}
use Rattle.usb_machine.specs.declared.entry.Entry.{Entry}
use Rattle.usb_machine.specs.declared.event.Event.{Event}
use Rattle.usb_machine.specs.declared.event.Event.TheVariants.{Take, Finish, Give}
use Rattle.usb_machine.specs.declared.event.Answer.{Answer}
use Rattle.usb_machine.specs.declared.event.Answer.TheVariants.{Truth, Code as Status}
use Rattle.usb_machine.specs.declared.layout.Shape.{Shape}
use Rattle.usb_machine.specs.declared.transfer.Transfer.{Transfer}
use Rattle.usb_machine.specs.Shapes.{HasWindow}
use Rattle.usb_machine.specs.State.{finishes}
use Rattle.usb_machine.specs.History.{Machine, home_of, pending_of, sent_of}
use Rattle.usb_machine.specs.Calls.{entry}
use Rattle.usb_xfer.specs.Replies.{Reply}
use Rattle.usb_xfer.specs.declared.packet.Step.TheVariants.{Ended}
use Rattle.usb_xfer.specs.Moved.{moved, moved_state, IsWhole}
use Rattle.usb_machine.specs.Fresh.{Known, Grown, Sound}
use Rattle.usb_machine.specs.Tokens.{Told}

-- whether an entry belongs to no giveback: a Take, or a Finish that found a mark
abbrev pub is_aside : Event → Answer → Bool
is_aside (Take e) a = true
is_aside (Finish u c) a = not (finishes a)
is_aside _ a = false

abbrev pub of_givebacks : List Entry → List Entry
of_givebacks m = filter (λ x. not (is_aside x.event x.answer)) m

abbrev pub is_first : ℕ → List ℕ → Bool
is_first u [] = false
is_first u (v ∷ vs) = v == u

-- the server finishes the URB where no mark stood, and gives it back
abbrev pub given_entries : ℕ → Code → Bool → List Entry
given_entries u status finished =
    (if finished then entry SERVER (Finish record { 0 = u } status) (Truth true) None ∷ [] else [])
    ++ entry SERVER (Give record { 0 = u }) (Status status) None ∷ []

-- the server looked about, and gave nothing back
pub record GaveNothing (g : Machine) (p q : Known) : Type 0 where
  pub more : List Entry
  pub grown : Grown p q more
  pub sound : Sound g q
  pub aside : of_givebacks more ≡ []

-- it gave one URB back: its status, whether its transfer's result is the status, the shape of its home, the transfer that was
-- sent, and the replies that moved it. Only the first pending one has replies
pub record GaveBack (g : Machine) (p q : Known) (u : ℕ) (status : Code) (t : Option Transfer) : Type 0 where
  pub finished : Bool
  pub shape : Shape
  pub sent : Transfer
  pub replies : List Reply
  pub more : List Entry
  pub grown : Grown p q more
  pub sound : Sound g q
  pub entries : of_givebacks more ≡ given_entries u status finished
  pub before : List Entry
  pub late : IsPrefix p.seen before
  pub split : q.seen ≡ before ++ entry SERVER (Give record { 0 = u }) (Status status) None ∷ []
  pub at : slice_get g.layout.shapes (home_of g u) ≡ Some shape
  pub was_sent : sent_of before u ≡ Some sent
  pub back : t ≡ Some (moved shape sent replies)
  pub window : HasWindow sent
  pub first : 0 < length replies → is_first u (pending_of g before (home_of g u)) ≡ true
  pub state : finished ≡ true → moved_state shape sent replies ≡ Ended status
  pub whole : IsWhole shape sent replies

-- a turn gave nothing back, or one URB, of which this is told
abbrev pub TurnGave : Machine → Known → Known → Option Told → Type 0
TurnGave g p q None = GaveNothing g p q
TurnGave g p q (Some t) = GaveBack g p q t.urb t.code t.transfer
