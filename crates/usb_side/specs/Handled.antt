-- What a handler does to the server's entries.
use Rattle.std.specs.Prelude.{ℕ, ◌≡◌, if◌then◌else◌, List, [], ◌∷◌, ◌++◌, Option, Some, None, Result, Ok, Err}
use Rattle.usb_types.specs.declared.urb.UrbId.{UrbId}
use Rattle.usb_types.specs.declared.urb.Action.{Action}
use Rattle.usb_types.specs.declared.urb.Action.TheVariants as action
use Rattle.usb_types.specs.declared.errno.Code.{Code}
use Rattle.usb_types.specs.declared.errno.Code.TheVariants.{Zero, Fault}
use Rattle.usb_types.specs.declared.errno.Errno.{Errno}
use Rattle.usb_types.specs.declared.outside.Memory.{Memory}
use Rattle.usb_machine.specs.declared.entry.TheConstants.{SERVER}
use Rattle.usb_machine.specs.declared.entry.Entry.{Entry}
use Rattle.usb_machine.specs.declared.event.Event.TheVariants.{Rest, End}
use Rattle.usb_machine.specs.declared.event.Answer.TheVariants.{Nothing}
use Rattle.usb_machine.specs.declared.transfer.Transfer.{Transfer}
use Rattle.usb_machine.specs.State.{is_zero}
use Rattle.usb_machine.specs.History.{Machine}
use Rattle.usb_machine.specs.Calls.{entry, plain_entry, submit_entries}
use Rattle.usb_machine.specs.Fresh.{Known, Grown, Sound}
use Rattle.usb_machine.specs.HostCalls.{fault_at, shape_of}
use Rattle.usb_serve.specs.declared.handler.Outcome.{Outcome}
use Rattle.usb_serve.specs.declared.handler.Outcome.TheVariants as outcome
use Rattle.usb_serve.specs.Handlers.{windowed}
use Rattle.std.specs.Prelude.{Bool, true, length, ◌<◌}
use mathlib.Core.List.{IsPrefix}
use Rattle.usb_machine.specs.declared.event.Event.TheVariants.{Give}
use Rattle.usb_machine.specs.declared.event.Answer.TheVariants.{Code as Status}
use Rattle.usb_machine.specs.declared.layout.Shape.{Shape}
use Rattle.usb_machine.specs.History.{home_of, pending_of, sent_of}
use Rattle.usb_xfer.specs.Replies.{Reply}
use Rattle.usb_xfer.specs.declared.packet.Step.TheVariants.{Ended}
use Rattle.usb_xfer.specs.Moved.{moved, moved_state, IsWhole}
use Rattle.usb_side.specs.Round.{GaveNothing, GaveBack, of_givebacks, given_entries, is_first}

-- a submit, where the shape takes the transfer
abbrev pub submit_of : Option Errno → ℕ → Transfer → Code → List Entry
submit_of (Some errno) u t a = []
submit_of None u t a = submit_entries SERVER u t a

abbrev pub rest_entry : ℕ → Transfer → Entry
rest_entry u t = entry SERVER (Rest record { 0 = u } t.number) Nothing (Some t)

abbrev pub asked_entries : Machine → Option (UrbId × Transfer) → Code → List Entry
asked_entries g None a = []
asked_entries g (Some q) a = submit_of (fault_at (shape_of g q.0.0) q.1) q.0.0 q.1 a

-- the transfer rests, or is submitted again and rests where that is refused, or rests and a question is submitted
abbrev pub handled_by : Machine → ℕ → Transfer → Transfer → Option (UrbId × Transfer) → Outcome → List Entry
handled_by g u back again asking outcome.Rested = rest_entry u back ∷ []
handled_by g u back again asking (outcome.Again a) = submit_of (fault_at (shape_of g u) again) u again a ++ (if is_zero a then [] else rest_entry u again ∷ [])
handled_by g u back again asking (outcome.Asked a) = rest_entry u back ∷ asked_entries g asking a

-- an endpoint that does not take the transfer says why
abbrev pub IsFaultOf : Option Errno → Code → Type 0
IsFaultOf None a = Unit {0}
IsFaultOf (Some errno) a = a ≡ Fault errno

-- and so it answers the transfer that is submitted again, and the question
abbrev pub SaysFaults : Machine → ℕ → Transfer → Option (UrbId × Transfer) → Outcome → Type 0
SaysFaults g u again asking (outcome.Again a) = IsFaultOf (fault_at (shape_of g u) again) a
SaysFaults g u again (Some q) (outcome.Asked a) = IsFaultOf (fault_at (shape_of g q.0.0) q.1) a
SaysFaults g u again asking o = Unit {0}

-- what the handler did with an URB that came back with this code and transfer: the question that it asked, the transfer that was
-- submitted again, what it came to, and the handler then. The transfer rests or goes again, or it rests and the question is asked,
-- and taken back where that is refused
pub data Handles {K : Type 0} (completes : K → UrbId → Code → Transfer → Result Action Memory → K → Type 0) (asks : K → Option (UrbId × Transfer) → K → Type 0) (unasks : K → Transfer → K → Type 0) (old : K) (u : UrbId) (code : Code) (t : Transfer) : Option (UrbId × Transfer) → Transfer → Outcome → K → Type 0 where
  rested : (new : K) → completes old u code t (Ok action.Rest) new → Handles completes asks unasks old u code t None t outcome.Rested new
  again : (from len : ℕ) (a : Code) (new : K) → completes old u code t (Ok (action.Again from len)) new → Handles completes asks unasks old u code t None (windowed from len t) (outcome.Again a) new
  silent : (mid new : K) → completes old u code t (Ok action.Ask) mid → asks mid None new → Handles completes asks unasks old u code t None t outcome.Rested new
  asked : (mid new : K) (v : UrbId) (q : Transfer) → completes old u code t (Ok action.Ask) mid → asks mid (Some (v, q)) new → Handles completes asks unasks old u code t (Some (v, q)) t (outcome.Asked Zero) new
  refused : (mid asking new : K) (v : UrbId) (q : Transfer) (errno : Errno) → completes old u code t (Ok action.Ask) mid → asks mid (Some (v, q)) asking → unasks asking q new
      → Handles completes asks unasks old u code t (Some (v, q)) t (outcome.Asked (Fault errno)) new

-- the handler of URB u was told this code and transfer, came to this outcome, and is then as it is
pub record Handled {K : Type 0} (g : Machine) (completes : K → UrbId → Code → Transfer → Result Action Memory → K → Type 0) (asks : K → Option (UrbId × Transfer) → K → Type 0) (unasks : K → Transfer → K → Type 0) (p q : Known) (u : UrbId) (code : Code) (t : Transfer) (h : K) (o : Outcome) (new : K) : Type 0 where
  pub again : Transfer
  pub asking : Option (UrbId × Transfer)
  pub handles : Handles completes asks unasks h u code t asking again o new
  pub faults : SaysFaults g u.0 again asking o
  pub grown : Grown p q (handled_by g u.0 t again asking o ++ plain_entry SERVER (End u) ∷ [])
  pub sound : Sound g q

-- the handler lacked memory: the transfer rests and the handler ends
pub record Lacked {K : Type 0} (g : Machine) (completes : K → UrbId → Code → Transfer → Result Action Memory → K → Type 0) (p q : Known) (u : UrbId) (code : Code) (t : Transfer) (h : K) (m : Memory) (new : K) : Type 0 where
  pub completed : completes h u code t (Err m) new
  pub grown : Grown p q (rest_entry u.0 t ∷ plain_entry SERVER (End u) ∷ [])
  pub sound : Sound g q

-- what completing a giveback comes to, and the handler then
abbrev pub Came : {K : Type 0} → Machine → (K → UrbId → Code → Transfer → Result Action Memory → K → Type 0) → (K → Option (UrbId × Transfer) → K → Type 0) → (K → Transfer → K → Type 0) → Known → Known → UrbId → Code → Transfer → K → Result Outcome Memory → K → Type 0
Came g completes asks unasks p q u code t h (Ok o) new = Handled g completes asks unasks p q u code t h o new
Came g completes asks unasks p q u code t h (Err m) new = Lacked g completes p q u code t h m new

-- one URB was given back and handled: what stands before it and after it, the transfer that was sent, and how replies moved it
pub record Gave {K : Type 0} (g : Machine) (completes : K → UrbId → Code → Transfer → Result Action Memory → K → Type 0) (asks : K → Option (UrbId × Transfer) → K → Type 0) (unasks : K → Transfer → K → Type 0) (p q : Known) (u : UrbId) (status : Code) (h : K) (o : Outcome) (new : K) : Type 0 where
  pub finished : Bool
  pub shape : Shape
  pub sent : Transfer
  pub replies : List Reply
  pub again : Transfer
  pub asking : Option (UrbId × Transfer)
  pub more : List Entry
  pub grown : Grown p q more
  pub sound : Sound g q
  pub entries : of_givebacks more ≡ given_entries u.0 status finished ++ (handled_by g u.0 (moved shape sent replies) again asking o ++ plain_entry SERVER (End u) ∷ [])
  pub before : List Entry
  pub behind : List Entry
  pub late : IsPrefix p.seen before
  pub split : q.seen ≡ before ++ entry SERVER (Give u) (Status status) None ∷ behind
  pub was_sent : sent_of before u.0 ≡ Some sent
  pub first : 0 < length replies → is_first u.0 (pending_of g before (home_of g u.0)) ≡ true
  pub state : finished ≡ true → moved_state shape sent replies ≡ Ended status
  pub whole : IsWhole shape sent replies
  pub handles : Handles completes asks unasks h u status (moved shape sent replies) asking again o new
  pub faults : SaysFaults g u.0 again asking o

-- a turn gave nothing back, and the handler is as it was. Or it gave one URB back, which was handled where there was memory
abbrev pub Stepped : {K : Type 0} → Machine → (K → UrbId → Code → Transfer → Result Action Memory → K → Type 0) → (K → Option (UrbId × Transfer) → K → Type 0) → (K → Transfer → K → Type 0) → Known → Known → K → Option (Result Outcome Memory) → K → Type 0
Stepped g completes asks unasks p q h None new = GaveNothing g p q × (new ≡ h)
Stepped g completes asks unasks p q h (Some r) new =
    (u : UrbId) × (status : Code) × (t : Transfer) × (middle : Known) × GaveBack g p middle u.0 status (Some t) × Came g completes asks unasks middle q u status t h r new × ((o : Outcome) → r ≡ Ok o → Gave g completes asks unasks p q u status h o new)
