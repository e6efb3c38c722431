-- What the calls of a host answer, and what their answers say.
use Rattle.std.specs.Prelude.{◌≡◌, ℕ, ◌<◌, cond, ◌==◌, List, [], ◌∷◌, ◌++◌, fold, length, Option, Some, None, Result, Ok, Err, slice_get, false, true}
use Rattle.usb_types.specs.declared.errno.Errno.{Errno}
use Rattle.usb_types.specs.declared.errno.Code.{Code}
use Rattle.usb_types.specs.declared.errno.Code.TheVariants.{Zero, Fault}
use Rattle.usb_types.specs.declared.urb.UrbId.{UrbId}
use Rattle.usb_machine.specs.declared.event.Event.{Event}
use Rattle.usb_machine.specs.declared.event.Event.TheVariants.{Take, Rest, Claim}
use Rattle.usb_machine.specs.declared.event.Answer.TheVariants.{Urb, Number}
use Rattle.usb_machine.specs.declared.transfer.Transfer.{Transfer}
use Rattle.usb_machine.specs.declared.entry.Entry.{Entry}
use Rattle.usb_machine.specs.declared.layout.Shape.{Shape}
use Rattle.usb_machine.specs.declared.state.Mark.{Mark as MarkState}
use Rattle.usb_machine.specs.declared.state.Mark.TheVariants.{Unlinked}
use Rattle.usb_machine.specs.State.{is_clear}
use Rattle.usb_machine.specs.Shapes.{shape_fault}
use Rattle.usb_machine.specs.History.{Machine, home_of, sent_of}
use Rattle.usb_machine.specs.Calls.{entry, submit_entries}
use Rattle.usb_machine.specs.declared.host_answers.Refused.{Refused}
use Rattle.usb_machine.specs.declared.host_answers.Look.{Look}
use Rattle.usb_machine.specs.declared.host_answers.Look.TheVariants.{Clean, Marked, MarkedSoon}
use Rattle.usb_machine.specs.Fresh.{Known, Fresh, Looked}

-- the URB is one of the machine's
abbrev pub IsUrb : Machine → ℕ → Type 0
IsUrb g u = u < length g.layout.homes

-- the transfer that rests with u after one event more
abbrev pub rested_after : ℕ → Option Transfer → Event → Option Transfer → Option Transfer
rested_after u t (Rest v n) c = cond (v.0 == u) c t
rested_after u t (Claim v) c = cond (v.0 == u) None t
rested_after u t _ c = t

-- what rests with u after a history
abbrev pub rested_of : List Entry → ℕ → Option Transfer
rested_of h u = fold (λ t x. rested_after u t x.event x.carried) None h

-- the number of a transfer, if there is one
abbrev pub number_of : Option Transfer → Option ℕ
number_of None = None
number_of (Some t) = Some t.number

-- before its last entry this rested with u in the history
abbrev pub RestedBeforeLast : List Entry → ℕ → Option Transfer → Type 0
RestedBeforeLast history u t = (before : List Entry) (last : Entry) → history ≡ before ++ last ∷ [] → t ≡ rested_of before u

-- pass p has claimed this of u: it rested with u before an entry of the history that is the pass's Claim
pub record HasClaimed (history : List Entry) (p u : ℕ) (t : Option Transfer) : Type 0 where
  pub before : List Entry
  pub behind : List Entry
  pub parts : history ≡ (before ++ entry p (Claim record { 0 = u }) (Number (number_of t)) None ∷ []) ++ behind
  pub rested : t ≡ rested_of before u

-- the code of a submit: 0, or the errno of the refusal
abbrev pub answer_of_submit : {A : Type 0} → Result A Refused → Code
answer_of_submit (Ok a) = Zero
answer_of_submit (Err r) = Fault r.errno

-- a refused transfer comes back as it was
abbrev pub HandsBack : {A : Type 0} → Transfer → Result A Refused → Type 0
HandsBack t (Ok a) = Unit {0}
HandsBack t (Err r) = r.transfer ≡ t

-- the submit was refused with this errno
abbrev pub IsRefused : {A : Type 0} → Errno → Result A Refused → Type 0
IsRefused errno (Ok a) = ⊥
IsRefused errno (Err r) = r.errno ≡ errno

-- the shape of an URB's home
abbrev pub shape_of : Machine → ℕ → Option Shape
shape_of g u = slice_get g.layout.shapes (home_of g u)

-- why the endpoint of this shape does not take the transfer, if it does not
abbrev pub fault_at : Option Shape → Transfer → Option Errno
fault_at None t = None
fault_at (Some shape) t = shape_fault shape t

-- a shape's fault refuses the transfer without an event; else the answer is that of the call's Submit
abbrev pub Submitted : {A : Type 0} → Machine → Known → Known → ℕ → Transfer → Option Errno → Result A Refused → Type 0
Submitted g p q u t (Some errno) r = IsRefused errno r × Looked g p q
Submitted g p q u t None r = Fresh g p q (submit_entries p.number u t (answer_of_submit r))

-- what a Take answered, with the transfer that was sent; or nothing, for a cause
abbrev pub Took : Machine → Known → Known → ℕ → Option (UrbId × Transfer) → Type 0 → Type 0
Took g p q e None cause = Looked g p q × cause
Took g p q e (Some r) cause = Fresh g p q (entry p.number (Take e) (Urb r.0) None ∷ []) × (sent_of q.seen r.0.0 ≡ Some r.1)

-- what a look says of the mark: none stands, this one stands, or one stands whose reason cannot be read for a cause
abbrev pub Finds : MarkState → Look → Type 0 → Type 0
Finds m Clean soon = is_clear m ≡ true
Finds m (Marked why) soon = m ≡ Unlinked why
Finds m MarkedSoon soon = (is_clear m ≡ false) × soon

-- where a look told the mark, this holds
abbrev pub IfMarked : Look → Type 0 → Type 0
IfMarked (Marked why) then_so = then_so
IfMarked _ then_so = Unit {0}
