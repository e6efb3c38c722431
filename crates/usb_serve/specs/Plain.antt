-- The side over a machine with its transfers.
use Rattle.std.specs.Prelude.{ℕ, ◌≡◌, ◌<◌, ◌^◌, Bool, false, List, ◌∷◌, [], ◌++◌, length, slice_get, slice_set, Option, Some, None}
use Rattle.usb_types.specs.declared.urb.UrbId.{UrbId}
use Rattle.usb_types.specs.declared.urb.Why.{Why}
use Rattle.usb_types.specs.declared.errno.Code.{Code}
use Rattle.usb_machine.specs.declared.entry.TheConstants.{SERVER}
use Rattle.usb_machine.specs.declared.entry.Entry.{Entry}
use Rattle.usb_machine.specs.declared.event.Event.TheVariants.{Take, Finish, Give}
use Rattle.usb_types.specs.declared.errno.Code.TheVariants.{Zero}
use Rattle.usb_machine.specs.declared.event.Answer.{Answer}
use Rattle.usb_machine.specs.declared.event.Answer.TheVariants.{Urb, Truth, Code as Status}
use Rattle.usb_machine.specs.declared.state.UrbState.{UrbState}
use Rattle.usb_machine.specs.declared.state.Mark.{Mark as MarkState}
use Rattle.usb_machine.specs.declared.state.Mark.TheVariants.{Clear, Finished}
use Rattle.usb_machine.specs.declared.queues.Queues.{Queues}
use Rattle.usb_machine.specs.declared.transfer.Transfer.{Transfer}
use Rattle.usb_machine.specs.Shapes.{HasWindow, Accepts}
use Rattle.usb_machine.specs.State.{is_clear, why_of}
use Rattle.usb_machine.specs.History.{Machine, home_of, state_of, line_of, pending_of}
use Rattle.usb_machine.specs.Legal.{times}
use Rattle.usb_machine.specs.Calls.{entry}
use Rattle.usb_machine.specs.Plain.{Stands, urbs_of}
use Rattle.usb_machine.specs.declared.host_answers.Look.{Look}
use Rattle.usb_machine.specs.declared.host_answers.Look.TheVariants.{Clean, Marked}
use Rattle.usb_serve.specs.declared.plain_side.Slots.{Slots}
use Rattle.usb_serve.specs.declared.plain_side.PlainSide.{PlainSide}
use Rattle.usb_serve.specs.declared.plain_side.PlainGiven.{PlainGiven}
use Rattle.usb_serve.specs.Knows.{Knows}

abbrev pub mark_in : Option UrbState → MarkState
mark_in None = Clear
mark_in (Some s) = s.mark

abbrev pub pending_in : Option Queues → List ℕ
pending_in None = []
pending_in (Some q) = q.pending.items

abbrev pub number_in : Option Slots → ℕ
number_in None = 0
number_in (Some row) = row.number

abbrev pub mark_at : PlainSide → ℕ → MarkState
mark_at s u = mark_in (slice_get s.plain.states.items u)

abbrev pub answered_urb : Answer → UrbId
answered_urb (Urb u) = u
answered_urb _ = record { 0 = 0 }

abbrev pub answered_truth : Answer → Bool
answered_truth (Truth b) = b
answered_truth _ = false

abbrev pub answered_code : Answer → Code
answered_code (Status c) = c
answered_code _ = Zero

-- the transfer of an URB in a line is there, as it was submitted
pub record IsInLine (s : PlainSide) (g : Machine) (e u : ℕ) : Type 0 where
  pub row : Slots
  pub at : slice_get s.urbs.items u ≡ Some row
  pub transfer : Transfer
  pub line : row.line ≡ Some transfer
  pub number : row.number ≡ transfer.number
  pub window : HasWindow transfer
  pub unmoved : transfer.actual ≡ 0
  pub fits : Accepts (slice_get g.layout.shapes e) transfer

-- the machine is g after a history, each URB has its slots, the URBs in the lines have their transfers, and only a pending URB is
-- finished
pub record IsPlainAt (s : PlainSide) (g : Machine) (h : List Entry) : Type 0 where
  pub stands : Stands s.plain g h
  pub layout : g.layout ≡ s.layout.now
  pub passes : 0 < g.passes
  pub few : urbs_of s.plain < 2 ^ 31
  pub slots : length s.urbs.items ≡ urbs_of s.plain
  pub lines : (e u : ℕ) → 0 < times u (line_of g h e) → IsInLine s g e u
  pub finished : (u : ℕ) (code : Code) → (state_of h u).mark ≡ Finished code → 0 < times u (pending_of g h (home_of g u))

abbrev pub IsPlain : PlainSide → Type 0
IsPlain s = (g : Machine) × (h : List Entry) × IsPlainAt s g h

abbrev pub plain_knows : PlainSide → Knows
plain_knows s = record {
  layout = s.layout.now;
  is_whole = IsPlain s;
  may_give = (u : ℕ) (state : UrbState) → slice_get s.plain.states.items u ≡ Some state → state.handlers < 2 ^ 63;
  pending = λ e. pending_in (slice_get s.plain.ends.items e);
  was_sent = λ u t. number_in (slice_get s.urbs.items u) ≡ t.number;
  is_marked = λ u. is_clear (mark_at s u) ≡ false;
  is_settled = λ u. is_clear (mark_at s u) ≡ false;
  is_finished = λ u. (code : Code) × (mark_at s u ≡ Finished code);
}

-- a take: nothing where the line is empty, or the first of the line with its transfer
pub record TakesUrb (old : PlainSide) (ep : ℕ) (u : UrbId) (t : Transfer) (new : PlainSide) : Type 0 where
  pub entered : (g : Machine) (h : List Entry) → IsPlainAt old g h → IsPlainAt new g (h ++ entry SERVER (Take ep) (Urb u) None ∷ [])
  pub first : (g : Machine) (h : List Entry) → IsPlainAt old g h → (rest : List ℕ) × (line_of g h ep ≡ u.0 ∷ rest)
  pub row : Slots
  pub at : slice_get old.urbs.items u.0 ≡ Some row
  pub line : row.line ≡ Some t
  pub slots : new.urbs.items ≡ slice_set old.urbs.items u.0 (record row { line = None })

abbrev pub PlainTakes : PlainSide → ℕ → Option (UrbId × Transfer) → PlainSide → Type 0
PlainTakes old ep None new = (new ≡ old) × ((g : Machine) (h : List Entry) → IsPlainAt old g h → line_of g h ep ≡ [])
PlainTakes old ep (Some r) new = TakesUrb old ep r.0 r.1 new

abbrev pub look_by : Option Why → Look
look_by None = Clean
look_by (Some why) = Marked why

-- a look answers what the mark is
abbrev pub PlainLooks : PlainSide → UrbId → Look → PlainSide → Type 0
PlainLooks old u look new = (new ≡ old) × (look ≡ look_by (why_of (mark_at old u.0)))

-- a finish answers what the machine says
pub record PlainFinishes (old : PlainSide) (u : UrbId) (code : Code) (done : Bool) (new : PlainSide) : Type 0 where
  pub entered : (g : Machine) (h : List Entry) → IsPlainAt old g h → IsPlainAt new g (h ++ entry SERVER (Finish u code) (Truth done) None ∷ [])
  pub slots : new.urbs ≡ old.urbs

-- and so does a giveback
pub record PlainGives (old : PlainSide) (u : UrbId) (t : Transfer) (given : PlainGiven) (new : PlainSide) : Type 0 where
  pub entered : (g : Machine) (h : List Entry) → IsPlainAt old g h → IsPlainAt new g (h ++ entry SERVER (Give u) (Status given.code) None ∷ [])
  pub slots : new.urbs ≡ old.urbs
  pub urb : given.urb ≡ u
  pub transfer : given.transfer ≡ Some t
  pub window : HasWindow t
