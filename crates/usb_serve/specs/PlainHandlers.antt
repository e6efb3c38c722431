-- The handlers' side over a machine with its transfers.
use Rattle.usb_types.specs.declared.errno.Errno.{Errno}
use Rattle.usb_types.specs.declared.errno.Code.TheVariants.{Zero, Fault}
use Rattle.std.specs.Prelude.{ℕ, ◌≡◌, ◌≢◌, ◌<◌, List, ◌∷◌, [], ◌++◌, slice_get, slice_set, Option, Some, None, ◌⊎◌}
use Rattle.usb_types.specs.declared.urb.UrbId.{UrbId}
use Rattle.usb_machine.specs.declared.entry.TheConstants.{SERVER}
use Rattle.usb_machine.specs.declared.entry.Entry.{Entry}
use Rattle.usb_machine.specs.declared.event.Event.TheVariants.{Rest, End}
use Rattle.usb_machine.specs.declared.event.Answer.TheVariants.{Nothing}
use Rattle.usb_machine.specs.declared.state.UrbState.{UrbState}
use Rattle.usb_machine.specs.declared.transfer.Transfer.{Transfer}
use Rattle.std.specs.Prelude.{Result, Ok, Err}
use Rattle.usb_types.specs.declared.errno.Code.{Code}
use Rattle.usb_machine.specs.declared.layout.Shape.{Shape}
use Rattle.usb_machine.specs.Shapes.{shape_fault}
use Rattle.usb_machine.specs.declared.host_answers.Refused.{Refused}
use Rattle.usb_machine.specs.State.{refusal}
use Rattle.usb_machine.specs.History.{Machine, state_of}
use Rattle.usb_machine.specs.Calls.{entry, plain_entry, submit_entries}
use Rattle.usb_serve.specs.declared.plain_side.Slots.{Slots}
use Rattle.usb_serve.specs.declared.plain_side.PlainSide.{PlainSide}
use Rattle.usb_serve.specs.declared.plain_side.PlainGiven.{PlainGiven}
use Rattle.usb_machine.specs.Tokens.{Told}
use Rattle.usb_serve.specs.Handlers.{Runs}
use Rattle.usb_serve.specs.Plain.{IsPlain, IsPlainAt}

abbrev pub handlers_in : Option UrbState → ℕ
handlers_in None = 0
handlers_in (Some s) = s.handlers

abbrev pub plain_runs : PlainSide → Runs
plain_runs s = record {
  is_whole = IsPlain s;
  handles = λ u. 0 < handlers_in (slice_get s.plain.states.items u);
  has_home = λ u. (e : ℕ) × (slice_get s.plain.homes.items u ≡ Some (Some e));
}

-- what a given URB tells
abbrev pub plain_told : PlainGiven → Told
plain_told given = record { urb = given.urb.0; code = given.code; transfer = given.transfer }

-- a transfer was left to rest
pub record PlainRests (old : PlainSide) (u : UrbId) (t : Transfer) (new : PlainSide) : Type 0 where
  pub entered : (g : Machine) (h : List Entry) → IsPlainAt old g h → IsPlainAt new g (h ++ entry SERVER (Rest u t.number) Nothing (Some t) ∷ [])
  pub row : Slots
  pub at : slice_get old.urbs.items u.0 ≡ Some row
  pub slots : new.urbs.items ≡ slice_set old.urbs.items u.0 (record row { rest = Some t })

-- a handler ended
pub record PlainEnds (old : PlainSide) (u : UrbId) (new : PlainSide) : Type 0 where
  pub entered : (g : Machine) (h : List Entry) → IsPlainAt old g h → IsPlainAt new g (h ++ plain_entry SERVER (End u) ∷ [])
  pub slots : new.urbs ≡ old.urbs

-- a transfer was submitted by pass p, and its URB linked where the gate took it
pub record Queued (old : PlainSide) (p : ℕ) (u : UrbId) (t : Transfer) (code : Code) (new : PlainSide) : Type 0 where
  pub entered : (g : Machine) (h : List Entry) → IsPlainAt old g h → IsPlainAt new g (h ++ submit_entries p u.0 t code)
  pub gate : (g : Machine) (h : List Entry) → IsPlainAt old g h → code ≡ refusal (state_of h u.0)
  pub others : (v : ℕ) → v ≢ u.0 → slice_get new.urbs.items v ≡ slice_get old.urbs.items v
  pub refused_so : (errno : Errno) → code ≡ Fault errno → new.urbs ≡ old.urbs

-- the endpoint of this URB does not take the transfer
abbrev pub HasFault : PlainSide → ℕ → Transfer → Errno → Type 0
HasFault s u t errno = (e : ℕ) (shape : Shape) → slice_get s.plain.homes.items u ≡ Some (Some e) → slice_get s.layout.now.shapes e ≡ Some shape → shape_fault shape t ≡ Some errno

-- what a submit by pass p did, by why it was refused
abbrev pub SubmitsAs : ℕ → PlainSide → UrbId → Transfer → Option Errno → PlainSide → Type 0
SubmitsAs p old u t None new = Queued old p u t Zero new
SubmitsAs p old u t (Some errno) new = ((new ≡ old) × HasFault old u.0 t errno) ⊎ Queued old p u t (Fault errno) new

abbrev pub PlainSubmits : PlainSide → UrbId → Transfer → Option Errno → PlainSide → Type 0
PlainSubmits old u t refused new = SubmitsAs SERVER old u t refused new

-- what the gate answered, by whether it refused
abbrev pub QueuedBy : ℕ → PlainSide → UrbId → Transfer → Result (Unit {0}) Refused → PlainSide → Type 0
QueuedBy p old u t (Ok done) new = Queued old p u t Zero new
QueuedBy p old u t (Err r) new = (r.transfer ≡ t) × Queued old p u t (Fault r.errno) new
