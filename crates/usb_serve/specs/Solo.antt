-- A host for one caller: a machine with its transfers, its controller and a handler.
use Rattle.std.specs.Prelude.{ℕ, ◌≡◌, ◌⊎◌, ◌≢◌, ◌<◌, ◌≤◌, map, true, false, List, [], ◌∷◌, ◌++◌, Bool, slice_get, Option, Some, None, Result, Ok, Err, Contains}
use Rattle.usb_types.specs.declared.urb.UrbId.{UrbId}
use Rattle.usb_types.specs.declared.urb.Action.{Action}
use Rattle.usb_types.specs.declared.errno.Code.{Code}
use Rattle.usb_types.specs.declared.outside.Memory.{Memory}
use Rattle.usb_machine.specs.declared.entry.Entry.{Entry}
use Rattle.usb_machine.specs.declared.transfer.Transfer.{Transfer}
use Rattle.usb_machine.specs.declared.state.UrbState.{UrbState}
use Rattle.usb_machine.specs.History.{Machine, state_of}
use Rattle.usb_xfer.specs.Replies.{Question, Reply}
use Rattle.usb_serve.specs.declared.plain_side.PlainSide.{PlainSide}
use Rattle.usb_serve.specs.declared.plain_side.PlainGiven.{PlainGiven}
use Rattle.usb_serve.specs.declared.handler.Outcome.{Outcome}
use Rattle.usb_serve.specs.declared.solo.Solo.{Solo}
use Rattle.usb_types.specs.declared.urb.Why.TheVariants.{Kill}
use Rattle.usb_machine.specs.declared.entry.TheConstants.{SERVER}
use Rattle.usb_machine.specs.declared.event.Event.TheVariants.{Reject}
use Rattle.usb_machine.specs.declared.event.Answer.{Answer}
use Rattle.usb_machine.specs.declared.event.Answer.TheVariants.{Number}
use Rattle.usb_types.specs.declared.errno.Errno.{Errno}
use Rattle.usb_types.specs.declared.errno.Code.TheVariants.{Zero, Fault}
use Rattle.usb_machine.specs.Calls.{submit_entries, plain_entry, mark_entry, claim_entries, unblock_entries}
use Rattle.usb_machine.specs.Parts.{part_of, held_of, owes}
use Rattle.usb_machine.specs.State.{unlinking}
use Rattle.usb_serve.specs.declared.solo.Stopped.{Stopped}
use Rattle.usb_serve.specs.declared.solo.Stopped.TheVariants.{Claimed, Left}
use Rattle.usb_serve.specs.declared.solo.Waited.{Waited}
use Rattle.usb_serve.specs.declared.solo.Waited.TheVariants.{Quiet, Idle, Busy}
use Rattle.usb_serve.specs.Held.{Agrees, Serving, serving, awake}
use Rattle.usb_serve.specs.Plain.{IsPlainAt, plain_knows, PlainTakes, PlainLooks, PlainFinishes, PlainGives}
use Rattle.usb_serve.specs.PlainHandlers.{PlainRests, PlainSubmits, PlainEnds}
use Rattle.usb_serve.specs.Turn.{Turned}
use Rattle.usb_serve.specs.Completing.{Completes}
use Rattle.usb_serve.specs.Growing.{TurnAdds, Rounds}

-- the host is the machine g after a history, its controller agrees, no handler runs, no pass owes a Link, and the URBs that the
-- handler may ask with have a home
pub record IsSoloAt {D H : Type 0} (asks_with : H → List ℕ) (s : Solo D H) (g : Machine) (h : List Entry) : Type 0 where
  pub at : IsPlainAt s.side g h
  pub agrees : Agrees (plain_knows s.side) s.controller
  pub calm : (u : ℕ) → (state_of h u).handlers ≡ 0
  pub linked : (p u : ℕ) → owes (part_of h p) u ≡ false
  pub homes : (u : ℕ) → Contains (asks_with s.handler) u → (e : ℕ) × (slice_get g.layout.homes u ≡ Some (Some e))

abbrev pub IsSolo : {D H : Type 0} → (H → List ℕ) → Solo D H → Type 0
IsSolo asks_with s = (g : Machine) × (h : List Entry) × IsSoloAt asks_with s g h

-- a turn gave an URB back, and its handler was completed
pub record GivesBack {D H : Type 0} (replies : D → ℕ → Question → Reply → D → Type 0) (items_used : D → ℕ) (completes : H → UrbId → Code → Transfer → Result Action Memory → H → Type 0) (asks : H → Option (UrbId × Transfer) → H → Type 0) (unasks : H → Transfer → H → Type 0)
    (s t : Solo D H) : Type 0 where
  pub given : PlainGiven
  pub changed : Bool
  pub middle : Serving PlainSide D
  pub turned : Turned plain_knows PlainTakes PlainLooks PlainFinishes PlainGives replies items_used (serving s.side s.controller) (Some given) changed middle
  pub transfer : Transfer
  pub has : given.transfer ≡ Some transfer
  pub outcome_is : Result Outcome Memory
  pub completed : Completes PlainRests PlainSubmits PlainEnds completes asks unasks given.urb given.code transfer middle.side s.handler outcome_is t.side t.handler
  pub devices : t.controller.devices.items ≡ middle.devices
  pub ends : t.controller.ends.items ≡ middle.ends

-- all endpoints were woken
pub record Wakes {D H : Type 0} (s t : Solo D H) : Type 0 where
  pub side : t.side ≡ s.side
  pub devices : t.controller.devices ≡ s.controller.devices
  pub ends : t.controller.ends.items ≡ map awake s.controller.ends.items
  pub handler : t.handler ≡ s.handler

-- a number that falls with each URB that is given back, and that no wake raises: so only so many can be
pub record Falls {D H : Type 0} (replies : D → ℕ → Question → Reply → D → Type 0) (items_used : D → ℕ) (completes : H → UrbId → Code → Transfer → Result Action Memory → H → Type 0) (asks : H → Option (UrbId × Transfer) → H → Type 0) (unasks : H → Transfer → H → Type 0)
    (asks_with : H → List ℕ) : Type 0 where
  pub left : Solo D H → ℕ
  pub falls : (s t : Solo D H) → IsSolo asks_with s → GivesBack replies items_used completes asks unasks s t → left t < left s
  pub woken : (s t : Solo D H) → Wakes s t → left t ≤ left s

abbrev pub StepsBy : {D H : Type 0} → (D → ℕ → Question → Reply → D → Type 0) → (D → ℕ) → (H → UrbId → Code → Transfer → Result Action Memory → H → Type 0) → (H → Option (UrbId × Transfer) → H → Type 0) → (H → Transfer → H → Type 0)
    → Solo D H → Result Bool Memory → Solo D H → Type 0
StepsBy replies items_used completes asks unasks s (Ok true) t = GivesBack replies items_used completes asks unasks s t
StepsBy replies items_used completes asks unasks s (Ok false) t = Unit {0}
StepsBy replies items_used completes asks unasks s (Err m) t = Unit {0}

-- rounds, and a last turn that gave nothing back
pub record Served (g : Machine) (h es : List Entry) : Type 0 where
  pub before : List Entry
  pub rounds : Rounds g h before
  pub last : List Entry
  pub turned : TurnAdds g (h ++ before) None last
  pub is : es ≡ before ++ last

abbrev pub ServesBy : Machine → List Entry → Result Bool Memory → List Entry → Type 0
ServesBy g h (Ok true) es = Served g h es
ServesBy g h (Ok false) es = Rounds g h es
ServesBy g h (Err m) es = Rounds g h es

abbrev pub IsQuiet : UrbState → Type 0
IsQuiet s = (s.queued ≡ false) × (s.handlers ≡ 0)

-- what a wait adds, by how it ended
abbrev pub WaitsBy : Machine → List Entry → ℕ → Result Waited Memory → List Entry → Type 0
WaitsBy g h u (Ok Quiet) es = Rounds g h es × IsQuiet (state_of (h ++ es) u)
WaitsBy g h u (Ok Idle) es = Served g h es × (IsQuiet (state_of (h ++ es) u) → ⊥)
WaitsBy g h u (Ok Busy) es = Rounds g h es
WaitsBy g h u (Err m) es = Rounds g h es

-- the pass is a caller's, and has room for one more reject of the URB
pub record MayStop (g : Machine) (h : List Entry) (p u : ℕ) : Type 0 where
  pub pass : p < g.passes
  pub caller : p ≢ SERVER
  pub room : (held_of (part_of h p) u).rejects < 255

abbrev pub CanStop : {D H : Type 0} → (H → List ℕ) → Solo D H → ℕ → ℕ → Type 0
CanStop asks_with s p u = (g : Machine) × (h : List Entry) × IsSoloAt asks_with s g h × MayStop g h p u

-- the URB is rejected and unlinked
abbrev pub stop_entries : ℕ → ℕ → Code → List Entry
stop_entries p u a = plain_entry p (Reject record { 0 = u }) ∷ mark_entry p Kill u a ∷ []

-- a poison: the URB is rejected and unlinked, rounds are made until it is quiet, and what rests with it is claimed
pub record Poisoned (g : Machine) (h : List Entry) (p u : ℕ) (rest : Option ℕ) (es : List Entry) : Type 0 where
  pub code : Code
  pub answers : code ≡ unlinking (state_of h u)
  pub waited : List Entry
  pub rounds : Rounds g (h ++ stop_entries p u code) waited
  pub quiet : IsQuiet (state_of ((h ++ stop_entries p u code) ++ waited) u)
  pub rests : rest ≡ (state_of ((h ++ stop_entries p u code) ++ waited) u).rest
  pub is : es ≡ stop_entries p u code ++ (waited ++ claim_entries p u rest)

-- one that found no quiet
pub record Waits (g : Machine) (h : List Entry) (p u : ℕ) (came : Result Waited Memory) (es : List Entry) : Type 0 where
  pub code : Code
  pub answers : code ≡ unlinking (state_of h u)
  pub waited : List Entry
  pub adds : WaitsBy g (h ++ stop_entries p u code) u came waited
  pub is : es ≡ stop_entries p u code ++ waited

abbrev pub PoisonsBy : Machine → List Entry → ℕ → ℕ → Result Stopped Memory → List Entry → Type 0
PoisonsBy g h p u (Ok (Claimed rest)) es = Poisoned g h p u rest es
PoisonsBy g h p u (Ok (Left w)) es = Waits g h p u (Ok w) es
PoisonsBy g h p u (Err m) es = Waits g h p u (Err m) es

-- a kill is a poison whose reject is withdrawn
abbrev pub KillsBy : Machine → List Entry → ℕ → ℕ → Result Stopped Memory → List Entry → Type 0
KillsBy g h p u (Ok (Claimed rest)) es = (most : List Entry) × Poisoned g h p u rest most × (es ≡ most ++ unblock_entries p u)
KillsBy g h p u (Ok (Left w)) es = Waits g h p u (Ok w) es
KillsBy g h p u (Err m) es = Waits g h p u (Err m) es

abbrev pub answered_number : Answer → Option ℕ
answered_number (Number n) = n
answered_number _ = None

-- what a submit by pass p adds, by why it was refused: nothing where the endpoint does not take the transfer
abbrev pub SubmitsBy : ℕ → UrbId → Transfer → Option Errno → List Entry → Type 0
SubmitsBy p u t None es = es ≡ submit_entries p u.0 t Zero
SubmitsBy p u t (Some errno) es = (es ≡ []) ⊎ (es ≡ submit_entries p u.0 t (Fault errno))
