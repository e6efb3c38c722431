-- What a giveback needs of the run, and what it does to the run's object.
use Rattle.std.specs.Prelude.{ℕ, ◌≡◌, ◌≢◌, ◌-◌, ◌<◌, Bool, true, false, if◌then◌else◌, nat_lt, List, [], ◌∷◌, ◌++◌, length, slice_get, slice_set, Option, Some, None, option_and_then}
use Rattle.usb_types.specs.declared.errno.Code.{Code}
use Rattle.usb_types.specs.declared.errno.Code.TheVariants.{Zero}
use Rattle.usb_machine.specs.declared.state.Mark.TheVariants.{Clear}
use Rattle.usb_machine.specs.declared.entry.TheConstants.{SERVER}
use Rattle.usb_machine.specs.declared.event.Event.TheVariants.{Finish}
use Rattle.usb_machine.specs.declared.event.Answer.TheVariants.{Truth}
use Rattle.usb_machine.specs.Calls.{entry}
use Rattle.usb_types.specs.declared.urb.Action.{Action}
use Rattle.usb_types.specs.declared.urb.Action.TheVariants.{Ask}
use Rattle.usb_types.specs.declared.urb.UrbId.{UrbId}
use Rattle.usb_machine.specs.declared.transfer.Transfer.{Transfer}
use Rattle.usb_machine.specs.declared.entry.Entry.{Entry}
use Rattle.usb_machine.specs.declared.plain.Plain.{Plain}
use Rattle.usb_machine.specs.State.{refusal, is_clear, status_of}
use Rattle.usb_machine.specs.Shapes.{HasWindow, Accepts, shape_fault}
use Rattle.usb_machine.specs.History.{HasHome, state_of, pending_of}
use Rattle.usb_machine.specs.Legal.{times}
use Rattle.usb_machine.specs.Plain.{Stands, urbs_of}
use Rattle.usb_class.specs.declared.class_core.Core.{Core}
use Rattle.usb_class.specs.Handler.{goes_again, window_by}
use Rattle.usb_class.specs.Core.{CanUnask}
use Rattle.usb_scene.specs.declared.scene.Scene.{Scene}
use Rattle.usb_class.specs.declared.owner.Owner.{Owner}
use Rattle.usb_trace.specs.declared.rows.Outcome.{Outcome}
use Rattle.usb_trace.specs.declared.rows.GivebackRow.{GivebackRow}
use Rattle.usb_trace.specs.declared.rows.Outcome.TheVariants as outcome
use Rattle.usb_line.specs.declared.run.UrbRow.{UrbRow}
use Rattle.usb_line.specs.declared.run.EndRow.{EndRow}
use Rattle.usb_trace.specs.declared.received.Received.{Received}
use Rattle.usb_line.specs.declared.run.LineRun.{LineRun}
use Rattle.usb_prepare.specs.Ends.{shape_at}
use Rattle.usb_prepare.specs.Layout.{home}
use Rattle.usb_line.specs.declared.giveback.PosedQuestion.{PosedQuestion}
use Rattle.usb_trace.specs.Devices.{IsBare}
use Rattle.usb_trace.specs.Plan.{machine_of, owner_of, DriverQuestion, question_at}
use Rattle.usb_line.specs.Line.{submit_answer}
use Rattle.usb_trace.specs.Run.{Giveback, moved_in, resent, asked_entries, handled_by, given_entries, giveback_entries}
use Rattle.usb_class.specs.Handlers.{CanNote, Noted, GaveQuestion, TookBack}
use Rattle.usb_trace.specs.GivebackRow.{brought_bytes, sent_bytes, Adds}

-- the handler was answered by the gate: of the URB that it submits again in this state, or of the one that a question is asked with
abbrev pub IsGated : Scene → List Entry → ℕ → Option DriverQuestion → Outcome → Type 0
IsGated s h u asking outcome.Rest = Unit {0}
IsGated s h u asking (outcome.Again code) = code ≡ refusal (state_of h u)
IsGated s h u (Some a) (outcome.Asked code) = code ≡ submit_answer (shape_fault (shape_at s (home s a.urb)) a.transfer) (refusal (state_of h a.urb))
IsGated s h u None (outcome.Asked code) = ⊥

-- a question can be asked with its URB, which is not the one that comes back
pub record CanPose (s : Scene) (u : ℕ) (a : DriverQuestion) : Type 0 where
  pub apart : a.urb ≢ u
  pub has : HasHome (machine_of s) a.urb
  pub window : HasWindow a.transfer
  pub unmoved : a.transfer.actual ≡ 0
  pub home : slice_get (machine_of s).layout.shapes (home s a.urb) ≡ Some (shape_at s (home s a.urb))
  pub bare : IsBare (owner_of s a.urb) a.transfer.setup

abbrev pub CanPoseAny : Scene → ℕ → Option DriverQuestion → Type 0
CanPoseAny s u None = Unit {0}
CanPoseAny s u (Some a) = CanPose s u a

-- what the entries of a giveback need of the URB's mark
abbrev pub IsSettled : Scene → List Entry → Giveback → Bool → Type 0
IsSettled s h r true = ((others : List ℕ) × (pending_of (machine_of s) h (home s r.urb) ≡ r.urb ∷ others)) × ((state_of h r.urb).mark ≡ Clear)
IsSettled s h r false = (is_clear (state_of h r.urb).mark ≡ false) × (r.status ≡ status_of (state_of h r.urb).mark)

-- what they need of the history
pub record CanGive (s : Scene) (h : List Entry) (r : Giveback) : Type 0 where
  pub among : 0 < times r.urb (pending_of (machine_of s) h (home s r.urb))
  pub has : HasHome (machine_of s) r.urb
  pub window : HasWindow r.sent
  pub taken : Accepts (slice_get (machine_of s).layout.shapes (home s r.urb)) r.sent
  pub goes : HasWindow (resent s r)
  pub fits : Accepts (slice_get (machine_of s).layout.shapes (home s r.urb)) (resent s r)
  pub settled : IsSettled s h r r.finished
  pub asks : CanPoseAny s r.urb (question_at s r.urb)
  pub gated : IsGated s (h ++ given_entries r.urb r.status r.finished) r.urb (question_at s r.urb) r.outcome

-- where the mark of a finished transfer stands
abbrev pub finish_entries : ℕ → Code → Bool → List Entry
finish_entries u status finished = if finished then entry SERVER (Finish record { 0 = u } status) (Truth true) None ∷ [] else []

-- the history when the URB was given back, and what its handler then does before it ends
abbrev pub given_after : List Entry → Giveback → List Entry
given_after h r = h ++ given_entries r.urb r.status r.finished

abbrev pub acted_entries : Scene → Giveback → List Entry
acted_entries s r = handled_by s r.urb (moved_in s r) (resent s r) (question_at s r.urb) r.outcome

-- the giveback is one of a transfer that ended with this code, or else of one that was unlinked
abbrev pub EndsBy : Option Code → Giveback → Type 0
EndsBy None r = r.finished ≡ false
EndsBy (Some code) r = (r.finished ≡ true) × (r.status ≡ code)

-- this giveback of URB u may come, and no handler of it runs
pub record MayGive (s : Scene) (h : List Entry) (r : Giveback) (u : ℕ) (ended : Option Code) : Type 0 where
  pub can : CanGive s h r
  pub at : r.urb ≡ u
  pub by : EndsBy ended r
  pub idle : (state_of h r.urb).handlers ≡ 0

abbrev pub is_again : Outcome → Bool
is_again (outcome.Again code) = true
is_again o = false

abbrev pub is_asked : Outcome → Bool
is_asked (outcome.Asked code) = true
is_asked o = false

-- the transfer that a handler submitted again with the action's window
abbrev pub left_by : Outcome → Action → Transfer → Option Transfer
left_by (outcome.Again Zero) action t = Some (window_by action t)
left_by o action t = None

-- an URB's row when its transfer came back and its handler ran
abbrev pub row_back : Outcome → Action → Transfer → UrbRow → UrbRow
row_back o action t row = record row { again = row.again - 1; transfer = left_by o action t }

-- the question that an action asks, of an URB that a driver has: its core gives it, and no other core changes
abbrev pub QuestionOf : LineRun → LineRun → Owner → UrbId → Option PosedQuestion → Type 0
QuestionOf old new o urb None = (core : Core) × (after : Core) × (slice_get old.cores.items o.place ≡ Some core) × (new.cores.items ≡ slice_set old.cores.items o.place after) × GaveQuestion core after None
QuestionOf old new o urb (Some q) = (core : Core) × (after : Core) × (slice_get old.cores.items o.place ≡ Some core) × (new.cores.items ≡ slice_set old.cores.items o.place after)
    × GaveQuestion core after (Some q.transfer) × CanUnask after q.transfer × (q.place ≡ o.place) × (q.urb ≡ urb)
    × ((row : UrbRow) (end : EndRow) → slice_get old.urbs.items urb.0 ≡ Some row → slice_get old.ends.items row.home ≡ Some end → q.fault ≡ shape_fault end.shape q.transfer)

-- no question is asked, and nothing changed
abbrev pub NoQuestion : LineRun → LineRun → Option PosedQuestion → Type 0
NoQuestion old new q = (q ≡ None) × (new.cores ≡ old.cores)

abbrev pub QuestionWith : LineRun → LineRun → Owner → Option UrbId → Option PosedQuestion → Type 0
QuestionWith old new o None q = NoQuestion old new q
QuestionWith old new o (Some urb) q = QuestionOf old new o urb q

abbrev pub QuestionBy : LineRun → LineRun → Option Owner → Action → Option PosedQuestion → Type 0
QuestionBy old new (Some o) Ask q = QuestionWith old new o o.ctl q
QuestionBy old new o action q = NoQuestion old new q

-- the machine marked URB u as finished where its transfer ended
abbrev pub Finished : Plain → Plain → ℕ → Option Code → Type 0
Finished old new u ended = (s : Scene) (h : List Entry) (r : Giveback) → Stands old (machine_of s) h → MayGive s h r u ended → Stands new (machine_of s) (h ++ finish_entries r.urb r.status r.finished)

-- the handler of URB u submitted its transfer again, with this answer
abbrev pub Resubmitted : Plain → Plain → ℕ → ℕ → Code → Type 0
Resubmitted old new u number code = (s : Scene) (h : List Entry) (r : Giveback) (says : Code) → Stands old (machine_of s) (given_after h r) → CanGive s h r → r.urb ≡ u → r.sent.number ≡ number
    → r.outcome ≡ outcome.Again says → (code ≡ says) × Stands new (machine_of s) (given_after h r ++ acted_entries s r)

-- the code's question is this one
pub record IsPosed (s : Scene) (a : DriverQuestion) (q : PosedQuestion) : Type 0 where
  pub urb : q.urb.0 ≡ a.urb
  pub transfer : q.transfer ≡ a.transfer
  pub fault : q.fault ≡ shape_fault (shape_at s (home s a.urb)) a.transfer

-- the giveback asks the question that the code has
abbrev pub IsPosedBy : Scene → Option DriverQuestion → Outcome → Option PosedQuestion → Type 0
IsPosedBy s asking outcome.Rest q = q ≡ None
IsPosedBy s asking (outcome.Again code) q = Unit {0}
IsPosedBy s (Some a) (outcome.Asked code) (Some q) = IsPosed s a q
IsPosedBy s asking (outcome.Asked code) q = ⊥

abbrev pub ArePosed : Scene → Giveback → Option PosedQuestion → Type 0
ArePosed s r q = IsPosedBy s (question_at s r.urb) r.outcome q

-- it asked this question
abbrev pub PosesQuestion : Plain → Plain → PosedQuestion → Code → Type 0
PosesQuestion old new q code = (s : Scene) (h : List Entry) (u : ℕ) (a : DriverQuestion) → Stands old (machine_of s) h → CanPose s u a → IsPosed s a q
    → (code ≡ submit_answer (shape_fault (shape_at s (home s a.urb)) a.transfer) (refusal (state_of h a.urb))) × Stands new (machine_of s) (h ++ asked_entries s (Some a) code)

-- it did this
abbrev pub Acted : Plain → Plain → ℕ → Bool → ℕ → Option PosedQuestion → Outcome → Type 0
Acted old new u again number q o = (s : Scene) (h : List Entry) (r : Giveback) → Stands old (machine_of s) (given_after h r) → CanGive s h r → r.urb ≡ u → r.sent.number ≡ number
    → is_again r.outcome ≡ again → ArePosed s r q → (o ≡ r.outcome) × Stands new (machine_of s) (given_after h r ++ acted_entries s r)

-- the machine gave URB u back with this status
abbrev pub GaveStatus : Plain → Plain → ℕ → Option Code → Code → Type 0
GaveStatus old new u ended status = (s : Scene) (h : List Entry) (r : Giveback) → Stands old (machine_of s) h → MayGive s h r u ended
    → (status ≡ r.status) × Stands new (machine_of s) (given_after h r)

-- and its handler did this, and ended
abbrev pub Handled : Plain → Plain → ℕ → Bool → ℕ → Option PosedQuestion → Outcome → Type 0
Handled old new u again number q o = (s : Scene) (h : List Entry) (r : Giveback) → Stands old (machine_of s) (given_after h r) → CanGive s h r → r.urb ≡ u → r.sent.number ≡ number
    → is_again r.outcome ≡ again → ArePosed s r q → (o ≡ r.outcome) × Stands new (machine_of s) (h ++ giveback_entries s r)

-- the transfer of a question that was accepted is in the row of its URB, and the core of one that was not has it back
abbrev pub SettledBy : LineRun → LineRun → PosedQuestion → Outcome → Type 0
SettledBy old new q (outcome.Asked Zero) =
    ((row : UrbRow) × (slice_get old.urbs.items q.urb.0 ≡ Some row) × (new.urbs.items ≡ slice_set old.urbs.items q.urb.0 (record row { transfer = Some q.transfer })))
    × (new.cores ≡ old.cores)
SettledBy old new q o =
    ((core : Core) × (after : Core) × (slice_get old.cores.items q.place ≡ Some core) × (new.cores.items ≡ slice_set old.cores.items q.place after) × TookBack core after)
    × (new.urbs ≡ old.urbs)

abbrev pub Settled : LineRun → LineRun → Option PosedQuestion → Outcome → Type 0
Settled old new None o = new ≡ old
Settled old new (Some q) o = SettledBy old new q o × (new ≡ record old { urbs = new.urbs; cores = new.cores })

-- the URB of the question is there, and its core may take it back
abbrev pub CanSettle : LineRun → Option PosedQuestion → Type 0
CanSettle run None = Unit {0}
CanSettle run (Some q) = (q.urb.0 < length run.urbs.items) × (core : Core) × (slice_get run.cores.items q.place ≡ Some core) × CanUnask core q.transfer

-- the URB that a driver's question is asked with is there, and has its endpoint
abbrev pub CanAsk : LineRun → Option Owner → Type 0
CanAsk run o = (urb : UrbId) → option_and_then (λ (o : Owner). o.ctl) o ≡ Some urb
    → (urb.0 < length run.urbs.items) × (urb.0 < urbs_of run.plain) × ((row : UrbRow) → slice_get run.urbs.items urb.0 ≡ Some row → row.home < length run.ends.items)

-- the core of an URB that a driver has is there
abbrev pub CanPoseQuestion : List Core → Option Owner → Type 0
CanPoseQuestion cores None = Unit {0}
CanPoseQuestion cores (Some o) = o.place < length cores

-- URB u, whose transfer was taken out of its row, can be given back: it is there with its endpoint, its driver's core is there,
-- and so is the URB that its driver's question is asked with
pub record CanGiveBack (run : LineRun) (u : ℕ) : Type 0 where
  pub known : u < urbs_of run.plain
  pub there : u < length run.urbs.items
  pub home : (row : UrbRow) → slice_get run.urbs.items u ≡ Some row → row.home < length run.ends.items
  pub core : (row : UrbRow) → slice_get run.urbs.items u ≡ Some row → CanNote run.cores.items row.owner
  pub asks : (row : UrbRow) → slice_get run.urbs.items u ≡ Some row → CanAsk run row.owner

-- the report keeps what came back, for now with a handler that rests it
pub record Kept (old new : LineRun) (u e : ℕ) (status : Code) (t : Transfer) : Type 0 where
  pub end : EndRow
  pub there : slice_get old.ends.items e ≡ Some end
  pub received : Received
  pub more : Adds end.received received (sent_bytes end.shape t)
  pub ends_so : new.ends.items ≡ slice_set old.ends.items e (record end { received = received })
  pub told : new.given.items ≡ old.given.items ++ record { urb = u; status = status; actual = t.actual; outcome = outcome.Rest; bytes = brought_bytes end.shape t } ∷ []

-- and the core of its driver took note of it
pub record KeptAndNoted (old new : LineRun) (u : ℕ) (status : Code) (t : Transfer) (action : Action) : Type 0 where
  pub row : UrbRow
  pub at : slice_get old.urbs.items u ≡ Some row
  pub kept : Kept old new u row.home status t
  pub noted : Noted old.cores.items new.cores.items row.owner (nat_lt 0 row.again) status t action

-- the core gave its question, if the action asks one, the handler did this, and the question is settled
pub record HandlerRan (old new : LineRun) (u : ℕ) (action : Action) (t : Transfer) : Type 0 where
  pub did : Outcome
  pub row : UrbRow
  pub at : slice_get old.urbs.items u ≡ Some row
  pub posed_question : Option PosedQuestion
  pub asking : LineRun
  pub asked : QuestionBy old asking row.owner action posed_question
  pub asking_so : asking ≡ record old { cores = asking.cores }
  pub acted : LineRun
  pub handled : Handled old.plain acted.plain u (goes_again action) t.number posed_question did
  pub rows : acted.urbs.items ≡ slice_set old.urbs.items u (row_back did action t row)
  pub told : (given : List GivebackRow) (kept : GivebackRow) → old.given.items ≡ given ++ kept ∷ [] → acted.given.items ≡ given ++ record kept { outcome = did } ∷ []
  pub acted_ends : acted.ends ≡ asking.ends
  pub acted_cores : acted.cores ≡ asking.cores
  pub host : acted.down ≡ old.down
  pub same_devices : acted.devices ≡ old.devices
  pub settled : Settled acted new posed_question did

-- what a giveback of URB u with this transfer changes
pub record GaveBack (old new : LineRun) (u : ℕ) (ended : Option Code) (t : Transfer) : Type 0 where
  pub status : Code
  pub did : Outcome
  pub row : UrbRow
  pub at : slice_get old.urbs.items u ≡ Some row
  pub end : EndRow
  pub there : slice_get old.ends.items row.home ≡ Some end
  pub received : Received
  pub action : Action
  -- the machine gave it back, the report keeps what came, and its core took note of it
  pub decided : LineRun
  pub given : GaveStatus old.plain decided.plain u ended status
  pub more : Adds end.received received (sent_bytes end.shape t)
  pub ends_so : decided.ends.items ≡ slice_set old.ends.items row.home (record end { received = received })
  pub noted : Noted old.cores.items decided.cores.items row.owner (nat_lt 0 row.again) status t action
  pub decided_so : decided ≡ record old { plain = decided.plain; ends = decided.ends; cores = decided.cores; given = decided.given }
  -- the core gave its question
  pub posed_question : Option PosedQuestion
  pub asking : LineRun
  pub asked : QuestionBy decided asking row.owner action posed_question
  pub asking_so : asking ≡ record decided { cores = asking.cores }
  -- the handler did this
  pub acted : LineRun
  pub handled : Handled decided.plain acted.plain u (goes_again action) t.number posed_question did
  pub rows : acted.urbs.items ≡ slice_set old.urbs.items u (row_back did action t row)
  pub told : acted.given.items ≡ old.given.items ++ record { urb = u; status = status; actual = t.actual; outcome = did; bytes = brought_bytes end.shape t } ∷ []
  pub acted_ends : acted.ends ≡ asking.ends
  pub acted_cores : acted.cores ≡ asking.cores
  pub host : acted.down ≡ old.down
  pub same_devices : acted.devices ≡ old.devices
  -- and the question is settled
  pub settled : Settled acted new posed_question did

-- where memory was lacking, the machine gave URB u back, its transfer rests, and its handler ended
abbrev pub GaveUp : LineRun → LineRun → ℕ → Option Code → Transfer → Type 0
GaveUp old new u ended t = (s : Scene) (h : List Entry) (r : Giveback) → Stands old.plain (machine_of s) h → MayGive s h r u ended → r.sent.number ≡ t.number → r.outcome ≡ outcome.Rest
    → Stands new.plain (machine_of s) (h ++ giveback_entries s r)
