-- What the completion handlers of all URBs know, and what they do with an URB that came back.
use Rattle.std.specs.Prelude.{ℕ, ◌≡◌, ◌-◌, Bool, true, false, if◌then◌else◌, nat_lt, List, [], ◌∷◌, ◌++◌, length, slice_get, slice_set, filter_map, Option, Some, None, is_some, option_map, option_and_then, Result, Ok, Err}
use Rattle.usb_types.specs.declared.errno.Code.{Code}
use Rattle.usb_types.specs.declared.urb.Action.{Action}
use Rattle.usb_types.specs.declared.urb.Action.TheVariants.{Rest, Again, Ask}
use Rattle.usb_types.specs.declared.urb.UrbId.{UrbId}
use Rattle.usb_types.specs.declared.outside.Memory.{Memory}
use Rattle.usb_machine.specs.declared.transfer.Transfer.{Transfer}
use Rattle.usb_machine.specs.Completion.{Completion}
use Rattle.usb_bind.specs.declared.row.Driver.{Driver}
use Rattle.usb_class.specs.declared.class_core.Core.{Core}
use Rattle.usb_class.specs.declared.class_core.Told.{Told}
use Rattle.usb_class.specs.declared.owner.Owner.{Owner}
use Rattle.usb_class.specs.declared.handlers.HandledUrb.{HandledUrb}
use Rattle.usb_class.specs.declared.handlers.Asker.{Asker}
use Rattle.usb_class.specs.declared.handlers.Asker.TheVariants.{Nobody, MayAsk, Asked}
use Rattle.usb_class.specs.declared.handlers.Handlers.{Handlers}
use Rattle.usb_class.specs.Handler.{action_of}
use Rattle.usb_class.specs.Origin.{Origin}
use Rattle.usb_class.specs.Questions.{question_by, still_out}
use Rattle.usb_class.specs.Told.{told_of}
use Rattle.usb_class.specs.Core.{IsCore, driver_in, is_asking, open_question, CanComplete, CanUnask}

-- what the handler of an URB does with a transfer that came back: what its driver says, and where it is one of the scene's
-- own, it goes on with the same window while it may
abbrev pub action_by : Option Owner → Bool → Code → Transfer → Action
action_by None true status t = Again t.from t.len
action_by None false status t = Rest
action_by (Some o) may status t = action_of o.driver o.role status t

-- an URB's core is there, and knows what the URB is for
abbrev pub CanNote : List Core → Option Owner → Type 0
CanNote cores None = Unit {0}
CanNote cores (Some o) = (core : Core) × (slice_get cores o.place ≡ Some core) × CanComplete core o.role

-- a core took note of its URB that came back, whatever it had seen before, and this is what becomes of the transfer
abbrev pub Took : Core → Owner → Code → Transfer → Action → Core → Type 0
Took old o status t action new = (action ≡ action_of (driver_in old) o.role status t) × ((driver : Driver) (origin : Origin) (done : List Completion) → IsCore driver origin done old
    → IsCore driver origin (done ++ record { role = o.role; status = status; transfer = t } ∷ []) new × (is_asking new ≡ still_out driver origin o.role t (is_asking old)))

-- the core of an URB that a driver has took note of it, and no other
abbrev pub Noted : List Core → List Core → Option Owner → Bool → Code → Transfer → Action → Type 0
Noted old new None may status t action = (action ≡ action_by None may status t) × (new ≡ old)
Noted old new (Some o) may status t action =
    (core : Core) × (after : Core) × (slice_get old o.place ≡ Some core) × (new ≡ slice_set old o.place after) × Took core o status t action after

-- the core of the driver gave its question, if it has one that is not out
abbrev pub GaveQuestion : Core → Core → Option Transfer → Type 0
GaveQuestion old new t = (driver : Driver) (origin : Origin) (done : List Completion) → IsCore driver origin done old
    → (t ≡ (if is_asking old then None else question_by driver origin)) × IsCore driver origin done new
    × (is_asking new ≡ (if is_some t then true else is_asking old))

-- whatever it had seen, and its question is not out
abbrev pub TookBack : Core → Core → Type 0
TookBack old new = ((driver : Driver) (origin : Origin) (done : List Completion) → IsCore driver origin done old → IsCore driver origin done new) × (is_asking new ≡ false)

-- the driver's URB for control transfers, with the driver's place
abbrev pub ctl_of : HandledUrb → Option (ℕ × UrbId)
ctl_of row = option_and_then (λ (o : Owner). option_map (λ (urb : UrbId). (o.place, urb)) o.ctl) row.owner

-- the URBs with which drivers may ask: those for control transfers, of all drivers that have an URB
abbrev pub asking_urb : HandledUrb → Option ℕ
asking_urb row = option_map (λ (c : ℕ × UrbId). c.1.0) (ctl_of row)

abbrev pub asking_urbs : Handlers → List ℕ
asking_urbs h = filter_map asking_urb h.urbs.items

-- the place of the driver that may ask now, and the URB that it asks with
abbrev pub questioner : List HandledUrb → Asker → Option (ℕ × UrbId)
questioner rows (MayAsk urb) = option_and_then ctl_of (slice_get rows urb.0)
questioner rows asker = None

-- the question that was asked last, while it is out
abbrev pub question_asked : List Core → Asker → Option Transfer
question_asked cores (Asked place) = option_and_then open_question (slice_get cores place)
question_asked cores asker = None

abbrev pub last_question : Handlers → Option Transfer
last_question h = question_asked h.cores.items h.asker

-- after an action that asks, the driver of the URB may
abbrev pub asker_after : UrbId → Action → Asker
asker_after urb Ask = MayAsk urb
asker_after urb action = Nobody

-- no core changed and no count, and nobody may ask
abbrev pub IsSilent : Handlers → Handlers → Type 0
IsSilent old new = (new.cores.items ≡ old.cores.items) × (new.urbs.items ≡ old.urbs.items) × (new.asker ≡ Nobody)

-- where the core of an URB that came back can, it took note, and else the transfer rests
pub record Decides (old new : List Core) (row : HandledUrb) (status : Code) (t : Transfer) (action : Action) : Type 0 where
  pub noted : CanNote old row.owner → Noted old new row.owner (nat_lt 0 row.again) status t action
  pub unknown : (CanNote old row.owner → ⊥) → (action ≡ Rest) × (new ≡ old)

-- and the URB goes again once less
pub record CameBack (old : Handlers) (urb : UrbId) (status : Code) (t : Transfer) (action : Action) (row : HandledUrb) (new : Handlers) : Type 0 where
  pub decides : Decides old.cores.items new.cores.items row status t action
  pub counted : new.urbs.items ≡ slice_set old.urbs.items urb.0 (record row { again = row.again - 1 })
  pub may : new.asker ≡ asker_after urb action

-- one that is not known rests
abbrev pub CompletesAt : Handlers → UrbId → Code → Transfer → Action → Option HandledUrb → Handlers → Type 0
CompletesAt old urb status t action None new = (action ≡ Rest) × IsSilent old new
CompletesAt old urb status t action (Some row) new = CameBack old urb status t action row new

-- what becomes of the transfer of an URB that came back. Where memory is lacking nothing changed, and nobody may ask
abbrev pub Completes : Handlers → UrbId → Code → Transfer → Result Action Memory → Handlers → Type 0
Completes old urb status t (Ok action) new = CompletesAt old urb status t action (slice_get old.urbs.items urb.0) new
Completes old urb status t (Err m) new = IsSilent old new

-- the core at this place gave its question, which is asked with this URB
pub record AskedAt (old : Handlers) (place : ℕ) (urb : UrbId) (core : Core) (t : Transfer) (new : Handlers) : Type 0 where
  pub after : Core
  pub gave : GaveQuestion core after (Some t)
  pub back : CanUnask after t
  pub cores_so : new.cores.items ≡ slice_set old.cores.items place after
  pub counts : new.urbs.items ≡ old.urbs.items
  pub asker_so : new.asker ≡ Asked place

abbrev pub AsksBy : Handlers → ℕ → UrbId → Option Core → Option (UrbId × Transfer) → Handlers → Type 0
AsksBy old place urb None q new = (q ≡ None) × IsSilent old new
AsksBy old place urb (Some core) None new = GaveQuestion core core None × IsSilent old new
AsksBy old place urb (Some core) (Some q) new = (q.0 ≡ urb) × AskedAt old place urb core q.1 new

abbrev pub AsksAt : Handlers → Option (ℕ × UrbId) → Option (UrbId × Transfer) → Handlers → Type 0
AsksAt old None q new = (q ≡ None) × IsSilent old new
AsksAt old (Some by) q new = AsksBy old by.0 by.1 (slice_get old.cores.items by.0) q new

-- the driver that may ask gave its question, if it has one that is not out
abbrev pub Asks : Handlers → Option (UrbId × Transfer) → Handlers → Type 0
Asks old q new = AsksAt old (questioner old.urbs.items old.asker) q new

-- the core that asked last took its question back
pub record Unasks (old : Handlers) (t : Transfer) (new : Handlers) : Type 0 where
  pub place : ℕ
  pub was : old.asker ≡ Asked place
  pub core : Core
  pub at : slice_get old.cores.items place ≡ Some core
  pub after : Core
  pub took : TookBack core after
  pub cores_so : new.cores.items ≡ slice_set old.cores.items place after
  pub counts : new.urbs.items ≡ old.urbs.items
  pub asker_so : new.asker ≡ Nobody

-- each driver reports what it makes of all that its core has seen
pub record AreTold (cores : List Core) (list : List Told) : Type 0 where
  pub all : length list ≡ length cores
  pub each : (k : ℕ) (core : Core) (told : Told) → slice_get cores k ≡ Some core → slice_get list k ≡ Some told
      → (driver : Driver) (origin : Origin) (done : List Completion) → IsCore driver origin done core → told ≡ told_of driver origin done
