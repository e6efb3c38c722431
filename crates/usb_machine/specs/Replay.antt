-- The history of a list of steps and their answers.
use Rattle.std.specs.Prelude.{◌≡◌, ℕ, ◌+◌, ◌<◌, List, [], ◌∷◌, ◌++◌, map, length, Option}
use Rattle.usb_machine.specs.declared.event.Event.{Event}
use Rattle.usb_machine.specs.declared.event.Event.TheVariants.{Take}
use Rattle.usb_machine.specs.declared.event.Answer.{Answer}
use Rattle.usb_machine.specs.declared.transfer.Transfer.{Transfer}
use Rattle.usb_machine.specs.declared.entry.Entry.{Entry}
use Rattle.usb_machine.specs.declared.entry.TheConstants.{SERVER}
use Rattle.usb_machine.specs.declared.layout.Layout.{Layout}
use Rattle.usb_machine.specs.declared.replays.Step.{Step}
use Rattle.usb_machine.specs.declared.plain.Plain.{Plain}
use Rattle.usb_machine.specs.State.{answer_of}
use Rattle.usb_machine.specs.History.{Machine, state_of, line_of}
use Rattle.usb_machine.specs.Legal.{urb_of, end_of, Carries, IsLegal}
use Rattle.usb_machine.specs.Plain.{HasRoom, Fits, IsNext, Stands}

-- the step may come next, after this history
pub record StepFits (plain : Plain) (g : Machine) (h : List Entry) (s : Step) : Type 0 where
  pub fits : Fits plain g h s.pass s.event

-- the step has this answer, whatever history the object stands for
pub record IsAnswer (plain : Plain) (s : Step) (a : Answer) : Type 0 where
  pub answers : (g : Machine) (h : List Entry) → Stands plain g h → a ≡ answer_of s.event (state_of h (urb_of s.event)) (line_of g h (end_of s.event))

-- the object stands for one entry more, that of the step
pub record MakesStep (old new : Plain) (s : Step) (a : Answer) : Type 0 where
  pub makes : (g : Machine) (h : List Entry) (carried : Option Transfer) → Stands old g h → IsNext g h s.pass s.event carried → Stands new g (h ++ record { pass = s.pass; event = s.event; answer = a; carried = carried } ∷ [])

-- the machine of a layout with this many passes beside the server's and the hub's
abbrev pub machine_for : Layout → ℕ → Machine
machine_for layout passes = record { layout = layout; passes = passes + 2; bottom = SERVER }

-- the entries of steps with their answers and with what each carries
abbrev pub entries : List Step → List Answer → List (Option Transfer) → List Entry
entries [] answers carried = []
entries (s ∷ steps) [] carried = []
entries (s ∷ steps) (a ∷ answers) [] = []
entries (s ∷ steps) (a ∷ answers) (c ∷ carried) = record { pass = s.pass; event = s.event; answer = a; carried = c } ∷ entries steps answers carried

-- each of the steps is said to carry what its event carries
abbrev pub CarryAll : Machine → List Step → List (Option Transfer) → Type 0
CarryAll g [] [] = Unit {0}
CarryAll g [] (c ∷ carried) = ⊥
CarryAll g (s ∷ steps) [] = ⊥
CarryAll g (s ∷ steps) (c ∷ carried) = Carries g s.event c × CarryAll g steps carried

-- each step has its answer, and whatever the steps carry, that is a legal history
pub record IsHistoryOf (g : Machine) (steps : List Step) (answers : List Answer) : Type 0 where
  pub each : length answers ≡ length steps
  pub legal : (carried : List (Option Transfer)) → CarryAll g steps carried → IsLegal g (entries steps answers carried)

-- the event is of an URB, or a Take of an endpoint, that the machine has
abbrev pub IsWithin : Machine → Event → Type 0
IsWithin g (Take e) = e < length g.layout.shapes
IsWithin g event = urb_of event < length g.layout.homes

abbrev pub step_of : Entry → Step
step_of x = record { pass = x.pass; event = x.event }

-- the history is one of these steps, legal, of URBs and endpoints that are there, and each count had room
pub record CanReplay (g : Machine) (h : List Entry) (steps : List Step) : Type 0 where
  pub legal : IsLegal g h
  pub made : map step_of h ≡ steps
  pub within : (a : List Entry) (x : Entry) (b : List Entry) → h ≡ a ++ x ∷ b → IsWithin g x.event × HasRoom a x.pass x.event

abbrev pub answers_in : List Entry → List Answer
answers_in h = map (λ x. x.answer) h
