-- What a pass of the turns is to the host.
use Rattle.std.specs.Prelude.{◌≡◌, ◌<◌, ◌++◌, ◌∷◌, [], false, List}
use Rattle.atomic_table.specs.Seated.{TableId}
use Rattle.usb_turn.specs.Pass.{Pass}
use Rattle.usb_machine.specs.declared.entry.Entry.{Entry}
use Rattle.usb_machine.specs.declared.event.Event.{Event}
use Rattle.usb_machine.specs.declared.event.Answer.{Answer}
use Rattle.usb_machine.specs.State.{answer_of}
use Rattle.usb_machine.specs.History.{Machine, state_of, line_of}
use Rattle.usb_machine.specs.Parts.{part_of}
use Rattle.usb_machine.specs.Legal.{IsLegal, May, urb_of, end_of}
use Rattle.usb_machine.specs.Plain.{HasRoom}
use Rattle.usb_machine.specs.Fresh.{Known, Begins}
use Rattle.usb_turn_host.specs.declared.stock.Setup.{Setup}
use Rattle.usb_turn_host.specs.Stock.{machine_of}

abbrev pub known_of : Pass Entry → Known
known_of p = record { number = p.number; seen = p.seen; mine = p.mine }

-- the pass is one of these turns, without the turn, and what it has seen is legal
pub record IsOf (id : TableId) (setup : Setup) (p : Pass Entry) : Type 0 where
  pub table : p.table ≡ id
  pub idle : p.has ≡ false
  pub below : p.number < (machine_of setup).passes
  pub legal : IsLegal (machine_of setup) p.seen
  pub own : part_of p.seen p.number ≡ p.mine

-- a legal history that begins with what the pass has seen, and has no further entry of the pass
pub record IsLater (g : Machine) (p : Known) (h : List Entry) : Type 0 where
  pub legal : IsLegal g h
  pub begins : Begins h p.seen
  pub own : part_of h p.number ≡ p.mine

-- in each such history the event may come
abbrev pub MayLater : Machine → Known → Event → Type 0
MayLater g p event = (h : List Entry) → IsLater g p h → May g h p.number event × HasRoom h p.number event

-- the answer is that of the machine after such a history, which the entry follows in what the pass has then seen
pub record IsAnswered (g : Machine) (p q : Known) (event : Event) (answer : Answer) (x : Entry) : Type 0 where
  pub before : List Entry
  pub later : IsLater g p before
  pub seen : q.seen ≡ before ++ x ∷ []
  pub answers : answer ≡ answer_of event (state_of before (urb_of event)) (line_of g before (end_of event))
