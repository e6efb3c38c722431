-- What turns and givebacks add to the history of a machine with its transfers.
use Rattle.std.specs.Prelude.{ℕ, ◌≡◌, true, false, List, [], ◌∷◌, ◌++◌, length, Option, Some, None, Result, Ok, Err, Bool}
use Rattle.usb_types.specs.declared.urb.UrbId.{UrbId}
use Rattle.usb_types.specs.declared.errno.Errno.{Errno}
use Rattle.usb_types.specs.declared.errno.Code.{Code}
use Rattle.usb_types.specs.declared.errno.Code.TheVariants.{Zero, Fault}
use Rattle.usb_types.specs.declared.outside.Memory.{Memory}
use Rattle.usb_machine.specs.declared.entry.TheConstants.{SERVER}
use Rattle.usb_machine.specs.declared.entry.Entry.{Entry}
use Rattle.usb_machine.specs.declared.event.Event.{Event}
use Rattle.usb_machine.specs.declared.event.Event.TheVariants.{Finish, Give, Rest, End, Mark, Reject, Withdraw, Quiet, Claim, Flag, Unflag}
use Rattle.usb_machine.specs.declared.event.Answer.TheVariants.{Nothing, Truth, Code as Status}
use Rattle.usb_machine.specs.declared.transfer.Transfer.{Transfer}
use Rattle.usb_machine.specs.History.{Machine}
use Rattle.usb_machine.specs.Calls.{entry, plain_entry, submit_entries}
use Rattle.usb_serve.specs.declared.handler.Outcome.{Outcome}
use Rattle.usb_serve.specs.declared.handler.Outcome.TheVariants as outcome
use Rattle.usb_serve.specs.Handlers.{windowed}
use Rattle.usb_serve.specs.Bridge.{takes_below, marked_below}

abbrev pub rest_entry : UrbId → Transfer → Entry
rest_entry u t = entry SERVER (Rest u t.number) Nothing (Some t)

abbrev pub end_entry : UrbId → Entry
end_entry u = plain_entry SERVER (End u)

abbrev pub finish_entry : UrbId → Code → Bool → Entry
finish_entry u code done = entry SERVER (Finish u code) (Truth done) None

abbrev pub give_entry : UrbId → Code → Entry
give_entry u code = entry SERVER (Give u) (Status code) None

-- what a handler adds before its end, by its result: the transfer rests, or is submitted again and rests where that is refused,
-- by its endpoint or by the gate. After a rest the driver's question is submitted, if it has one
pub data HandlerAdds (u : UrbId) (t : Transfer) : Result Outcome Memory → List Entry → Type 0 where
  rested : HandlerAdds u t (Ok outcome.Rested) (rest_entry u t ∷ [])
  accepted : (from len : ℕ) → HandlerAdds u t (Ok (outcome.Again Zero)) (submit_entries SERVER u.0 (windowed from len t) Zero)
  refused : (from len : ℕ) (errno : Errno) → HandlerAdds u t (Ok (outcome.Again (Fault errno))) (submit_entries SERVER u.0 (windowed from len t) (Fault errno) ++ rest_entry u (windowed from len t) ∷ [])
  unfit : (from len : ℕ) (errno : Errno) → HandlerAdds u t (Ok (outcome.Again (Fault errno))) (rest_entry u (windowed from len t) ∷ [])
  asked : (v : UrbId) (q : Transfer) → HandlerAdds u t (Ok (outcome.Asked Zero)) (rest_entry u t ∷ [] ++ submit_entries SERVER v.0 q Zero)
  asked_refused : (v : UrbId) (q : Transfer) (errno : Errno) → HandlerAdds u t (Ok (outcome.Asked (Fault errno))) (rest_entry u t ∷ [] ++ submit_entries SERVER v.0 q (Fault errno))
  asked_unfit : (errno : Errno) → HandlerAdds u t (Ok (outcome.Asked (Fault errno))) (rest_entry u t ∷ [])
  lacking : (m : Memory) → HandlerAdds u t (Err m) (rest_entry u t ∷ [])

-- what a turn adds, by the URB that it gives back: it takes what the lines hold, and then gives back an URB that is marked, or
-- finishes one and gives it back; where it does neither, no pending URB was unlinked
pub data TurnAdds (g : Machine) (h : List Entry) : Option UrbId → List Entry → Type 0 where
  marked : (u : UrbId) (code : Code) → TurnAdds g h (Some u) (takes_below g h (length g.layout.shapes) ++ give_entry u code ∷ [])
  ended : (u : UrbId) (code status : Code) → TurnAdds g h (Some u) (takes_below g h (length g.layout.shapes) ++ finish_entry u code true ∷ give_entry u status ∷ [])
  idle : marked_below g (h ++ takes_below g h (length g.layout.shapes)) (length g.layout.shapes) ≡ [] → TurnAdds g h None (takes_below g h (length g.layout.shapes))

-- a turn that gives an URB back, then its handler, and then the handler's end
pub record Round (g : Machine) (h es : List Entry) : Type 0 where
  pub urb : UrbId
  pub transfer : Transfer
  pub given : List Entry
  pub turned : TurnAdds g h (Some urb) given
  pub came : Result Outcome Memory
  pub done : List Entry
  pub handled : HandlerAdds urb transfer came done
  pub is : es ≡ given ++ (done ++ end_entry urb ∷ [])

-- rounds one after another
pub data Rounds (g : Machine) (h : List Entry) : List Entry → Type 0 where
  none : Rounds g h []
  one : (es fs : List Entry) → Rounds g h es → Round g (h ++ es) fs → Rounds g h (es ++ fs)

-- what a turn with its handler adds, by whether an URB came back
abbrev pub TurnsBy : Machine → List Entry → Result Bool Memory → List Entry → Type 0
TurnsBy g h (Ok true) es = Round g h es
TurnsBy g h (Ok false) es = TurnAdds g h None es
TurnsBy g h (Err m) es = Round g h es

-- an event that changes no line, no pending list and no count of handlers: the steps of unlinks, gates, waits and claims
abbrev pub IsCall : Event → Type 0
IsCall (Mark u w) = Unit {0}
IsCall (Reject u) = Unit {0}
IsCall (Withdraw u) = Unit {0}
IsCall (Quiet u) = Unit {0}
IsCall (Claim u) = Unit {0}
IsCall (Flag u f) = Unit {0}
IsCall (Unflag u f) = Unit {0}
IsCall event = ⊥
