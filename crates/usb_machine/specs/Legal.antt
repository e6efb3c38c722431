-- Where each event may come, and which histories are legal.
use Rattle.std.specs.Prelude.{◌≡◌, ℕ, ◌<◌, true, false, cond, ◌+◌, ◌==◌, List, [], ◌∷◌, ◌++◌, length, slice_get, Option, Some, None}
use Rattle.usb_machine.specs.declared.entry.TheConstants.{SERVER, HUB}
use Rattle.usb_machine.specs.declared.event.Event.{Event}
use Rattle.usb_machine.specs.declared.event.Event.TheVariants.{Submit, Link, Take, Mark, Finish, Give, Rest, End, Reject, Withdraw, Quiet, Claim, Flag, Unflag}
use Rattle.usb_machine.specs.declared.transfer.Transfer.{Transfer}
use Rattle.usb_machine.specs.declared.entry.Entry.{Entry}
use Rattle.usb_machine.specs.State.{answer_of, is_clear, has_flag}
use Rattle.usb_machine.specs.Shapes.{HasWindow, Accepts}
use Rattle.usb_machine.specs.History.{Machine, home_of, HasHome, state_of, line_of, pending_of}
use Rattle.usb_machine.specs.Parts.{part_of, owes, held_of, keeps}

-- how often u stands in the list
abbrev pub times : ℕ → List ℕ → ℕ
times u [] = 0
times u (v ∷ vs) = cond (v == u) 1 0 + times u vs

abbrev pub IsFirst : ℕ → List ℕ → Type 0
IsFirst u [] = ⊥
IsFirst u (v ∷ vs) = v ≡ u

-- where an event of pass p may come, after the history h
abbrev pub May : Machine → List Entry → ℕ → Event → Type 0
May g h p (Submit u n) = HasHome g u.0
May g h p (Link u) = owes (part_of h p) u.0 ≡ true
May g h p (Take e) = (p ≡ SERVER) × (0 < length (line_of g h e))
May g h p (Mark u w) = Unit {0}
May g h p (Finish u c) = (p ≡ SERVER) × IsFirst u.0 (pending_of g h (home_of g u.0))
May g h p (Give u) = (p ≡ SERVER) × (0 < times u.0 (pending_of g h (home_of g u.0))) × (is_clear (state_of h u.0).mark ≡ false)
May g h p (Rest u n) = (p ≡ g.bottom) × (0 < (state_of h u.0).handlers)
May g h p (End u) = (p ≡ g.bottom) × (0 < (state_of h u.0).handlers)
May g h p (Reject u) = Unit {0}
May g h p (Withdraw u) = 0 < (held_of (part_of h p) u.0).rejects
May g h p (Quiet u) = ((state_of h u.0).queued ≡ false) × ((state_of h u.0).handlers ≡ 0)
May g h p (Claim u) = keeps (part_of h p) u.0 ≡ true
May g h p (Flag u f) = (p ≡ HUB) × (has_flag f (state_of h u.0).flags ≡ false)
May g h p (Unflag u f) = (p ≡ HUB) × (has_flag f (state_of h u.0).flags ≡ true)

-- the URB of an event, and the endpoint of a Take
abbrev pub urb_of : Event → ℕ
urb_of (Submit u n) = u.0
urb_of (Link u) = u.0
urb_of (Take e) = 0
urb_of (Mark u w) = u.0
urb_of (Finish u c) = u.0
urb_of (Give u) = u.0
urb_of (Rest u n) = u.0
urb_of (End u) = u.0
urb_of (Reject u) = u.0
urb_of (Withdraw u) = u.0
urb_of (Quiet u) = u.0
urb_of (Claim u) = u.0
urb_of (Flag u f) = u.0
urb_of (Unflag u f) = u.0

abbrev pub end_of : Event → ℕ
end_of (Take e) = e
end_of _ = 0

-- a Submit carries a transfer that has moved nothing and that its home takes, and a Rest carries any
abbrev pub Carries : Machine → Event → Option Transfer → Type 0
Carries g (Submit u n) (Some t) = (t.number ≡ n) × HasWindow t × (t.actual ≡ 0) × Accepts (slice_get g.layout.shapes (home_of g u.0)) t
Carries g (Submit u n) None = ⊥
Carries g (Rest u n) (Some t) = (t.number ≡ n) × HasWindow t
Carries g (Rest u n) None = ⊥
Carries g _ c = c ≡ None

-- the entry may come after the history, and has the answer that the machine gives there
pub record Follows (g : Machine) (h : List Entry) (x : Entry) : Type 0 where
  pub pass : x.pass < g.passes
  pub may : May g h x.pass x.event
  pub answers : x.answer ≡ answer_of x.event (state_of h (urb_of x.event)) (line_of g h (end_of x.event))
  pub carries : Carries g x.event x.carried

-- a legal history is empty, or a legal history with one entry more that may follow it
pub data IsLegal (g : Machine) : List Entry → Type 0 where
  empty : IsLegal g []
  longer : (h : List Entry) (x : Entry) → IsLegal g h → Follows g h x → IsLegal g (h ++ x ∷ [])
