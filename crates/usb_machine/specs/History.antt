-- Histories, the oldest entry first, and what stands after one: the state of each URB, and each endpoint's line and
-- pending list. Each part is a function of its own, by one entry more.
use Rattle.std.specs.Prelude.{◌≡◌, ℕ, Bool, false, not, cond, ◌==◌, if◌then◌else◌, List, [], ◌∷◌, ◌++◌, slice_index_or, Option, Some, None, filter, fold}
use Rattle.usb_machine.specs.declared.event.Event.{Event}
use Rattle.usb_machine.specs.declared.event.Event.TheVariants.{Submit, Link, Take, Mark, Finish, Give, Rest, End, Reject, Withdraw, Quiet, Claim, Flag, Unflag}
use Rattle.usb_machine.specs.declared.event.Answer.{Answer}
use Rattle.usb_machine.specs.declared.event.Answer.TheVariants.{Nothing, Code as Status, Truth, Urb, Number}
use Rattle.usb_machine.specs.declared.transfer.Transfer.{Transfer}
use Rattle.usb_machine.specs.declared.entry.Entry.{Entry}
use Rattle.usb_machine.specs.declared.state.UrbState.{UrbState}
use Rattle.usb_machine.specs.declared.layout.Layout.{Layout}
use Rattle.usb_machine.specs.State.{opening, after, accepted}

-- a machine: each URB's home and each endpoint's shape, how many passes there are, and which of them runs handlers
pub record Machine : Type 0 where
  pub layout : Layout
  pub passes : ℕ
  pub bottom : ℕ

abbrev pub or_zero : Option ℕ → ℕ
or_zero None = 0
or_zero (Some e) = e

-- an URB's home endpoint. An URB without one is never submitted, and which number it has here does not matter
abbrev pub home_of : Machine → ℕ → ℕ
home_of g u = or_zero (slice_index_or g.layout.homes u None)

abbrev pub HasHome : Machine → ℕ → Type 0
HasHome g u = (e : ℕ) × (slice_index_or g.layout.homes u None ≡ Some e)

-- whether the event is one of URB u. A Take is of an endpoint
abbrev pub is_of : ℕ → Event → Bool
is_of u (Submit v n) = v.0 == u
is_of u (Link v) = v.0 == u
is_of u (Take e) = false
is_of u (Mark v w) = v.0 == u
is_of u (Finish v c) = v.0 == u
is_of u (Give v) = v.0 == u
is_of u (Rest v n) = v.0 == u
is_of u (End v) = v.0 == u
is_of u (Reject v) = v.0 == u
is_of u (Withdraw v) = v.0 == u
is_of u (Quiet v) = v.0 == u
is_of u (Claim v) = v.0 == u
is_of u (Flag v f) = v.0 == u
is_of u (Unflag v f) = v.0 == u

abbrev pub after_entry : ℕ → UrbState → Entry → UrbState
after_entry u s x = cond (is_of u x.event) (after x.event x.answer s) s

-- the state of URB u after a history
abbrev pub state_of : List Entry → ℕ → UrbState
state_of h u = fold (after_entry u) opening h

abbrev pub without_first : List ℕ → List ℕ
without_first [] = []
without_first (u ∷ us) = us

abbrev pub without : ℕ → List ℕ → List ℕ
without u us = filter (λ v. not (v == u)) us

-- the URB that a Take answered
abbrev pub taken : Answer → List ℕ
taken Nothing = []
taken (Status c) = []
taken (Truth b) = []
taken (Urb u) = u.0 ∷ []
taken (Number n) = []

-- a Link puts its URB last in the line of its home, and a Take removes the line's first
abbrev pub line_after : Machine → ℕ → List ℕ → Event → List ℕ
line_after g e us (Link u) = if (home_of g u.0 == e) then us ++ u.0 ∷ [] else us
line_after g e us (Take d) = if (d == e) then without_first us else us
line_after g e us _ = us

-- the line of endpoint e after a history
abbrev pub line_of : Machine → List Entry → ℕ → List ℕ
line_of g h e = fold (λ us x. line_after g e us x.event) [] h

-- a Take puts what it answered last among the pending URBs of its endpoint, and a Give removes its URB
abbrev pub pending_after : Machine → ℕ → List ℕ → Event → Answer → List ℕ
pending_after g e us (Take d) a = if (d == e) then us ++ taken a else us
pending_after g e us (Give u) a = if (home_of g u.0 == e) then without u.0 us else us
pending_after g e us _ a = us

-- the pending list of endpoint e after a history
abbrev pub pending_of : Machine → List Entry → ℕ → List ℕ
pending_of g h e = fold (λ us x. pending_after g e us x.event x.answer) [] h

-- an accepted Submit of u sends the transfer that it carries
abbrev pub sent_after : ℕ → Option Transfer → Event → Answer → Option Transfer → Option Transfer
sent_after u t (Submit v n) a c = cond (v.0 == u) (cond (accepted a) c t) t
sent_after u t _ a c = t

-- the transfer of the last accepted Submit of u
abbrev pub sent_of : List Entry → ℕ → Option Transfer
sent_of h u = fold (λ t x. sent_after u t x.event x.answer x.carried) None h

-- an episode: an accepted Submit of an URB with the next Give of it. Its status is the Give's answer
pub record Episode : Type 0 where
  pub urb : ℕ
  pub status : Answer
  pub transfer : Option Transfer

-- the episode that an entry after this history ends: that of a Give, with what was sent last
abbrev pub ended_by : List Entry → Event → Answer → List Episode
ended_by before (Give u) a = record { urb = u.0; status = a; transfer = sent_of before u.0 } ∷ []
ended_by before _ a = []

abbrev pub episodes_after : List Entry → List Entry → List Episode
episodes_after before [] = []
episodes_after before (x ∷ xs) = ended_by before x.event x.answer ++ episodes_after (before ++ x ∷ []) xs

-- the episodes of a history, in the order in which they end
abbrev pub episodes_of : List Entry → List Episode
episodes_of h = episodes_after [] h
