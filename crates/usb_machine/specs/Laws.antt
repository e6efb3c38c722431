-- What the laws of the machine say of every legal history.
use Rattle.std.specs.Prelude.{◌≡◌, ◌≢◌, ℕ, zero, suc, ◌+◌, Bool, true, false, ◌&&◌, cond, ◌==◌, if◌then◌else◌, List, [], ◌∷◌, ◌++◌, fold}
use Rattle.usb_machine.specs.declared.event.Event.{Event}
use Rattle.usb_machine.specs.declared.event.Event.TheVariants.{Submit, Link, Take, Mark, Finish, Give, Rest, End, Reject, Withdraw, Quiet, Claim}
use Rattle.usb_machine.specs.declared.event.Answer.{Answer}
use Rattle.usb_machine.specs.declared.event.Answer.TheVariants.{Urb, Code as Status}
use Rattle.usb_types.specs.declared.errno.Code.{Code}
use Rattle.usb_types.specs.declared.errno.Code.TheVariants.{Fault}
use Rattle.usb_types.specs.Codes.{errno_of}
use Rattle.usb_machine.specs.declared.entry.Entry.{Entry}
use Rattle.usb_machine.specs.State.{accepted, unlinks, finishes}
use Rattle.usb_machine.specs.History.{Machine, home_of, state_of, line_of, pending_of}
use Rattle.usb_machine.specs.Parts.{part_of, owes, holds_any, held_of, keeps}
use Rattle.usb_machine.specs.Legal.{times}

-- the sum of f over the numbers below n
abbrev pub total : ℕ → (ℕ → ℕ) → ℕ
total zero f = 0
total (suc n) f = total n f + f n

abbrev pub bit : Bool → ℕ
bit b = cond b 1 0

-- how many passes owe a Link of u
abbrev pub owing : Machine → List Entry → ℕ → ℕ
owing g h u = total g.passes (λ p. bit (owes (part_of h p) u))

-- a queued URB is owed a Link, in its home's line or pending there, in one of them and once. Any other URB is in none
pub record Placed (g : Machine) (h : List Entry) (u : ℕ) : Type 0 where
  pub once : owing g h u + times u (line_of g h (home_of g u)) + times u (pending_of g h (home_of g u)) ≡ bit (state_of h u).queued
  pub line_else : (e : ℕ) → e ≢ home_of g u → times u (line_of g h e) ≡ 0
  pub pending_else : (e : ℕ) → e ≢ home_of g u → times u (pending_of g h e) ≡ 0

-- how often u was submitted with answer 0, was given back, and had a handler end
abbrev pub submits_after : ℕ → ℕ → Event → Answer → ℕ
submits_after u n (Submit v k) a = if (v.0 == u) && accepted a then n + 1 else n
submits_after u n _ a = n

abbrev pub gives_after : ℕ → ℕ → Event → ℕ
gives_after u n (Give v) = if (v.0 == u) then n + 1 else n
gives_after u n _ = n

abbrev pub ends_after : ℕ → ℕ → Event → ℕ
ends_after u n (End v) = if (v.0 == u) then n + 1 else n
ends_after u n _ = n

abbrev pub submits : List Entry → ℕ → ℕ
submits h u = fold (λ n x. submits_after u n x.event x.answer) 0 h

abbrev pub gives : List Entry → ℕ → ℕ
gives h u = fold (λ n x. gives_after u n x.event) 0 h

abbrev pub ends : List Entry → ℕ → ℕ
ends h u = fold (λ n x. ends_after u n x.event) 0 h

-- accepted Submits and Gives take turns, and the handlers running are the Gives less the Ends
pub record TakesTurns (h : List Entry) (u : ℕ) : Type 0 where
  pub turns : submits h u ≡ gives h u + bit (state_of h u).queued
  pub handlers : gives h u ≡ ends h u + (state_of h u).handlers

abbrev pub answers_urb : ℕ → Answer → Bool
answers_urb u (Urb v) = v.0 == u
answers_urb u _ = false

-- whether an entry queues u, moves it, gives it back, rests its transfer or ends a handler of it
abbrev pub stirs : ℕ → Event → Answer → Bool
stirs u (Submit v n) a = (v.0 == u) && accepted a
stirs u (Link v) a = v.0 == u
stirs u (Take e) a = answers_urb u a
stirs u (Give v) a = v.0 == u
stirs u (Rest v n) a = v.0 == u
stirs u (End v) a = v.0 == u
stirs u _ a = false

-- pass p keeps u, and the entries xs of h are those after the Quiet from which it does
pub data Since (p u : ℕ) : List Entry → List Entry → Type 0 where
  begins : (h : List Entry) (x : Entry) → x.pass ≡ p → x.event ≡ Quiet record { 0 = u } → keeps (part_of h p) u ≡ false → keeps (part_of (h ++ x ∷ []) p) u ≡ true → Since p u (h ++ x ∷ []) []
  goes_on : (h xs : List Entry) (x : Entry) → Since p u h xs → keeps (part_of (h ++ x ∷ []) p) u ≡ true → Since p u (h ++ x ∷ []) (xs ++ x ∷ [])

abbrev pub NoneStirs : ℕ → List Entry → Type 0
NoneStirs u [] = Unit {0}
NoneStirs u (x ∷ xs) = (stirs u x.event x.answer ≡ false) × NoneStirs u xs

-- while pass p keeps u, the URB is not queued, no handler of it runs, and nothing has stirred it since that Quiet
pub record IsKept (h : List Entry) (p u : ℕ) : Type 0 where
  pub since : List Entry
  pub entries : Since p u h since
  pub unstirred : NoneStirs u since
  pub queued : (state_of h u).queued ≡ false
  pub handlers : (state_of h u).handlers ≡ 0

-- the status that an entry settles for u: that of a Mark which answered EINPROGRESS, or of a Finish which answered true
abbrev pub settling : ℕ → Event → Answer → List Code
settling u (Mark v why) a = if (v.0 == u) && unlinks a then Fault (errno_of why) ∷ [] else []
settling u (Finish v code) a = if (v.0 == u) && finishes a then code ∷ [] else []
settling u _ a = []

abbrev pub settled : ℕ → List Entry → List Code
settled u [] = []
settled u (x ∷ xs) = settling u x.event x.answer ++ settled u xs

abbrev pub is_give : ℕ → Event → Bool
is_give u (Give v) = v.0 == u
is_give u _ = false

abbrev pub NoneGives : ℕ → List Entry → Type 0
NoneGives u [] = Unit {0}
NoneGives u (x ∷ xs) = (is_give u x.event ≡ false) × NoneGives u xs

-- a history with an episode of u: an accepted Submit, what stands before the next Give of u, and that Give
pub record HasEpisode (h : List Entry) (u number : ℕ) (within : List Entry) (give : Entry) : Type 0 where
  pub before : List Entry
  pub submit : Entry
  pub behind : List Entry
  pub parts : h ≡ before ++ submit ∷ (within ++ give ∷ behind)
  pub submits : submit.event ≡ Submit record { 0 = u } number
  pub accepts : accepted submit.answer ≡ true
  pub none_gives : NoneGives u within
  pub gives : give.event ≡ Give record { 0 = u }

-- what is answered is the status of the only entry that settled one
pub record HasOneStatus (u : ℕ) (within : List Entry) (answer : Answer) : Type 0 where
  pub status : Code
  pub answers : answer ≡ Status status
  pub only : settled u within ≡ status ∷ []

-- whether an event rests a transfer with u, or claims it
abbrev pub is_rest_or_claim : ℕ → Event → Bool
is_rest_or_claim u (Rest v n) = v.0 == u
is_rest_or_claim u (Claim v) = v.0 == u
is_rest_or_claim u _ = false

abbrev pub NoneRestsOrClaims : ℕ → List Entry → Type 0
NoneRestsOrClaims u [] = Unit {0}
NoneRestsOrClaims u (x ∷ xs) = (is_rest_or_claim u x.event ≡ false) × NoneRestsOrClaims u xs

-- the last Rest of u in the history is of this number, and no Claim of u follows it
pub record EndsWithRest (h : List Entry) (u number : ℕ) : Type 0 where
  pub before : List Entry
  pub rest : Entry
  pub behind : List Entry
  pub parts : h ≡ before ++ rest ∷ behind
  pub rests : rest.event ≡ Rest record { 0 = u } number
  pub none : NoneRestsOrClaims u behind

-- u is held after these entries, and after each more of those that follow them
abbrev pub IsHeldThrough : ℕ → List Entry → List Entry → Type 0
IsHeldThrough u m [] = holds_any (held_of m u) ≡ true
IsHeldThrough u m (x ∷ xs) = (holds_any (held_of m u) ≡ true) × IsHeldThrough u (m ++ x ∷ []) xs

-- there is a Quiet of u before which u is held, and after which it is held all the time
pub record IsHeldSinceQuiet (m : List Entry) (u : ℕ) : Type 0 where
  pub before : List Entry
  pub quiet : Entry
  pub behind : List Entry
  pub parts : m ≡ before ++ quiet ∷ behind
  pub sees : quiet.event ≡ Quiet record { 0 = u }
  pub held : IsHeldThrough u before (quiet ∷ behind)

-- how often u was rejected, and how often a reject was withdrawn
abbrev pub rejects_after : ℕ → ℕ → Event → ℕ
rejects_after u n (Reject v) = if (v.0 == u) then n + 1 else n
rejects_after u n _ = n

abbrev pub withdraws_after : ℕ → ℕ → Event → ℕ
withdraws_after u n (Withdraw v) = if (v.0 == u) then n + 1 else n
withdraws_after u n _ = n

abbrev pub rejects : List Entry → ℕ → ℕ
rejects m u = fold (λ n x. rejects_after u n x.event) 0 m

abbrev pub withdraws : List Entry → ℕ → ℕ
withdraws m u = fold (λ n x. withdraws_after u n x.event) 0 m
