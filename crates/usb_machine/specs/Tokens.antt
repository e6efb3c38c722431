-- When a token is whole: its pass has the token's number, and what it stores is that of the pass's own entries.
use Rattle.std.specs.Prelude.{◌≡◌, ℕ, zero, suc, ◌+◌, ◌<◌, Bool, List, [], ◌∷◌, fold, length, Option, Some, None, All, Any, true, false}
use Rattle.usb_types.specs.declared.errno.Code.{Code}
use Rattle.usb_types.specs.declared.urb.UrbId.{UrbId}
use Rattle.usb_machine.specs.declared.entry.TheConstants.{SERVER, HUB}
use Rattle.usb_machine.specs.declared.event.Event.{Event}
use Rattle.usb_machine.specs.declared.event.Event.TheVariants.{Give}
use Rattle.usb_machine.specs.declared.transfer.Transfer.{Transfer}
use Rattle.usb_machine.specs.declared.entry.Entry.{Entry}
use Rattle.usb_machine.specs.declared.state.Flags.{Flags}
use Rattle.usb_machine.specs.declared.state.Mark.{Mark as MarkState}
use Rattle.usb_machine.specs.declared.state.Mark.TheVariants.{Clear, Unlinked, Finished}
use Rattle.usb_machine.specs.History.{Machine, HasHome, home_of, pending_of, sent_of}
use Rattle.usb_machine.specs.Parts.{part_of, held_of, keeps}
use Rattle.usb_machine.specs.Legal.{IsLegal, times}
use Rattle.usb_machine.specs.Fresh.{Known, Begins}
use Rattle.usb_machine.specs.HostCalls.{IsUrb}

-- what a given URB tells: its number, its status, and its transfer until it was taken
pub record Told : Type 0 where
  pub urb : ℕ
  pub code : Code
  pub transfer : Option Transfer

-- the first of these URBs
abbrev pub first_of : List ℕ → Option UrbId
first_of [] = None
first_of (u ∷ us) = Some record { 0 = u }

-- one Give more, or none
abbrev pub gives_after : ℕ → Event → ℕ
gives_after n (Give u) = n + 1
gives_after n _ = n

-- how often these entries give back
abbrev pub gives_of : List Entry → ℕ
gives_of m = fold (λ n x. gives_after n x.event) 0 m

-- the hub's token: it has the hub's pass, and the flags that it stores are those that its pass has set
pub record IsWholeHub (g : Machine) (p : Known) (flags : ℕ → Flags) (has_room : Machine → Type 0) : Type 0 where
  pub room : has_room g
  pub number : p.number ≡ HUB
  pub flags_are : (u : ℕ) → IsUrb g u → flags u ≡ (held_of p.mine u).flags

-- the server's token: it has the server's pass, which also runs the handlers, and stores the pending URBs and the
-- number of Gives that its pass's own entries come to
pub record IsWholeServer (g : Machine) (p : Known) (pending : ℕ → List ℕ) (given : ℕ) (has_room : Machine → Type 0) : Type 0 where
  pub room : has_room g
  pub number : p.number ≡ SERVER
  pub pending_are : (e : ℕ) → e < length g.layout.shapes → pending e ≡ pending_of g p.mine e
  pub given_are : given ≡ gives_of p.mine
  pub bottom : g.bottom ≡ SERVER

-- the URB was taken and not given back, by the pass's own entries
abbrev pub IsPending : Machine → Known → ℕ → Type 0
IsPending g p u = 0 < times u (pending_of g p.mine (home_of g u))

-- the mark is the transfer's own end
abbrev pub is_finished : MarkState → Bool
is_finished Clear = false
is_finished (Unlinked w) = false
is_finished (Finished c) = true

-- the transfer of u that was sent has this number
pub record WasSent (h : List Entry) (u number : ℕ) : Type 0 where
  pub sent : Transfer
  pub is : sent_of h u ≡ Some sent
  pub number_is : sent.number ≡ number

-- a pass that was not used
abbrev pub unused : ℕ → Known
unused n = record { number = n; seen = []; mine = [] }

-- so many of them, with the numbers from n on
abbrev pub unused_from : ℕ → ℕ → List Known
unused_from n zero = []
unused_from n (suc k) = unused n ∷ unused_from (n + 1) k

-- these are the passes of a machine: each number below its passes is that of one of them
abbrev pub AreAll : Machine → List Known → Type 0
AreAll g ps = (k : ℕ) → k < g.passes → Any (λ p. p.number ≡ k) ps

-- one of the passes keeps each URB that has a home
abbrev pub OneKeeps : Machine → List Known → Type 0
OneKeeps g ps = Any (λ p. (u : ℕ) → HasHome g u → keeps p.mine u ≡ true) ps

-- a legal history that begins with what each pass has seen, has each pass's own entries as its part, and no others
pub record IsClosed (g : Machine) (h : List Entry) (ps : List Known) : Type 0 where
  pub legal : IsLegal g h
  pub begins : All (λ p. Begins h p.seen) ps
  pub own : All (λ p. part_of h p.number ≡ p.mine) ps
  pub made : All (λ (x : Entry). Any (λ p. p.number ≡ x.pass) ps) h
