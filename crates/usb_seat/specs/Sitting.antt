-- A thread's seat: a pass of its own, or the hub's token.
use Rattle.std.specs.Prelude.{ℕ, ◌≢◌}
use Rattle.usb_machine.specs.declared.entry.TheConstants.{HUB}
use Rattle.usb_machine.specs.declared.state.Flags.{Flags}
use Rattle.usb_machine.specs.History.{Machine}
use Rattle.usb_machine.specs.Fresh.{Known}
use Rattle.usb_machine.specs.Tokens.{IsWholeHub}
use Rattle.usb_seat.specs.declared.seats.Seat.{Seat}
use Rattle.usb_seat.specs.declared.seats.Seat.TheVariants.{Own, Hub}

module _ {P U : Type 0} where
  -- what is known in a seat
  abbrev pub known_in : (P → Known) → (U → P) → Seat P U → Known
  known_in known own (Own p) = known p
  known_in known own (Hub u) = known (own u)

  -- a seat of this host: its pass is one of the host's, and the hub's just where the token is there, which is whole
  abbrev pub IsSeat : Machine → (P → Type 0) → (P → Known) → (U → P) → (U → ℕ → Flags) → (U → Machine → Type 0) → Seat P U → Type 0
  IsSeat g of known own flags has_room (Own p) = of p × ((known p).number ≢ HUB)
  IsSeat g of known own flags has_room (Hub u) = of (own u) × IsWholeHub g (known (own u)) (flags u) (has_room u)

  -- the seat has a pass of its own
  abbrev pub IsOwn : Seat P U → Type 0
  IsOwn (Own p) = Unit {0}
  IsOwn (Hub u) = ⊥

  -- the seat has the hub's token
  abbrev pub IsHubs : Seat P U → Type 0
  IsHubs (Own p) = ⊥
  IsHubs (Hub u) = Unit {0}
