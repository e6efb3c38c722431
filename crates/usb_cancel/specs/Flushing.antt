-- The entries of a shutdown of some URBs.
use Rattle.std.specs.Prelude.{◌≡◌, ℕ, ◌⊎◌, true, false, List, [], ◌∷◌, map, length, Option}
use Rattle.usb_types.specs.declared.errno.Code.{Code}
use Rattle.usb_types.specs.declared.urb.UrbId.{UrbId}
use Rattle.usb_types.specs.declared.urb.Flag.{Flag as FlagName}
use Rattle.usb_types.specs.declared.urb.Why.{Why}
use Rattle.usb_machine.specs.declared.event.Event.TheVariants.{Flag}
use Rattle.usb_machine.specs.declared.transfer.Transfer.{Transfer}
use Rattle.usb_machine.specs.declared.entry.Entry.{Entry}
use Rattle.usb_machine.specs.State.{has_flag}
use Rattle.usb_machine.specs.Parts.{held_of, holds_any, keeps}
use Rattle.usb_machine.specs.Calls.{plain_entry, marks_of}
use Rattle.usb_machine.specs.Fresh.{Known, Grown}
use Rattle.usb_machine.specs.HostCalls.{number_of}

-- the URBs' numbers
abbrev pub ids : List UrbId → List ℕ
ids us = map (λ u. u.0) us

-- v is one of these
abbrev pub Has : List ℕ → ℕ → Type 0
Has [] v = ⊥
Has (u ∷ us) v = (u ≡ v) ⊎ Has us v

-- none of them comes twice
abbrev pub AreApart : List ℕ → Type 0
AreApart [] = Unit {0}
AreApart (u ∷ us) = (Has us u → ⊥) × AreApart us

-- a Flag of each
abbrev pub flags_of : ℕ → FlagName → List ℕ → List Entry
flags_of n f us = map (λ u. plain_entry n (Flag record { 0 = u } f)) us

-- the pass with these entries has set the flag on each of them
abbrev pub AreFlagged : FlagName → List Entry → List ℕ → Type 0
AreFlagged f m us = (v : ℕ) → Has us v → has_flag f (held_of m v).flags ≡ true

-- it has set it on none of them
abbrev pub AreUnflagged : FlagName → List Entry → List ℕ → Type 0
AreUnflagged f m us = (v : ℕ) → Has us v → has_flag f (held_of m v).flags ≡ false

-- the pass holds something against each of them
abbrev pub AreHeld : List Entry → List ℕ → Type 0
AreHeld m us = (v : ℕ) → Has us v → holds_any (held_of m v) ≡ true

-- the pass keeps each of them quiet
abbrev pub AreKept : List Entry → List ℕ → Type 0
AreKept m us = (v : ℕ) → Has us v → keeps m v ≡ true

-- the Marks of all were added with this reason, and with some answers
pub record Marked (why : Why) (p q : Known) (us : List ℕ) : Type 0 where
  pub answers : List Code
  pub each : length answers ≡ length us
  pub grown : Grown p q (marks_of p.number why us answers)

-- the numbers of what was claimed
abbrev pub numbers_of : List (Option Transfer) → List (Option ℕ)
numbers_of rests = map number_of rests
