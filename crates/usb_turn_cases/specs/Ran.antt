-- What calls do to the passes that make them.
use Rattle.std.specs.Prelude.{◌≡◌, ℕ, ◌+◌, ◌<◌, false, List, [], ◌∷◌, length, slice_index_or}
use Rattle.usb_turn.specs.Pass.{Pass, Turned}
use Rattle.usb_turn.specs.Shown.{id_of}
use Rattle.usb_turn_cases.specs.History.{IsLegal, by_of}
use Rattle.usb_turn_cases.specs.declared.entry.Entry.{Entry}
use Rattle.usb_turn_cases.specs.declared.shared.SharedTally.{SharedTally}

-- a pass of this tally that has not the turn
abbrev pub IsIdle : SharedTally → Pass Entry → Type 0
IsIdle host p = (p.table ≡ id_of host.turns) × (p.has ≡ false)

-- what the pass has then seen is legal, begins with what it had seen and ends with this entry, which is one more of its
-- own; and its own are its part of what it has seen
pub record Fresh (p q : Pass Entry) (e : Entry) : Type 0 where
  pub legal : IsLegal 0 q.seen
  pub turned : Turned by_of p q (e ∷ [])

-- the pass made so many calls
pub record Ran (times : ℕ) (p q : Pass Entry) : Type 0 where
  pub table : q.table ≡ p.table
  pub number : q.number ≡ p.number
  pub has : q.has ≡ false
  pub made : length q.mine ≡ length p.mine + times

-- each of these passes did
pub record RanAll (times : ℕ) (ps qs : List (Pass Entry)) : Type 0 where
  pub len : length qs ≡ length ps
  pub each : (i : ℕ) (d e : Pass Entry) → i < length ps → Ran times (slice_index_or ps i d) (slice_index_or qs i e)
