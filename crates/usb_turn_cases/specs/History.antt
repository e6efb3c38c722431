-- The history of a tally: each entry is a pass's number, what was added, and the total that was found.
use Rattle.std.specs.Prelude.{◌≡◌, ℕ, ◌+◌, ◌%◌, ◌^◌, List, [], ◌∷◌, length}
use Rattle.usb_turn_cases.specs.declared.entry.Made.{Made}
use Rattle.usb_turn_cases.specs.declared.entry.Entry.{Entry}

abbrev pub by_of : Entry → ℕ
by_of e = e.by

abbrev pub entry : ℕ → Made → Entry
entry p m = record { by = p; made = m }

-- the total after these entries, from the total t on
abbrev pub total_after : ℕ → List Entry → ℕ
total_after t [] = t
total_after t (e ∷ es) = total_after ((t + e.made.add) % 2 ^ 64) es

-- each call found the total of the calls before it
abbrev pub IsLegal : ℕ → List Entry → Type 0
IsLegal t [] = Unit {0}
IsLegal t (e ∷ es) = (e.made.found ≡ t) × IsLegal ((t + e.made.add) % 2 ^ 64) es

-- a legal history from 0 on that comes to this total
pub record IsTotalOf (total : ℕ) (history : List Entry) : Type 0 where
  pub legal : IsLegal 0 history
  pub sum : total_after 0 history ≡ total

-- the tally has the total and the number of rows of this history
pub record IsTallyOf (total rows : ℕ) (history : List Entry) : Type 0 where
  pub total_of : IsTotalOf total history
  pub count : rows ≡ length history % 2 ^ 64
