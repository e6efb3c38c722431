-- Tables of codes and names.
use Rattle.std.specs.Prelude.{◌≢◌, ◌<◌, ℕ, ◌==◌, nat_le, Bool, true, not, ◌&&◌, ◌||◌, List, [], ◌∷◌, map, Option, option_map, bytes_eq, find, IsTrue}
use Rattle.std.specs.List.{list_any}
use Rattle.usb_types.specs.declared.table.Row.{Row}

-- a code and its name
pub record Entry : Type 0 where
  pub code : ℕ
  pub name : List ℕ

abbrev pub entry : Row → Entry
entry row = record { code = row.code; name = row.name.now }

-- the entries that rows spell
abbrev pub entries : List Row → List Entry
entries rows = map entry rows

-- two entries, one before the other, whose codes do not rise or whose names are one
abbrev pub clashes : Entry → Entry → Bool
clashes e later = nat_le later.code e.code || bytes_eq e.name later.name

-- codes strictly rise, and names are pairwise different
abbrev pub is_table : List Entry → Bool
is_table [] = true
is_table (e ∷ behind) = not (list_any (clashes e) behind) && is_table behind

abbrev pub IsTable : List Entry → Type 0
IsTable table = IsTrue (is_table table)

-- an entry after another one has a greater code and another name
abbrev pub Follows : Entry → Entry → Type 0
Follows e later = (e.code < later.code) × (e.name ≢ later.name)

-- the name that a table has for a code
abbrev pub name_at : List Entry → ℕ → Option (List ℕ)
name_at table code = option_map (λ (e : Entry). e.name) (find (λ (e : Entry). e.code == code) table)

-- the code that a table has for a name
abbrev pub code_at : List Entry → List ℕ → Option ℕ
code_at table name = option_map (λ (e : Entry). e.code) (find (λ (e : Entry). bytes_eq e.name name) table)
