-- The words and lines of a report.
use Rattle.std.specs.Prelude.{ℕ, ◌/◌, ◌%◌, List, [], ◌∷◌, ◌++◌, codes, slice_index}
use Rattle.std.specs.List.{flat_map}

-- a byte as two digits, in upper case
abbrev pub hex_pair : ℕ → List ℕ
hex_pair b = slice_index (codes "0123456789ABCDEF") (b / 16) ∷ slice_index (codes "0123456789ABCDEF") (b % 16) ∷ []

-- bytes as a word, which is `-` where there are none
abbrev pub hex_text : List ℕ → List ℕ
hex_text [] = codes "-"
hex_text (b ∷ bytes) = flat_map hex_pair (b ∷ bytes)

-- words with a space between two, and a line feed after the last
abbrev pub line : List (List ℕ) → List ℕ
line [] = codes "\n"
line (word ∷ []) = word ++ codes "\n"
line (word ∷ next ∷ words) = word ++ codes " " ++ line (next ∷ words)
