-- The setup packet of a control transfer, as it is read from a `submit` line.
use Rattle.std.specs.Prelude.{ℕ, if◌then◌else◌, List, [], ◌∷◌, take, drop, Option, None, is_some, codes}
use Rattle.std.specs.Result.{result_ok}
use Rattle.std.specs.Str.{bytes_eq}
use Rattle.hex.specs.Hex.{decode_sized}

-- `setup:` and the eight bytes, as sixteen hexadecimal digits
abbrev pub setup_of : List ℕ → Option (List ℕ)
setup_of text = if bytes_eq (take 6 text) (codes "setup:") then result_ok (decode_sized (drop 6 text) 8) else None

-- the setup packet that the first of these words spells, if it does
abbrev pub setup_first : List (List ℕ) → Option (List ℕ)
setup_first [] = None
setup_first (text ∷ texts) = setup_of text

-- the words after it
abbrev pub behind_setup : List (List ℕ) → List (List ℕ)
behind_setup [] = []
behind_setup (text ∷ texts) = if is_some (setup_of text) then texts else text ∷ texts
