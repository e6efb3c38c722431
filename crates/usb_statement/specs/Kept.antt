-- The bytes of words of data, joined.
use Rattle.usb_types.specs.Limits.{most_kept}
use Rattle.std.specs.Prelude.{ℕ, List, [], ◌∷◌, ◌++◌, take, Option, Some, None}
use Rattle.std.specs.Option.{option_map}
use Rattle.usb_text.specs.Bytes.{data_of}
use Rattle.usb_statement.specs.Chain.{◌>>=◌}

-- DATA.., joined
abbrev pub joined_data : List (List ℕ) → Option (List ℕ)
joined_data [] = Some []
joined_data (text ∷ texts) = do
  bytes ← data_of text
  others ← joined_data texts
  Some (bytes ++ others)

-- the bytes of DATA.., of which no more is kept than one above the most that any line may have
abbrev pub kept_data : List (List ℕ) → Option (List ℕ)
kept_data texts = option_map (λ bytes. take most_kept bytes) (joined_data texts)

-- the same, where there is at least one word
abbrev pub some_data : List (List ℕ) → Option (List ℕ)
some_data [] = None
some_data (text ∷ texts) = kept_data (text ∷ texts)
