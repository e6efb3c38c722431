-- The options of an URB, in any order.
use Rattle.std.specs.Prelude.{ℕ, if◌then◌else◌, List, [], ◌∷◌, Option, Some, None, codes}
use Rattle.std.specs.Str.{bytes_eq}
use Rattle.usb_text.specs.Kinds.{number_of}
use Rattle.usb_statement.specs.Chain.{◌>>=◌}
use Rattle.usb_statement.specs.declared.options.UrbOption.{UrbOption}
use Rattle.usb_statement.specs.declared.options.UrbOption.TheVariants.{Len, Again, Short}

-- an option that has a number
abbrev pub number_option : List ℕ → Option ℕ → Option UrbOption
number_option text None = None
number_option text (Some n) =
    if bytes_eq text (codes "len") then Some (Len n)
    else if bytes_eq text (codes "again") then Some (Again n)
    else None

-- options `len NUM`, `again NUM` and `short`
abbrev pub options_of : List (List ℕ) → Option (List UrbOption)
options_of [] = Some []
options_of (text ∷ []) = if bytes_eq text (codes "short") then Some (Short ∷ []) else None
options_of (text ∷ next ∷ texts) =
    if bytes_eq text (codes "short") then (do
      others ← options_of (next ∷ texts)
      Some (Short ∷ others))
    else (do
      option ← number_option text (number_of next)
      others ← options_of texts
      Some (option ∷ others))
