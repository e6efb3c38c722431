-- The kinds of word.
use Rattle.std.specs.Prelude.{ℕ, ◌-◌, ◌+◌, ◌*◌, Bool, ◌||◌, ◌&&◌, ◌==◌, nat_le, if◌then◌else◌, List, [], ◌∷◌, length, Option, Some, None, option_and_then, fold, slice_index}
use Rattle.std.specs.List.{list_all}
use Rattle.std.specs.Char.{is_ascii_digit, is_ascii_lowercase}
use Rattle.std.specs.Result.{result_ok}
use Rattle.hex.specs.Hex.{decode_sized}

-- the value of decimal digits
abbrev pub digits_value : List ℕ → ℕ
digits_value digits = fold (λ n d. 10 * n + (d - 48)) 0 digits

-- NUM: one to nine decimal digits
abbrev pub number_of : List ℕ → Option ℕ
number_of word =
    if nat_le 1 (length word) && nat_le (length word) 9 && list_all is_ascii_digit word then Some (digits_value word) else None

-- a byte that may stand in a name
abbrev pub is_name_byte : ℕ → Bool
is_name_byte b = is_ascii_lowercase b || is_ascii_digit b || b == 95

-- NAME: one to sixteen letters, digits and `_`, a letter first
abbrev pub is_name : List ℕ → Bool
is_name word =
    nat_le 1 (length word) && nat_le (length word) 16 && is_ascii_lowercase (slice_index word 0) && list_all is_name_byte word

-- the first of these bytes
abbrev pub first_byte : List ℕ → Option ℕ
first_byte [] = None
first_byte (b ∷ bytes) = Some b

-- HH: two hexadecimal digits
abbrev pub byte_of : List ℕ → Option ℕ
byte_of word = option_and_then first_byte (result_ok (decode_sized word 1))

-- an endpoint's number below 16, with the top bit for IN, which 0 lacks (USB 2.0 §9.6.6)
abbrev pub is_address : ℕ → Bool
is_address b = nat_le b 15 || (nat_le 129 b && nat_le b 143)

-- ADDR: the address of an endpoint
abbrev pub address_of : List ℕ → Option ℕ
address_of word = option_and_then (λ b. if is_address b then Some b else None) (byte_of word)
