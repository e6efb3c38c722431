-- Reports of a boot keyboard: eight bytes, which are the modifiers, a reserved one and six codes (HID 1.11, appendix B.1).
use Rattle.std.specs.Prelude.{ℕ, ◌+◌, Bool, ◌==◌, nat_lt, List, [], ◌∷◌, drop, slice_index}
use Rattle.std.specs.List.{list_any, list_all}
use Rattle.std.specs.Int.{bit_at}

abbrev pub modifiers_of : List ℕ → ℕ
modifiers_of report = slice_index report 0

abbrev pub codes_of : List ℕ → List ℕ
codes_of report = drop 2 report

-- more keys are down than codes can name: each code is 01 (HID 1.11, appendix C)
abbrev pub is_roll_over : List ℕ → Bool
is_roll_over codes = list_all (λ c. c == 1) codes

-- the codes 00 to 03 are no key's (HID usage tables, page 07)
abbrev pub is_key : ℕ → Bool
is_key code = nat_lt 3 code

abbrev pub has : List ℕ → ℕ → Bool
has codes code = list_any (λ c. c == code) codes

-- the bits of the modifiers, and the usage of each: E0 is the left control key (HID 1.11, section 8.3)
abbrev pub modifier_bits : List ℕ
modifier_bits = 0 ∷ 1 ∷ 2 ∷ 3 ∷ 4 ∷ 5 ∷ 6 ∷ 7 ∷ []

abbrev pub modifier_key : ℕ → ℕ
modifier_key bit = 0xE0 + bit

abbrev pub is_set : ℕ → ℕ → Bool
is_set modifiers bit = bit_at modifiers bit == 1
