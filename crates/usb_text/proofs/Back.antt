-- What is written is read again.
use Rattle.std.proofs.Common.{◌≡◌, ℕ, ◌+◌, ◌-◌, ◌*◌, ◌<◌, ◌≤◌, ◌^◌, true, cond, List, [], ◌∷◌, ◌++◌, length, get_or, Some, None, zero, suc, refl, ap, ◌∙◌, arith, rules, lit<}
use Rattle.std.specs.Prelude.{fold, option_and_then, Result}
use Rattle.std.specs.Fmt as fmt
use Rattle.std.specs.List.{list_all, flat_map}
use Rattle.std.specs.Char.{is_ascii_digit}
use Rattle.std.specs.Result.{result_ok}
use Rattle.std.proofs.lemmas.Bool.{le-leb}
use Rattle.std.proofs.lemmas.Str.Parse.{IsNumeralModel, numerals_by_fold}
use Rattle.std.proofs.lemmas.Fmt.{digits_decimal, digits_value-decimal, length-decimal-le, decimal_is_IsNumeral}
use Rattle.hex.specs.Hex.{encode_with, encode_upper, upper_digits}
use Rattle.hex.specs.declared.error.FromHexError.{FromHexError}
use Rattle.hex.proofs.HexLemmas.{length-encode_with, decode_of-encode_upper, decode_sized-twice}
use Rattle.usb_text.specs.Lines.{onto_first}
use Rattle.usb_text.specs.Words.{all_words, words, before_comment, is_blank}
use Rattle.usb_text.specs.Kinds.{number_of, is_address, byte_of, address_of, first_byte}
use Rattle.usb_text.specs.Print.{hex_pair}
use Rattle.usb_text.specs.Written.{spaced, HasNoBlank, AreWords, AreBytes}
use Rattle.usb_text.proofs.Known.{address_range}

space-blank : is_blank 32 ≡ true
unfolding is_blank
space-blank = refl

-- a word, a space, and what follows
all_words-space : (b : ℕ) (word rest : List ℕ) → HasNoBlank (b ∷ word) → all_words ((b ∷ word) ++ 32 ∷ rest) ≡ (b ∷ word) ∷ all_words rest
all_words-space b [] rest h = simp (h.0, space-blank)
all_words-space b (c ∷ word) rest h = simp (h.0, h.1.0) (ap (onto_first b) (simp h.1.0 at (all_words-space c word rest h.1)))

-- a word at the end of a line
all_words-end : (b : ℕ) (word : List ℕ) → HasNoBlank (b ∷ word) → all_words (b ∷ word) ≡ (b ∷ word) ∷ []
all_words-end b [] h = simp h.0
all_words-end b (c ∷ word) h = simp (h.0, h.1.0) (ap (onto_first b) (simp h.1.0 at (all_words-end c word h.1)))

all_words-spaced : (texts : List (List ℕ)) → AreWords texts → all_words (spaced texts) ≡ texts
all_words-spaced [] h = refl
all_words-spaced ([] ∷ texts) h = absurd (let l = h.0.some in omega arith)
all_words-spaced ((b ∷ word) ∷ []) h = all_words-end b word h.0.inner
all_words-spaced ((b ∷ word) ∷ next ∷ texts) h = all_words-space b word (spaced (next ∷ texts)) h.0.inner ∙ ap (λ xs. (b ∷ word) ∷ xs) (all_words-spaced (next ∷ texts) h.1)

before_comment-words : (texts : List (List ℕ)) → AreWords texts → before_comment texts ≡ texts
before_comment-words [] h = refl
before_comment-words (word ∷ texts) h = simp h.0.no_comment (ap (λ xs. word ∷ xs) (before_comment-words texts h.1))

pub words-spaced : (texts : List (List ℕ)) → AreWords texts → words (spaced texts) ≡ texts
words-spaced texts h = ap before_comment (all_words-spaced texts h) ∙ before_comment-words texts h

pub own : IsNumeralModel (λ ds. list_all is_ascii_digit ds ≡ true) (λ ds. fold (λ n d. 10 * n + (d - 48)) 0 ds)
own = numerals_by_fold _ (search rules) (λ n ds. fold (λ m d. 10 * m + (d - 48)) n ds) (search rules)

pub number_of-decimal : (n : ℕ) → n < 10 ^ 9 → number_of (fmt.decimal n) ≡ Some n
number_of-decimal n h =
    let small : n < 2 ^ 64 = omega arith in
    let short = length-decimal-le 9 n (lit< tt) h small in
    let some : 1 ≤ length (fmt.decimal n) = (decimal_is_IsNumeral n small).0.0 in
    let digits = digits_decimal own n small in
    let value = digits_value-decimal own n small in
    simp (le-leb 1 (length (fmt.decimal n)) some, le-leb (length (fmt.decimal n)) 9 short, digits) (ap Some value)

bytes_one : (b : ℕ) → b < 256 → (i : ℕ) → get_or (b ∷ []) i 0 < 256
bytes_one b h zero = h
bytes_one b h (suc i) = lit< tt

hex_pair-encode_upper : (b : ℕ) → hex_pair b ≡ encode_upper (b ∷ [])
unfolding encode_with
hex_pair-encode_upper b = refl

pub pairs-encode_upper : (bytes : List ℕ) → flat_map hex_pair bytes ≡ encode_upper bytes
unfolding encode_with
pairs-encode_upper [] = refl
pairs-encode_upper (b ∷ bytes) = ap (λ rest. hex_pair b ++ rest) (pairs-encode_upper bytes)

byte_of-encode_upper : (b : ℕ) → b < 256 → byte_of (encode_upper (b ∷ [])) ≡ Some b
byte_of-encode_upper b h =
    ap (λ (r : Result (List ℕ) FromHexError). option_and_then first_byte (result_ok r))
    (decode_sized-twice (encode_upper (b ∷ [])) 1 (length-encode_with upper_digits (b ∷ [])) ∙ decode_of-encode_upper (b ∷ []) (bytes_one b h))

pub byte_of-hex_pair : (b : ℕ) → b < 256 → byte_of (hex_pair b) ≡ Some b
byte_of-hex_pair b h = ap byte_of (hex_pair-encode_upper b) ∙ byte_of-encode_upper b h

pub address_of-hex_pair : (a : ℕ) → is_address a ≡ true → address_of (hex_pair a) ≡ Some a
address_of-hex_pair a valid =
    let small : a < 256 = omega (arith, address_range a valid) in
    ap (option_and_then (λ b. cond (is_address b) (Some b) None)) (byte_of-hex_pair a small) ∙ ap (λ t. cond t (Some a) None) valid

pub at_most : (bytes : List ℕ) → AreBytes bytes → (i : ℕ) → get_or bytes i 0 < 256
at_most [] h i = lit< tt
at_most (b ∷ bytes) h zero = h 0 0 (omega arith)
at_most (b ∷ bytes) h (suc i) = at_most bytes (λ k d l. h (suc k) d (omega arith)) i
