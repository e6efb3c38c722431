-- What is known of the numbers and bytes that words spell.
use Rattle.std.proofs.Common.{◌≡◌, ℕ, ◌<◌, ◌≤◌, ◌^◌, Bool, true, false, cond, eqb, List, [], ◌∷◌, length, take, drop, replicate, Option, Some, None, Ok, Err, refl, sym, ap, ◌∙◌, subst}
use Rattle.std.specs.Prelude.{nat_le, ◌&&◌, codes, option_and_then, Result}
use Rattle.std.specs.List.{list_all}
use Rattle.std.specs.Char.{is_ascii_digit}
use Rattle.std.specs.Result.{result_ok}
use Rattle.std.specs.Str.{bytes_eq}
use Rattle.std.proofs.lemmas.Bool.{and_parts, leb-true}
use Rattle.std.proofs.lemmas.Option.{option_and_then_some, same_Some}
use Rattle.std.proofs.lemmas.List.Elements.{All-nil, All-replicate, All-from_get_or}
use Rattle.std.proofs.lemmas.Str.Parse.{digits_value_short}
use Rattle.hex.specs.Hex.{decode_of, decode_sized, IsBytes}
use Rattle.hex.specs.declared.error.FromHexError.{FromHexError}
use Rattle.hex.proofs.HexLemmas.{decode_of-ok, decode_sized-ok, decode_sized-twice}
use Rattle.usb_text.specs.Kinds.{number_of, byte_of, first_byte, digits_value}
use Rattle.usb_text.specs.Bytes.{cut, equal_bytes, filled_parts, spelled_bytes, data_of, payload_of}
use Rattle.usb_text.specs.Written.{AreBytes}
use Rattle.usb_text.proofs.Known.{some_if}
use Rattle.usb_text.proofs.Back.{own}

pub small_number : (text : List ℕ) (n : ℕ) → number_of text ≡ Some n → n < 10 ^ 9
small_number text n h =
    let p = some_if (nat_le 1 (length text) && nat_le (length text) 9 && list_all is_ascii_digit text) (digits_value text) n h in
    let q = and_parts (nat_le 1 (length text) && nat_le (length text) 9) (list_all is_ascii_digit text) p.0 in
    let few = leb-true (length text) 9 (and_parts (nat_le 1 (length text)) (nat_le (length text) 9) q.0).1 in
    subst (λ m. m < 10 ^ 9) p.1 (digits_value_short own text 9 q.1 few)

decoded_ok : (r : Result (List ℕ) FromHexError) (bytes : List ℕ) → result_ok r ≡ Some bytes → r ≡ Ok bytes
decoded_ok (Ok b) bytes h = ap (λ x. Ok x) (same_Some b bytes h)
decoded_ok (Err e) bytes h = cc

first_small : (bytes : List ℕ) (b : ℕ) → IsBytes bytes → first_byte bytes ≡ Some b → b < 256
first_small [] b h e = cc
first_small (c ∷ bytes) b h e = subst (λ x. x < 256) (same_Some c b e) (h 0)

pub small_byte : (text : List ℕ) (b : ℕ) → byte_of text ≡ Some b → b < 256
small_byte text b h =
    option_and_then_some first_byte (result_ok (decode_sized text 1)) b h (λ bytes e g.
    let ok = decoded_ok (decode_sized text 1) bytes e in
    let len = decode_sized-ok text 1 bytes ok in
    first_small bytes b (decode_of-ok text bytes (sym (decode_sized-twice text 1 len) ∙ ok)).3 g)

are_bytes : (bytes : List ℕ) → IsBytes bytes → AreBytes bytes
are_bytes bytes h = All-from_get_or (λ b. b < 256) bytes 0 (λ i l. h i)

equal_known : (n b : Option ℕ) (bytes : List ℕ) → ((x : ℕ) → b ≡ Some x → x < 256) → equal_bytes n b ≡ Some bytes → AreBytes bytes
equal_known None b bytes f h = cc
equal_known (Some n) None bytes f h = cc
equal_known (Some n) (Some b) bytes f h =
    let p = some_if (nat_le 1 n && nat_le n 16384) (replicate n b) bytes h in
    subst AreBytes p.1 (All-replicate (λ x. x < 256) n b (f b refl))

filled_known : (parts : Option (List ℕ × List ℕ)) (bytes : List ℕ) → filled_parts parts ≡ Some bytes → AreBytes bytes
filled_known None bytes h = cc
filled_known (Some parts) bytes h = equal_known (number_of parts.0) (byte_of parts.1) bytes (small_byte parts.1) h

spelled_cases : (t : Bool) (text bytes : List ℕ) → cond t (filled_parts (cut 58 (drop 5 text))) (result_ok (decode_of text)) ≡ Some bytes → AreBytes bytes
spelled_cases true text bytes h = filled_known (cut 58 (drop 5 text)) bytes h
spelled_cases false text bytes h = are_bytes bytes (decode_of-ok text bytes (decoded_ok (decode_of text) bytes h)).3

pub spelled_are_bytes : (text bytes : List ℕ) → spelled_bytes text ≡ Some bytes → AreBytes bytes
spelled_are_bytes text bytes h = spelled_cases (bytes_eq (take 5 text) (codes "fill:")) text bytes h

data_cases : (t s : Bool) (text bytes : List ℕ) → cond t (Some []) (cond s None (spelled_bytes text)) ≡ Some bytes → AreBytes bytes
data_cases true s text bytes h = subst AreBytes (same_Some [] bytes h) (All-nil (λ b. b < 256))
data_cases false true text bytes h = cc
data_cases false false text bytes h = spelled_are_bytes text bytes h

-- what a word of data spells are bytes
pub data_are_bytes : (text bytes : List ℕ) → data_of text ≡ Some bytes → AreBytes bytes
data_are_bytes text bytes h = data_cases (bytes_eq text (codes "-")) (eqb (length text) 0) text bytes h

short_bytes : (text bytes : List ℕ) → option_and_then (λ b. cond (nat_le (length b) 1024) (Some b) None) (spelled_bytes text) ≡ Some bytes
    → AreBytes bytes × (length bytes ≤ 1024)
short_bytes text bytes h =
    option_and_then_some _ (spelled_bytes text) bytes h (λ b e g.
    let p = some_if (nat_le (length b) 1024) b bytes g in
    (subst AreBytes p.1 (spelled_are_bytes text b e), subst (λ (x : List ℕ). length x ≤ 1024) p.1 (leb-true (length b) 1024 p.0)))

payload_cases : (t : Bool) (text bytes : List ℕ) →
    cond t (option_and_then (λ b. cond (nat_le (length b) 1024) (Some b) None) (spelled_bytes text)) None ≡ Some bytes → AreBytes bytes × (length bytes ≤ 1024)
payload_cases true text bytes h = short_bytes text bytes h
payload_cases false text bytes h = cc

-- a packet has at most 1,024 bytes
pub short_payload : (text bytes : List ℕ) → payload_of text ≡ Some bytes → AreBytes bytes × (length bytes ≤ 1024)
short_payload text bytes h = payload_cases (bytes_eq (take 2 text) (codes "p:")) (drop 2 text) bytes h
