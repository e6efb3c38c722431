-- Bytes that are written as a word are read again.
use Rattle.std.proofs.Common.{◌≡◌, ℕ, ◌<◌, ◌≤◌, ◌/◌, false, cond, eqb, List, [], ◌∷◌, length, take, drop, Some, None, refl, ap, ◌∙◌, arith}
use Rattle.std.specs.Prelude.{nat_le, codes, option_and_then, slice_index, Result}
use Rattle.std.specs.List.{flat_map}
use Rattle.std.specs.Result.{result_ok}
use Rattle.std.specs.Str.{bytes_eq}
use Rattle.std.proofs.lemmas.Bool.{and_left, le-leb, ne_eqb, agree_below_at}
use Rattle.std.proofs.lemmas.List.Elements.{All-head}
use Rattle.hex.specs.Hex.{decode_of}
use Rattle.hex.specs.declared.error.FromHexError.{FromHexError}
use Rattle.hex.proofs.HexLemmas.{decode_of-encode_upper}
use Rattle.usb_text.specs.Bytes.{cut, filled_parts, spelled_bytes, data_of, payload_of}
use Rattle.usb_text.specs.Print.{hex_pair, hex_text}
use Rattle.usb_text.specs.Written.{AreBytes, packet_text}
use Rattle.usb_text.proofs.Back.{pairs-encode_upper, at_most}

-- the digits have no `f` and no `-`
digit_is_no_f : (k : ℕ) → k < 16 → eqb (slice_index (codes "0123456789ABCDEF") k) 102 ≡ false
digit_is_no_f k h = agree_below_at (λ i. eqb (slice_index (codes "0123456789ABCDEF") i) 102) (λ i. false) 16 k refl h

digit_is_no_dash : (k : ℕ) → k < 16 → eqb (slice_index (codes "0123456789ABCDEF") k) 45 ≡ false
digit_is_no_dash k h = agree_below_at (λ i. eqb (slice_index (codes "0123456789ABCDEF") i) 45) (λ i. false) 16 k refl h

high_digit : (b : ℕ) (bytes : List ℕ) → AreBytes (b ∷ bytes) → b / 16 < 16
high_digit b bytes h = let fits : b < 256 = All-head (λ x. x < 256) b bytes h in omega arith

not_fill : (bytes : List ℕ) → AreBytes bytes → bytes_eq (take 5 (flat_map hex_pair bytes)) (codes "fill:") ≡ false
not_fill [] h = refl
not_fill (b ∷ bytes) h = and_left (eqb (slice_index (codes "0123456789ABCDEF") (b / 16)) 102) _ (digit_is_no_f (b / 16) (high_digit b bytes h))

pub spelled_bytes-pairs : (bytes : List ℕ) → AreBytes bytes → spelled_bytes (flat_map hex_pair bytes) ≡ Some bytes
spelled_bytes-pairs bytes h =
    ap (λ t. cond t (filled_parts (cut 58 (drop 5 (flat_map hex_pair bytes)))) (result_ok (decode_of (flat_map hex_pair bytes)))) (not_fill bytes h)
    ∙ ap (λ digits. result_ok (decode_of digits)) (pairs-encode_upper bytes)
    ∙ ap (λ (r : Result (List ℕ) FromHexError). result_ok r) (decode_of-encode_upper bytes (at_most bytes h))

not_dash : (b : ℕ) (bytes : List ℕ) → AreBytes (b ∷ bytes) → bytes_eq (flat_map hex_pair (b ∷ bytes)) (codes "-") ≡ false
not_dash b bytes h = and_left (eqb (slice_index (codes "0123456789ABCDEF") (b / 16)) 45) _ (digit_is_no_dash (b / 16) (high_digit b bytes h))

pub data_of-hex_text : (bytes : List ℕ) → AreBytes bytes → data_of (hex_text bytes) ≡ Some bytes
data_of-hex_text [] h = refl
data_of-hex_text (b ∷ bytes) h =
    let text = flat_map hex_pair (b ∷ bytes) in
    let some : length text ≡ 0 → ⊥ = λ e. omega arith in
    ap (λ t. cond t (Some []) (cond (eqb (length text) 0) None (spelled_bytes text))) (not_dash b bytes h)
    ∙ ap (λ t. cond t None (spelled_bytes text)) (ne_eqb (length text) 0 some)
    ∙ spelled_bytes-pairs (b ∷ bytes) h

pub payload_of-packet_text : (bytes : List ℕ) → AreBytes bytes → length bytes ≤ 1024 → payload_of (packet_text bytes) ≡ Some bytes
payload_of-packet_text bytes h few =
    ap (λ o. option_and_then (λ bs. cond (nat_le (length bs) 1024) (Some bs) None) o) (spelled_bytes-pairs bytes h)
    ∙ ap (λ t. cond t (Some bytes) None) (le-leb (length bytes) 1024 few)
