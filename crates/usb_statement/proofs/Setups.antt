-- The word of a setup packet, read and printed.
use Rattle.std.proofs.Common.{◌≡◌, ℕ, ◌<◌, ◌/◌, Bool, true, false, cond, eqb, List, [], ◌∷◌, ◌++◌, take, drop, Option, Some, None, Ok, Err, refl, sym, ap, ◌∙◌, arith}
use Rattle.std.specs.Prelude.{codes, is_some, slice_index, Result}
use Rattle.std.specs.List.{flat_map}
use Rattle.std.specs.Result.{result_ok}
use Rattle.std.specs.Str.{bytes_eq}
use Rattle.std.proofs.lemmas.Bool.{and_left, agree_below_at}
use Rattle.std.proofs.lemmas.List.Elements.{All-head, All-from_get_or}
use Rattle.hex.specs.Hex.{decode_sized, encode_upper, upper_digits}
use Rattle.hex.specs.declared.error.FromHexError.{FromHexError}
use Rattle.hex.proofs.HexLemmas.{length-encode_with, decode_of-ok, decode_of-encode_upper, decode_sized-ok, decode_sized-twice}
use Rattle.usb_text.specs.Print.{hex_pair, hex_text}
use Rattle.usb_text.specs.Written.{AreBytes}
use Rattle.usb_text.proofs.Back.{pairs-encode_upper, at_most}
use Rattle.usb_statement.specs.Setups.{setup_of, setup_first, behind_setup}
use Rattle.usb_statement.specs.Sayable.{IsSetup, IsSent}
use Rattle.usb_statement.specs.Printed.{setup_words, sent_words}

-- eight bytes decode
eight_decoded : (digits : List ℕ) (r : Result (List ℕ) FromHexError) → decode_sized digits 8 ≡ r → IsSetup (result_ok r)
eight_decoded digits (Ok bytes) h =
    let len = decode_sized-ok digits 8 bytes h in
    let known = decode_of-ok digits bytes (sym (decode_sized-twice digits 8 len) ∙ h) in
    let twice = known.2 in
    (All-from_get_or (λ b. b < 256) bytes 0 (λ i l. known.3 i), omega (arith, len, twice))
eight_decoded digits (Err e) h = tt

said_if : (t : Bool) (digits : List ℕ) → IsSetup (cond t (result_ok (decode_sized digits 8)) None)
said_if true digits = eight_decoded digits (decode_sized digits 8) refl
said_if false digits = tt

-- what words spell is a setup packet
pub said_setup : (texts : List (List ℕ)) → IsSetup (setup_first texts)
said_setup [] = tt
said_setup (text ∷ texts) = said_if (bytes_eq (take 6 text) (codes "setup:")) (drop 6 text)

-- what is printed is read again
back_setup : (bytes : List ℕ) → IsSetup (Some bytes) → setup_of (codes "setup:" ++ flat_map hex_pair bytes) ≡ Some bytes
back_setup bytes h =
    let len = length-encode_with upper_digits bytes in
    let size = h.1 in
    ap (λ digits. result_ok (decode_sized digits 8)) (pairs-encode_upper bytes)
    ∙ ap (λ (r : Result (List ℕ) FromHexError). result_ok r) (decode_sized-twice (encode_upper bytes) 8 (omega (arith, len, size)) ∙ decode_of-encode_upper bytes (at_most bytes h.0))

-- no digit is an `s`
digit_is_no_s : (k : ℕ) → k < 16 → eqb (slice_index (codes "0123456789ABCDEF") k) 115 ≡ false
digit_is_no_s k h = agree_below_at (λ i. eqb (slice_index (codes "0123456789ABCDEF") i) 115) (λ i. false) 16 k refl h

no_setup : (bytes : List ℕ) → AreBytes bytes → setup_of (hex_text bytes) ≡ None
no_setup [] h = refl
no_setup (b ∷ bytes) h =
    let fits : b < 256 = All-head (λ x. x < 256) b bytes h in
    let high : b / 16 < 16 = omega arith in
    ap (λ t. cond t (result_ok (decode_sized (drop 6 (flat_map hex_pair (b ∷ bytes))) 8)) None)
    (and_left (eqb (slice_index (codes "0123456789ABCDEF") (b / 16)) 115) _ (digit_is_no_s (b / 16) high))

-- the setup packet that is printed is read first
pub back_first : (setup bytes : Option (List ℕ)) → IsSetup setup → IsSent bytes → setup_first (setup_words setup ++ sent_words bytes) ≡ setup
back_first None None h g = refl
back_first None (Some bytes) h g = no_setup bytes g.0
back_first (Some packet) bytes h g = back_setup packet h

-- and what is sent is after it
pub back_after : (setup bytes : Option (List ℕ)) → IsSetup setup → IsSent bytes → behind_setup (setup_words setup ++ sent_words bytes) ≡ sent_words bytes
back_after None None h g = refl
back_after None (Some bytes) h g = ap (λ (o : Option (List ℕ)). cond (is_some o) [] (hex_text bytes ∷ [])) (no_setup bytes g.0)
back_after (Some packet) bytes h g =
    ap (λ (o : Option (List ℕ)). cond (is_some o) (sent_words bytes) ((codes "setup:" ++ flat_map hex_pair packet) ∷ sent_words bytes)) (back_setup packet h)
