-- What is known of a word of its kind.
use Rattle.std.proofs.Common.{◌≡◌, ℕ, ◌+◌, ◌≤◌, Bool, true, false, cond, eqb, List, [], ◌∷◌, length, suc, lit≤, Some, None, refl, sym, ap, ◌∙◌, arith, inl, inr}
use Rattle.std.specs.Prelude.{nat_le, ◌&&◌}
use Rattle.std.proofs.lemmas.Bool.{and_parts, or_cases, leb-true}
use Rattle.std.proofs.lemmas.Option.{option_and_then_some}
use Rattle.usb_text.specs.Lines.{onto_first, raw_lines}
use Rattle.usb_text.specs.Kinds.{is_address, byte_of, address_of}

-- what an `if` with nothing on one side gives
pub some_if : {X : Type 0} (t : Bool) (x y : X) → cond t (Some x) None ≡ Some y → (t ≡ true) × (x ≡ y)
some_if true x y h = (refl, cc)
some_if false x y h = cc

pub some_unless : {X : Type 0} (t : Bool) (x y : X) → cond t None (Some x) ≡ Some y → (t ≡ false) × (x ≡ y)
some_unless true x y h = cc
some_unless false x y h = (refl, cc)

pub address_range : (a : ℕ) → is_address a ≡ true → a ≤ 143
address_range a h =
    elim (or_cases (nat_le a 15) (nat_le 129 a && nat_le a 143) h) as (λ _. a ≤ 143)
    [ inl x ↦ omega (arith, leb-true a 15 x) | inr y ↦ leb-true a 143 (and_parts (nat_le 129 a) (nat_le a 143) y).1 ]

pub address_of-range : (text : List ℕ) (a : ℕ) → address_of text ≡ Some a → a ≤ 143
address_of-range text a h =
    option_and_then_some _ (byte_of text) a h (λ b e g. let p = some_if (is_address b) b a g in address_range a (ap is_address (sym p.1) ∙ p.0))

length-onto_first : (b : ℕ) (pieces : List (List ℕ)) → length (onto_first b pieces) ≤ length pieces + 1
length-onto_first b [] = lit≤ tt
length-onto_first b (piece ∷ pieces) = omega arith

length-line : (t : Bool) (b n : ℕ) (pieces : List (List ℕ)) → length pieces ≤ n → length (cond t ([] ∷ pieces) (onto_first b pieces)) ≤ suc n
length-line true b n pieces h = omega arith
length-line false b n pieces h = omega (arith, length-onto_first b pieces)

-- a text has no more lines than bytes
pub length-raw_lines : (bytes : List ℕ) → length (raw_lines bytes) ≤ length bytes
length-raw_lines [] = lit≤ tt
length-raw_lines (b ∷ bytes) = length-line (eqb b 10) b (length bytes) (raw_lines bytes) (length-raw_lines bytes)
