-- A word is cut at the first byte of a kind that does not occur before it.
use Rattle.std.proofs.Common.{◌≡◌, ℕ, ◌+◌, ◌<◌, Bool, true, false, not, cond, eqb, inl, inr, List, [], ◌∷◌, ◌++◌, length, drop, Some, None, refl, ap, ◌∙◌, arith, length-append}
use Rattle.std.specs.Prelude.{nat_lt, nat_le, ◌||◌}
use Rattle.std.specs.List.{prefix_len, list_all}
use Rattle.std.specs.Char.{is_ascii_digit, is_ascii_lowercase}
use Rattle.std.proofs.lemmas.Bool.{and_parts, and_from, or_cases, leb-true, eqb-true, eq-eqb, ne_eqb, lt-ltb}
use Rattle.std.proofs.Math.Seq.{take-append_seam, drop-append-add}
use Rattle.usb_text.specs.Kinds.{is_name_byte}
use Rattle.usb_text.specs.Bytes.{cut, cut_at}

-- no byte of a text is b
abbrev pub lacks : ℕ → List ℕ → Bool
lacks b text = list_all (λ c. not (eqb c b)) text

run : (b : ℕ) (front rest : List ℕ) → lacks b front ≡ true → prefix_len (λ c. not (eqb c b)) (front ++ b ∷ rest) ≡ length front
run b [] rest h = ap (λ t. cond (not t) (1 + prefix_len (λ c. not (eqb c b)) rest) 0) (eq-eqb b b refl)
run b (c ∷ front) rest h =
    let parts = and_parts (not (eqb c b)) (lacks b front) h in
    let more = run b front rest parts.1 in
    ap (λ t. cond t (1 + prefix_len (λ d. not (eqb d b)) (front ++ b ∷ rest)) 0) parts.0 ∙ omega (arith, more)

pub cut-append : (b : ℕ) (front rest : List ℕ) → lacks b front ≡ true → cut b (front ++ b ∷ rest) ≡ Some (front, rest)
cut-append b front rest h =
    let word = front ++ b ∷ rest in
    let within : nat_lt (length front) (length word) ≡ true = lt-ltb (length front) (length word) (omega (arith, length-append front (b ∷ rest))) in
    ap (λ n. cut_at word (cond (nat_lt n (length word)) (Some n) None)) (run b front rest h)
    ∙ ap (λ t. cut_at word (cond t (Some (length front)) None)) within
    ∙ ap (λ x. Some (x, drop (length front + 1) word)) (take-append_seam front (b ∷ rest))
    ∙ ap (λ y. Some (front, y)) (drop-append-add front (b ∷ rest) 1)

-- what holds of each byte holds of fewer
pub list_all-weaker : (p q : ℕ → Bool) → ((c : ℕ) → p c ≡ true → q c ≡ true) → (text : List ℕ) → list_all p text ≡ true → list_all q text ≡ true
list_all-weaker p q f [] h = refl
list_all-weaker p q f (c ∷ text) h =
    let parts = and_parts (p c) (list_all p text) h in
    and_from (q c) (list_all q text) (f c parts.0) (list_all-weaker p q f text parts.1)

other : (c b : ℕ) → (eqb c b ≡ false) → not (eqb c b) ≡ true
other c b e = ap not e

digit_is_no : (b : ℕ) → b < 48 → (c : ℕ) → is_ascii_digit c ≡ true → not (eqb c b) ≡ true
digit_is_no b l c h =
    let parts = and_parts (nat_le 48 c) (nat_le c 57) h in
    let low = leb-true 48 c parts.0 in
    other c b (ne_eqb c b (λ e. omega arith))

-- digits have no sign
pub digits_lack : (b : ℕ) → b < 48 → (text : List ℕ) → list_all is_ascii_digit text ≡ true → lacks b text ≡ true
digits_lack b l text h = list_all-weaker is_ascii_digit (λ c. not (eqb c b)) (digit_is_no b l) text h

name_byte_is_no : (b : ℕ) → b < 48 → (c : ℕ) → is_name_byte c ≡ true → not (eqb c b) ≡ true
name_byte_is_no b l c h =
    elim (or_cases (is_ascii_lowercase c || is_ascii_digit c) (eqb c 95) h) as (λ _. not (eqb c b) ≡ true) [
      | inl x ↦ elim (or_cases (is_ascii_lowercase c) (is_ascii_digit c) x) as (λ _. not (eqb c b) ≡ true) [
        | inl y ↦ (let low = leb-true 97 c (and_parts (nat_le 97 c) (nat_le c 122) y).0 in other c b (ne_eqb c b (λ e. omega arith)))
        | inr y ↦ digit_is_no b l c y
      ]
      | inr x ↦ (let at = eqb-true c 95 x in other c b (ne_eqb c b (λ e. omega arith)))
    ]

-- names have no sign
pub names_lack : (b : ℕ) → b < 48 → (text : List ℕ) → list_all is_name_byte text ≡ true → lacks b text ≡ true
names_lack b l text h = list_all-weaker is_name_byte (λ c. not (eqb c b)) (name_byte_is_no b l) text h
