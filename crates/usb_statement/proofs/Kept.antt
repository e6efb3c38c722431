-- Bytes that are joined, of which the first ones are kept.
use Rattle.std.proofs.Common.{◌≡◌, ℕ, ◌+◌, ◌-◌, ◌≤◌, List, [], ◌∷◌, ◌++◌, length, take, zero, suc, min, Option, Some, None, refl, sym, ap, ◌∙◌, arith, append_assoc, append-nil}
use Rattle.std.specs.Prelude.{option_and_then}
use Rattle.std.specs.Option.{option_map}
use Rattle.std.proofs.lemmas.List.{take_min, take_all, length-take}
use Rattle.std.proofs.Math.Seq.{take-append-add}
use Rattle.usb_text.specs.Bytes.{data_of}
use Rattle.usb_statement.specs.Kept.{joined_data}

-- as many bytes after others as there is room for
pub take_onto : (n : ℕ) (all bytes : List ℕ) → length all ≤ n → all ++ take (min (n - length all) (length bytes)) bytes ≡ take n (all ++ bytes)
take_onto n all bytes h =
    let e : length all + (n - length all) ≡ n = omega arith in
    ap (λ t. all ++ t) (take_min (n - length all) bytes) ∙ sym (take-append-add all bytes (n - length all)) ∙ ap (λ k. take k (all ++ bytes)) e

take_twice : (n : ℕ) (all bytes : List ℕ) → take n (take n all ++ bytes) ≡ take n (all ++ bytes)
take_twice zero all bytes = refl
take_twice (suc n) [] bytes = refl
take_twice (suc n) (b ∷ all) bytes = ap (λ t. b ∷ t) (take_twice n all bytes)

-- a word's bytes are kept before the others are joined
pub kept_more : (n : ℕ) (all bytes : List ℕ) (others : Option (List ℕ)) →
    option_map (λ x. take n (take n (all ++ bytes) ++ x)) others ≡ option_map (λ x. take n (all ++ x)) (option_and_then (λ x. Some (bytes ++ x)) others)
kept_more n all bytes None = refl
kept_more n all bytes (Some x) = ap Some (take_twice n (all ++ bytes) x ∙ ap (λ t. take n t) (append_assoc all bytes x))

-- what is kept at the end
pub kept_end : (n : ℕ) (all : List ℕ) → length all ≤ n → take n (all ++ []) ≡ all
kept_end n all h = ap (λ t. take n t) (append-nil all) ∙ take_all n all h

-- one word more is joined
pub kept_next : (n : ℕ) (all bytes new text : List ℕ) (texts others : List (List ℕ)) (kept : Option (List ℕ)) →
    option_map (λ x. take n (all ++ x)) (joined_data texts) ≡ kept → texts ≡ text ∷ others → Some bytes ≡ data_of text → new ≡ take n (all ++ bytes)
    → option_map (λ x. take n (new ++ x)) (joined_data others) ≡ kept
kept_next n all bytes new text texts others kept so_far split said grown =
    ap (λ t. option_map (λ x. take n (t ++ x)) (joined_data others)) grown
    ∙ kept_more n all bytes (joined_data others)
    ∙ ap (λ o. option_map (λ x. take n (all ++ x)) (option_and_then (λ b. option_and_then (λ x. Some (b ++ x)) (joined_data others)) o)) said
    ∙ ap (λ ts. option_map (λ x. take n (all ++ x)) (joined_data ts)) (sym split)
    ∙ so_far

-- no word is left
pub kept_last : (n : ℕ) (all : List ℕ) (texts : List (List ℕ)) (kept : Option (List ℕ)) →
    option_map (λ x. take n (all ++ x)) (joined_data texts) ≡ kept → texts ≡ [] → length all ≤ n → Some all ≡ kept
kept_last n all texts kept so_far none short =
    ap Some (sym (kept_end n all short)) ∙ ap (λ ts. option_map (λ x. take n (all ++ x)) (joined_data ts)) (sym none) ∙ so_far

pub short_take : (n : ℕ) (new all : List ℕ) → new ≡ take n all → length new ≤ n
short_take n new all e = let f = ap (λ (t : List ℕ). length t) e in omega (arith, f, length-take n all)
