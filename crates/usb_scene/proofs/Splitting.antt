-- One turn of splitting a text into lines.
use Rattle.std.proofs.Common.{◌≡◌, ℕ, ◌+◌, List, [], ◌∷◌, ◌++◌, length, Option, Some, None, Result, Ok, Err, refl, sym, ap, ◌∙◌, arith, append_assoc, append-nil}
use Rattle.std.proofs.lemmas.List.{nil_from_length}
use Rattle.usb_text.specs.Lines.{raw_lines, without_return}
use Rattle.usb_scene.specs.declared.lines.Line.{Line}
use Rattle.usb_scene.specs.declared.cause.Cause.{Cause}
use Rattle.usb_scene.specs.declared.cause.Cause.TheVariants as cause
use Rattle.usb_scene.specs.Read.{line_words}
use Rattle.usb_scene.specs.Split.{numbered, in_front, with_line, lines_split, split_of, line_added}

-- a line without words adds nothing
pub numbered_none : (lines : List Line) (n : ℕ) (texts : List (List ℕ)) → length texts ≡ 0 → lines ≡ lines ++ numbered n texts
numbered_none lines n [] h = sym (append-nil lines)
numbered_none lines n (word ∷ texts) h = absurd (omega arith)

pub numbered_some : (lines : List Line) (n : ℕ) (texts : List (List ℕ)) → (length texts ≡ 0 → ⊥) → lines ++ record { number = n; words = texts } ∷ [] ≡ lines ++ numbered n texts
numbered_some lines n [] h = absurd (h refl)
numbered_some lines n (word ∷ texts) h = refl

front_twice : (first next : List Line) (others : Result (List Line) (ℕ × Cause)) → in_front (first ++ next) others ≡ in_front first (in_front next others)
front_twice first next (Ok others) = ap Ok (append_assoc first next others)
front_twice first next (Err fault) = refl

added : (lines next : List Line) (n : ℕ) (o : Option (List (List ℕ))) (others : Result (List Line) (ℕ × Cause)) → line_added lines n o ≡ Ok next
    → in_front next others ≡ in_front lines (with_line n o others)
added lines next n None others h = cc
added lines next n (Some texts) others h =
    let same : lines ++ numbered n texts ≡ next = cc in
    ap (λ (ls : List Line). in_front ls others) (sym same) ∙ front_twice lines (numbered n texts) others

refused : (lines : List Line) (n : ℕ) (c : Cause) (o : Option (List (List ℕ))) (others : Result (List Line) (ℕ × Cause)) → line_added lines n o ≡ Err c
    → in_front lines (with_line n o others) ≡ Err (n, c)
refused lines n c None others h = let why : cause.Byte ≡ c = cc in ap (λ k. Err (n, k)) why
refused lines n c (Some texts) others h = cc

-- after a plain line the splitting goes on
pub split_on : (lines next : List Line) (n : ℕ) (rest bytes text behind : List ℕ) → in_front lines (lines_split n (raw_lines rest)) ≡ split_of bytes
    → raw_lines rest ≡ text ∷ raw_lines behind → line_added lines (n + 1) (line_words (without_return text)) ≡ Ok next
    → in_front next (lines_split (n + 1) (raw_lines behind)) ≡ split_of bytes
split_on lines next n rest bytes text behind so_far split good =
    added lines next (n + 1) (line_words (without_return text)) (lines_split (n + 1) (raw_lines behind)) good
    ∙ ap (λ ts. in_front lines (lines_split n ts)) (sym split) ∙ so_far

-- a bad line is the first one
pub split_bad : (lines : List Line) (n : ℕ) (rest bytes text behind : List ℕ) (c : Cause) → in_front lines (lines_split n (raw_lines rest)) ≡ split_of bytes
    → raw_lines rest ≡ text ∷ raw_lines behind → line_added lines (n + 1) (line_words (without_return text)) ≡ Err c
    → split_of bytes ≡ Err (n + 1, c)
split_bad lines n rest bytes text behind c so_far split bad =
    sym so_far ∙ ap (λ ts. in_front lines (lines_split n ts)) split
    ∙ refused lines (n + 1) c (line_words (without_return text)) (lines_split (n + 1) (raw_lines behind)) bad

-- what is split at the end
pub split_end : (lines : List Line) (n : ℕ) (rest bytes : List ℕ) → in_front lines (lines_split n (raw_lines rest)) ≡ split_of bytes
    → length rest ≡ 0 → split_of bytes ≡ Ok lines
split_end lines n rest bytes so_far none =
    sym so_far ∙ ap (λ r. in_front lines (lines_split n (raw_lines r))) (nil_from_length rest none) ∙ ap Ok (append-nil lines)
