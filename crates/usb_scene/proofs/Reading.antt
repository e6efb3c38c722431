-- One turn of reading a text line by line.
use Rattle.std.proofs.Common.{◌≡◌, ℕ, ◌+◌, List, ◌∷◌, length, Ok, Err, sym, ap, ◌∙◌}
use Rattle.std.proofs.lemmas.List.{nil_from_length}
use Rattle.usb_text.specs.Lines.{raw_lines, without_return}
use Rattle.usb_scene.specs.Read.{Reading, lines_read, plain_read, line_words, then_on, ended, scene_of}
use Rattle.usb_scene.specs.declared.cause.Cause.{Cause}

-- after a good line the reading goes on
pub read_on : (reading next : Reading) (n : ℕ) (rest bytes text behind : List ℕ) → lines_read reading n (raw_lines rest) ≡ scene_of bytes
    → raw_lines rest ≡ text ∷ raw_lines behind → plain_read reading (n + 1) (line_words (without_return text)) ≡ Ok next
    → lines_read next (n + 1) (raw_lines behind) ≡ scene_of bytes
read_on reading next n rest bytes text behind so_far split good =
    sym (ap (then_on (λ r. lines_read r (n + 1) (raw_lines behind)) (n + 1)) good) ∙ ap (lines_read reading n) (sym split) ∙ so_far

-- a bad line is the first one
pub read_bad : (reading : Reading) (n : ℕ) (rest bytes text behind : List ℕ) (c : Cause) → lines_read reading n (raw_lines rest) ≡ scene_of bytes
    → raw_lines rest ≡ text ∷ raw_lines behind → plain_read reading (n + 1) (line_words (without_return text)) ≡ Err c
    → scene_of bytes ≡ Err (n + 1, c)
read_bad reading n rest bytes text behind c so_far split bad =
    sym so_far ∙ ap (lines_read reading n) split ∙ ap (then_on (λ r. lines_read r (n + 1) (raw_lines behind)) (n + 1)) bad

-- what is read at the end
pub read_end : (reading : Reading) (n : ℕ) (rest bytes : List ℕ) → lines_read reading n (raw_lines rest) ≡ scene_of bytes
    → length rest ≡ 0 → scene_of bytes ≡ ended reading n
read_end reading n rest bytes so_far none = sym so_far ∙ ap (λ r. lines_read reading n (raw_lines r)) (nil_from_length rest none)
