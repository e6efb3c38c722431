-- The lines of a text that have words.
use Rattle.std.specs.Prelude.{ℕ, ◌+◌, List, [], ◌∷◌, ◌++◌, Option, Some, None, Result, Ok, Err}
use Rattle.usb_text.specs.Lines.{raw_lines, without_return}
use Rattle.usb_scene.specs.declared.lines.Line.{Line}
use Rattle.usb_scene.specs.declared.cause.Cause.{Cause}
use Rattle.usb_scene.specs.declared.cause.Cause.TheVariants as cause
use Rattle.usb_scene.specs.Read.{line_words}

-- a line with its number, if it has words
abbrev pub numbered : ℕ → List (List ℕ) → List Line
numbered n [] = []
numbered n (word ∷ texts) = record { number = n; words = word ∷ texts } ∷ []

-- lines in front of others
abbrev pub in_front : List Line → Result (List Line) (ℕ × Cause) → Result (List Line) (ℕ × Cause)
in_front lines (Ok others) = Ok (lines ++ others)
in_front lines (Err fault) = Err fault

-- line n, of these words, and the lines after it
abbrev pub with_line : ℕ → Option (List (List ℕ)) → Result (List Line) (ℕ × Cause) → Result (List Line) (ℕ × Cause)
with_line n None others = Err (n, cause.Byte)
with_line n (Some texts) others = in_front (numbered n texts) others

-- the lines after line n that have words, or the first line with a byte that may not stand in one
abbrev pub lines_split : ℕ → List (List ℕ) → Result (List Line) (ℕ × Cause)
lines_split n [] = Ok []
lines_split n (text ∷ texts) = with_line (n + 1) (line_words (without_return text)) (lines_split (n + 1) texts)

-- the lines of a text that have words
abbrev pub split_of : List ℕ → Result (List Line) (ℕ × Cause)
split_of bytes = lines_split 0 (raw_lines bytes)

-- line n after others
abbrev pub line_added : List Line → ℕ → Option (List (List ℕ)) → Result (List Line) Cause
line_added lines n None = Err cause.Byte
line_added lines n (Some texts) = Ok (lines ++ numbered n texts)
