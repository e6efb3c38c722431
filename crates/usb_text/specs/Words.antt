-- The words of a line.
use Rattle.std.specs.Prelude.{ℕ, Bool, true, false, ◌||◌, ◌==◌, if◌then◌else◌, List, [], ◌∷◌}
use Rattle.usb_text.specs.Lines.{onto_first}

-- a space or a tab
unfoldable pub is_blank : ℕ → Bool
is_blank b = b == 32 || b == 9

-- whether a word ends before these bytes
abbrev pub is_word_end : List ℕ → Bool
is_word_end [] = true
is_word_end (b ∷ bytes) = is_blank b

-- words are separated by blanks
abbrev pub all_words : List ℕ → List (List ℕ)
all_words [] = []
all_words (b ∷ bytes) =
    if is_blank b then all_words bytes
    else (if is_word_end bytes then (b ∷ []) ∷ all_words bytes else onto_first b (all_words bytes))

-- a word that begins with `#`
abbrev pub is_comment : List ℕ → Bool
is_comment [] = false
is_comment (b ∷ word) = b == 35

-- the words up to a comment
abbrev pub before_comment : List (List ℕ) → List (List ℕ)
before_comment [] = []
before_comment (word ∷ texts) = if is_comment word then [] else word ∷ before_comment texts

-- the words of a line
abbrev pub words : List ℕ → List (List ℕ)
words line = before_comment (all_words line)
