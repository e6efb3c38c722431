-- Words as they are written.
use Rattle.std.specs.Prelude.{ℕ, ◌≡◌, ◌<◌, false, List, [], ◌∷◌, ◌++◌, length, codes}
use Rattle.std.specs.List.{flat_map, All}
use Rattle.usb_text.specs.Words.{is_blank, is_comment}
use Rattle.usb_text.specs.Print.{hex_pair}

-- words with a space between two
abbrev pub spaced : List (List ℕ) → List ℕ
spaced [] = []
spaced (word ∷ []) = word
spaced (word ∷ next ∷ texts) = word ++ 32 ∷ spaced (next ∷ texts)

-- bytes without a blank
abbrev pub HasNoBlank : List ℕ → Type 0
HasNoBlank [] = Unit {0}
HasNoBlank (b ∷ word) = (is_blank b ≡ false) × HasNoBlank word

-- bytes that are a word
pub record IsWord (word : List ℕ) : Type 0 where
  pub some : 0 < length word
  pub inner : HasNoBlank word
  pub no_comment : is_comment word ≡ false

abbrev pub AreWords : List (List ℕ) → Type 0
AreWords [] = Unit {0}
AreWords (word ∷ texts) = IsWord word × AreWords texts

abbrev pub AreBytes : List ℕ → Type 0
AreBytes bytes = All (λ b. b < 256) bytes

-- the word of a packet
abbrev pub packet_text : List ℕ → List ℕ
packet_text bytes = codes "p:" ++ flat_map hex_pair bytes
