-- Numbers of two bytes, and lists of bytes.
use Rattle.std.proofs.Common.{◌≡◌, ℕ, zero, suc, ◌+◌, ◌*◌, ◌<◌, List, [], ◌∷◌, get_or, arith}
use Rattle.std.specs.List.{AllByRecursion}
use Rattle.usb_desc.specs.Spell.{low, high}
use Rattle.usb_desc.specs.Good.{IsByte}

pub low_word : (a b : ℕ) → a < 256 → low (a + 256 * b) ≡ a
low_word a b h = omega arith

pub high_word : (a b : ℕ) → a < 256 → high (a + 256 * b) ≡ b
high_word a b h = omega arith

pub word_again : (n : ℕ) → low n + 256 * high n ≡ n
word_again n = omega arith

-- each number of a list of bytes is one
pub each_byte : (bytes : List ℕ) → ((i : ℕ) → get_or bytes i 0 < 256) → AllByRecursion IsByte bytes
each_byte [] h = tt
each_byte (b ∷ bytes) h = (h 0, each_byte bytes (λ i. h (suc i)))

pub byte_at : (bytes : List ℕ) → AllByRecursion IsByte bytes → (i : ℕ) → get_or bytes i 0 < 256
byte_at [] h i = omega arith
byte_at (b ∷ bytes) h zero = h.0
byte_at (b ∷ bytes) h (suc i) = byte_at bytes h.1 i
