-- Setup packets: eight bytes, numbers of two bytes with the low one first.
use Rattle.std.specs.Prelude.{ℕ, ◌+◌, ◌*◌, ◌/◌, ◌%◌, ◌<◌, List, [], ◌∷◌, slice_index}
use Rattle.usb_ctrl.specs.declared.setup.Setup.{Setup}

-- two bytes as a number, the low one first
abbrev pub word : ℕ → ℕ → ℕ
word low high = low + 256 * high

abbrev pub low : ℕ → ℕ
low n = n % 256

abbrev pub high : ℕ → ℕ
high n = n / 256

-- the packet that eight bytes are
abbrev pub setup_of : List ℕ → Setup
setup_of b = record {
  kind = slice_index b 0;
  request = slice_index b 1;
  value = word (slice_index b 2) (slice_index b 3);
  index = word (slice_index b 4) (slice_index b 5);
  length = word (slice_index b 6) (slice_index b 7);
}

-- its bytes
abbrev pub bytes_of : Setup → List ℕ
bytes_of s =
    s.kind ∷ s.request ∷ low s.value ∷ high s.value ∷ low s.index ∷ high s.index ∷ low s.length ∷ high s.length ∷ []

abbrev pub IsByte : ℕ → Type 0
IsByte n = n < 256
