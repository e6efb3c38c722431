-- What calls on interfaces carry fits into the bytes in which it goes out.
use Rattle.std.proofs.Common.{◌≡◌, ℕ, ◌<◌, ◌≤◌, ◌^◌, true, inl, inr, arith}
use Rattle.std.specs.Prelude.{◌&&◌, nat_le, ◌==◌, slice_index}
use Rattle.std.proofs.lemmas.Bool.{and_parts, or_cases, leb-true, eqb-true}
use Rattle.usb_scene.specs.declared.scene.Call.{Call}
use Rattle.usb_statement.specs.InterfaceCalls.{is_data_bits}
use Rattle.usb_scene.specs.WellFormed.{IsCoding}

pub data_bits_most : (n : ℕ) → is_data_bits n ≡ true → n ≤ 16
data_bits_most n h =
    elim (or_cases (nat_le 5 n && nat_le n 8) (n == 16) h) as (λ _. n ≤ 16) [
      | inl x ↦ let most = leb-true n 8 (and_parts (nat_le 5 n) (nat_le n 8) x).1 in omega arith
      | inr y ↦ let same = eqb-true n 16 y in omega arith
    ]

-- each number of a line coding but the rate is a byte
pub coding_bytes : (c : Call) → IsCoding c → (slice_index c.numbers 1 < 256) × (slice_index c.numbers 2 < 256) × (slice_index c.numbers 3 < 256)
coding_bytes c h =
    let stop = h.stop in
    let parity = h.parity in
    let bits = data_bits_most (slice_index c.numbers 3) h.bits in
    (omega arith, omega arith, omega arith)

-- and the rate is four
pub coding_rate : (c : Call) → IsCoding c → slice_index c.numbers 0 < 2 ^ 32
coding_rate c h = let rate = h.rate in omega arith
