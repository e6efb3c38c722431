-- What an address acknowledged.
use Rattle.std.specs.Prelude.{ℕ, ◌≡◌, ◌-◌, ◌^◌, min, Bool, true, false, List, length, take}
use Rattle.usb_xfer.specs.declared.device.OutReply.{OutReply}
use Rattle.usb_xfer.specs.declared.device.OutReply.TheVariants.{Ack}
use Rattle.usb_device.specs.declared.acked.Acked.{Acked}

-- whether the host hears that its packet was taken
abbrev pub is_taken : OutReply → Bool
is_taken Ack = true
is_taken _ = false

-- the bytes that are kept
abbrev pub kept : Acked → List ℕ
kept acked = take (min acked.count 64) acked.first

-- these bytes were acknowledged: their number, up to 2^64 - 1, and the first 64 are known
pub record IsAcked (acked : Acked) (bytes : List ℕ) : Type 0 where
  pub count : acked.count ≡ min (length bytes) (2 ^ 64 - 1)
  pub first : kept acked ≡ take 64 bytes
