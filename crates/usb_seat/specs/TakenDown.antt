-- What taking a host down adds to the hub's entries, and what it claims.
use Rattle.std.specs.Prelude.{ℕ, ◌≡◌, ◌<◌, List, length, get_or, Option, None}
use Rattle.std.specs.List.{range_with_len}
use Rattle.usb_types.specs.declared.errno.Code.{Code}
use Rattle.usb_types.specs.declared.urb.Flag.TheVariants.{Down}
use Rattle.usb_machine.specs.declared.transfer.Transfer.{Transfer}
use Rattle.usb_machine.specs.Calls.{flush_entries}
use Rattle.usb_machine.specs.Fresh.{Known, Grown}
use Rattle.usb_cancel.specs.Flushing.{numbers_of}
use Rattle.usb_cancel.specs.Stops.{ClaimedSince}

-- all URBs below a number were flushed under Down, with these answers, and what rested with each was claimed
pub record TookDown (p q : Known) (urbs : ℕ) : Type 0 where
  pub marks : List Code
  pub rests : List (Option Transfer)
  pub each : (length marks ≡ urbs) × (length rests ≡ urbs)
  pub grown : Grown p q (flush_entries p.number Down (range_with_len 0 urbs) marks (numbers_of rests))
  pub claims : (u : ℕ) → u < urbs → ClaimedSince p.seen q.seen q.number u (get_or rests u None)
