-- An address before any call.
use Rattle.std.specs.Prelude.{ℕ, List, []}
use Rattle.usb_xfer.specs.declared.script.Answers.{Answers}
use Rattle.usb_device.specs.declared.scripted.ScriptedEnd.{ScriptedEnd}
use Rattle.usb_device.specs.Items.{items_at}
use Rattle.usb_device.specs.Places.{IsAfter}
use Rattle.usb_device.specs.Acks.{IsAcked}

-- no item of these lines was used, and nothing was acknowledged
pub record IsFresh (lines : List Answers) (end : ScriptedEnd) : Type 0 where
  pub place : (address : ℕ) → IsAfter end.place address (items_at address lines) 0
  pub acked : IsAcked end.acked []
