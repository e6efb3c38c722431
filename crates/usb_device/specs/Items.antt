-- The scripted items of a device's addresses, and what they reply, by the number of the calls before.
use Rattle.std.specs.Prelude.{ℕ, ◌-◌, ◌==◌, nat_lt, if◌then◌else◌, List, [], ◌∷◌, ◌++◌}
use Rattle.usb_xfer.specs.Replies.{Reply}
use Rattle.usb_xfer.specs.Direction.{goes_in}
use Rattle.usb_xfer.specs.declared.script.What.TheVariants.{Ack, Nak, Stall}
use Rattle.usb_xfer.specs.declared.script.Item.{Item}
use Rattle.usb_xfer.specs.declared.script.Answers.{Answers}
use Rattle.usb_xfer.specs.declared.script.DeviceScript.{DeviceScript}

-- the items of an address, and the reply after the last of them
pub record Script : Type 0 where
  pub items : List Item
  pub last : Reply

abbrev pub reply_at : Reply → List Item → ℕ → Reply
reply_at last [] n = last
reply_at last (item ∷ items) n = if nat_lt n item.times then item.what else reply_at last items (n - item.times)

-- the reply to the call that n calls came before: an item replies as often as its count says
abbrev pub reply_of : Script → ℕ → Reply
reply_of script n = reply_at script.last script.items n

-- the items of an address, joined in the order of their lines
abbrev pub items_at : ℕ → List Answers → List Item
items_at address [] = []
items_at address (said ∷ others) = (if said.address == address then said.items else []) ++ items_at address others

-- the reply after the last item of an address: 00 has no answer, an IN endpoint nothing to send, and an OUT endpoint takes what comes
abbrev pub last_at : ℕ → Reply
last_at address = if address == 0 then Stall else if goes_in address then Nak else Ack

-- a device's script of an address
abbrev pub script_at : DeviceScript → ℕ → Script
script_at script address = record { items = items_at address script.answers; last = last_at address }
