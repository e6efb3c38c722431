-- What a scripted device does with a call.
use Rattle.std.specs.Prelude.{ℕ, ◌≡◌, ◌≢◌, ◌<◌, ◌≤◌, ◌⊎◌, true, List, [], ◌∷◌, ◌++◌}
use Rattle.usb_xfer.specs.Replies.{Reply, Question}
use Rattle.usb_xfer.specs.declared.script.DeviceScript.{DeviceScript}
use Rattle.usb_device.specs.declared.scripted.Scripted.{Scripted}
use Rattle.usb_device.specs.Left.{items_left, is_spent}
use Rattle.usb_device.specs.Counts.{one_more}
use Rattle.usb_device.specs.Device.{Call, reply_to, Stands}

abbrev pub call_of : ℕ → Question → Call
call_of address question = record { address = address; question = question }

-- whatever script it has and whatever it heard, it gives the reply that is due, and then has heard this call too; the items
-- left never rise, and fall where an address other than 00 gives a reply that only an item gives
pub record Replied (old : Scripted) (address : ℕ) (question : Question) (r : Reply) (new : Scripted) : Type 0 where
  pub due : (script : DeviceScript) (calls : List Call) → Stands old script calls → r ≡ reply_to script calls (call_of address question)
  pub heard : (script : DeviceScript) (calls : List Call) → Stands old script calls → Stands new script (calls ++ call_of address question ∷ [])
  pub left : items_left new ≤ items_left old
  pub spent : address ≢ 0 → is_spent address r ≡ true → items_left new < items_left old
  pub rises : old.used ≤ new.used
  pub count : (new.used ≡ old.used) ⊎ (new.used ≡ one_more old.used)
  pub counted : address ≢ 0 → is_spent address r ≡ true → new.used ≡ one_more old.used
