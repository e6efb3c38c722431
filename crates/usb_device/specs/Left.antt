-- How many more calls the items of a device are for.
use Rattle.std.specs.Prelude.{ℕ, ◌+◌, ◌-◌, Bool, true, false, List, sum_by}
use Rattle.usb_xfer.specs.Direction.{goes_in}
use Rattle.usb_xfer.specs.Replies.{Reply}
use Rattle.usb_xfer.specs.declared.script.What.TheVariants.{Ack, Error, Packet}
use Rattle.usb_xfer.specs.declared.script.Item.{Item}
use Rattle.usb_xfer.specs.declared.script.Answers.{Answers}
use Rattle.usb_device.specs.declared.place.Place.{Place}
use Rattle.usb_device.specs.declared.scripted.ScriptedEnd.{ScriptedEnd}
use Rattle.usb_device.specs.declared.scripted.Scripted.{Scripted}

-- how many calls these items are for
abbrev pub times_of : List Item → ℕ
times_of items = sum_by (λ (item : Item). item.times) items

-- and the items of these lines
abbrev pub lines_times : List Answers → ℕ
lines_times lines = sum_by (λ (said : Answers). times_of said.items) lines

-- how many more calls the items after a place are for, at most: some lines may be those of another address
abbrev pub place_left : Place → ℕ
place_left place = (times_of place.items.now - place.used) + lines_times place.lines.now

-- how many more calls the items of a device are for, at most
unfoldable pub items_left : Scripted → ℕ
items_left d = sum_by (λ (end : ScriptedEnd). place_left end.place) d.ends.items

-- a reply that no address but 00 gives without an item: an IN endpoint has nothing to acknowledge
abbrev pub is_spent : ℕ → Reply → Bool
is_spent address (Packet bytes) = true
is_spent address Error = true
is_spent address Ack = goes_in address
is_spent address _ = false
