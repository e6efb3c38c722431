-- A place in the items of an address.
use Rattle.std.specs.Prelude.{ℕ, ◌≡◌, ◌+◌, List, ◌++◌, Option, Some, None}
use Rattle.usb_xfer.specs.Replies.{Reply}
use Rattle.std.specs.Borrow.{Bor}
use Rattle.usb_xfer.specs.declared.script.What.{What}
use Rattle.usb_xfer.specs.declared.script.Item.{Item}
use Rattle.usb_device.specs.declared.place.Place.{Place}
use Rattle.usb_device.specs.Items.{reply_at, items_at}

-- the items that are left, of which the first was used for some calls
abbrev pub left_of : Place → ℕ → List Item
left_of place address = place.items.now ++ items_at address place.lines.now

-- the reply to the call that n more calls come before, with this one after the last item
abbrev pub coming : Reply → Place → ℕ → ℕ → Reply
coming last place address n = reply_at last (left_of place address) (place.used + n)

-- the reply of an item, or else the reply after the last one
abbrev pub next_or : Reply → Option (Bor What) → Reply
next_or last (Some what) = what.now
next_or last None = last

-- so many calls used these items
pub record IsAfter (place : Place) (address : ℕ) (items : List Item) (n : ℕ) : Type 0 where
  pub next : (last : Reply) (k : ℕ) → coming last place address k ≡ reply_at last items (n + k)
