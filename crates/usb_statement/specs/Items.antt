-- ITEM: what a device answers, as it is read from an `answer` line.
use Rattle.usb_types.specs.Limits.{most_times}
use Rattle.std.specs.Prelude.{ℕ, ◌==◌, ◌&&◌, ◌||◌, nat_le, if◌then◌else◌, List, [], ◌∷◌, Option, Some, None, codes, Bool, not, true}
use Rattle.std.specs.Option.{option_map}
use Rattle.std.specs.List.{list_all}
use Rattle.std.specs.Str.{bytes_eq}
use Rattle.usb_text.specs.Kinds.{number_of}
use Rattle.usb_text.specs.Bytes.{cut, payload_of}
use Rattle.usb_xfer.specs.Direction.{goes_in}
use Rattle.usb_xfer.specs.declared.script.What.{What}
use Rattle.usb_xfer.specs.declared.script.What.TheVariants.{Ack, Nak, Stall, Error, Packet}
use Rattle.usb_xfer.specs.declared.script.Item.{Item}
use Rattle.usb_statement.specs.Chain.{◌>>=◌}

-- one reply: `ack`, `nak`, `stall`, `error`, or a packet
abbrev pub what_of : List ℕ → Option What
what_of text =
    if bytes_eq text (codes "ack") then Some Ack
    else if bytes_eq text (codes "nak") then Some Nak
    else if bytes_eq text (codes "stall") then Some Stall
    else if bytes_eq text (codes "error") then Some Error
    else option_map (λ bytes. Packet bytes) (payload_of text)

-- from 1 to 4,096 times
abbrev pub times_of : List ℕ → Option ℕ
times_of text = do
  times ← number_of text
  if nat_le 1 times && nat_le times most_times then Some times else None

-- a reply that comes once, or after `NUM*` so many times
abbrev pub item_parts : List ℕ → Option (List ℕ × List ℕ) → Option Item
item_parts text None = option_map (λ what. record { times = 1; what = what }) (what_of text)
item_parts text (Some parts) = do
  times ← times_of parts.0
  what ← what_of parts.1
  Some (record { times = times; what = what })

-- ITEM
abbrev pub item_of : List ℕ → Option Item
item_of text = item_parts text (cut 42 text)

-- ITEM ITEM ..
abbrev pub items_of : List (List ℕ) → Option (List Item)
items_of [] = Some []
items_of (text ∷ texts) = do
  item ← item_of text
  items ← items_of texts
  Some (item ∷ items)

-- an IN endpoint gives packets, an OUT endpoint acknowledges them, and both refuse
abbrev pub is_reply_of : Bool → What → Bool
is_reply_of goes Ack = not goes
is_reply_of goes Nak = true
is_reply_of goes Stall = true
is_reply_of goes Error = true
is_reply_of goes (Packet bytes) = goes

-- at 00 control transfers go both ways, so all replies fit
abbrev pub is_reply_at : ℕ → What → Bool
is_reply_at address what = address == 0 || is_reply_of (goes_in address) what

-- items that the endpoint at an address can give
abbrev pub are_items_of : ℕ → List Item → Bool
are_items_of address items = list_all (λ (item : Item). is_reply_at address item.what) items
