-- Packets whose length is a 32-bit number.
use Rattle.std.specs.Prelude.{◌^◌, Bool, true, ◌&&◌, nat_lt, List, [], ◌∷◌, length}
use Rattle.usb_xfer.specs.Replies.{Reply}
use Rattle.usb_xfer.specs.declared.script.What.TheVariants.{Packet}
use Rattle.usb_xfer.specs.declared.script.Item.{Item}
use Rattle.usb_xfer.specs.declared.script.Answers.{Answers}

abbrev pub is_short : Reply → Bool
is_short (Packet bytes) = nat_lt (length bytes) (2 ^ 32)
is_short _ = true

abbrev pub are_short : List Item → Bool
are_short [] = true
are_short (item ∷ items) = is_short item.what && are_short items

abbrev pub lines_are_short : List Answers → Bool
lines_are_short [] = true
lines_are_short (said ∷ lines) = are_short said.items && lines_are_short lines
