-- The text of a printer's device id, which begins with its length in two bytes, the high one first (printer class 1.1, section 4.2.1).
use Rattle.std.specs.Prelude.{ℕ, ◌+◌, ◌*◌, ◌&&◌, nat_lt, nat_le, if◌then◌else◌, List, [], ◌∷◌, map, take, drop, length, slice_index}
use Rattle.usb_printer.specs.declared.event.Event.{Event}
use Rattle.usb_printer.specs.declared.event.Event.TheVariants.{Id}

-- the length that a reply says, which counts its own two bytes
abbrev pub said_length : List ℕ → ℕ
said_length reply = 256 * slice_index reply 0 + slice_index reply 1

-- a blank or a visible sign of ASCII stays, and any other byte is a dot
abbrev pub printable : ℕ → ℕ
printable b = if nat_le 0x20 b && nat_le b 0x7E then b else 0x2E

abbrev pub text_or_dash : List ℕ → List ℕ
text_or_dash [] = 0x2D ∷ []
text_or_dash (b ∷ text) = b ∷ text

-- the text ends where its length says, or with the reply
abbrev pub id_text : List ℕ → List ℕ
id_text reply = text_or_dash (map printable (drop 2 (take (said_length reply) reply)))

-- a reply of fewer than two bytes reports nothing
abbrev pub id_events : List ℕ → List Event
id_events reply = if nat_lt (length reply) 2 then [] else Id (id_text reply) ∷ []
