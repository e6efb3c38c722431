-- The events of a serial port, as lines.
use Rattle.std.specs.Prelude.{ℕ, ◌/◌, ◌%◌, ◌==◌, if◌then◌else◌, List, [], ◌∷◌, ◌++◌, codes, decimal}
use Rattle.std.specs.Int.{bit_at}
use Rattle.std.specs.List.{flat_map}
use Rattle.usb_types.specs.Codes.{code_text}
use Rattle.usb_text.specs.Print.{hex_pair, hex_text, line}
use Rattle.usb_acm.specs.declared.event.Event.{Event}
use Rattle.usb_acm.specs.declared.event.Event.TheVariants.{Rx, State, Note, BadNote, Coding, Tx}

-- a name, where its bit is set
abbrev pub name_in : ℕ → ℕ → List ℕ → List ℕ
name_in bits n name = if bit_at bits n == 1 then codes " " ++ name else []

-- the names of the bits that are set, from the lowest to the highest; the bits above 6 have none (PSTN 1.2 §6.5.4)
abbrev pub names_in : ℕ → List ℕ
names_in bits =
    name_in bits 0 (codes "dcd") ++ name_in bits 1 (codes "dsr") ++ name_in bits 2 (codes "break") ++ name_in bits 3 (codes "ring")
    ++ name_in bits 4 (codes "framing") ++ name_in bits 5 (codes "parity") ++ name_in bits 6 (codes "overrun")

-- the sixteen bits as four digits, the high ones first, and after them the names
abbrev pub state_text : ℕ → List ℕ
state_text bits = hex_pair (bits / 256) ++ hex_pair (bits % 256) ++ names_in bits

-- rx HEX, state HHHH NAMES, note HH, badnote, coding HEX, tx N STATUS
abbrev pub port_text : Event → List ℕ
port_text (Rx bytes) = line (codes "rx" ∷ hex_text bytes ∷ [])
port_text (State bits) = line (codes "state" ∷ state_text bits ∷ [])
port_text (Note request) = line (codes "note" ∷ hex_pair request ∷ [])
port_text BadNote = line (codes "badnote" ∷ [])
port_text (Coding bytes) = line (codes "coding" ∷ hex_text bytes ∷ [])
port_text (Tx actual code) = line (codes "tx" ∷ decimal actual ∷ code_text code ∷ [])

-- dropped N, where N is not 0
abbrev pub dropped_text : ℕ → List ℕ
dropped_text n = if n == 0 then [] else line (codes "dropped" ∷ decimal n ∷ [])

-- the events, and how many bytes were dropped
abbrev pub serial_text : List Event → ℕ → List ℕ
serial_text events dropped = flat_map port_text events ++ dropped_text dropped
