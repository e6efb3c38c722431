-- Examples that the checker computes: the lines of a keyboard, of a serial port and of a printer.
use Rattle.std.proofs.Common.{◌≡◌, [], ◌∷◌, refl}
use Rattle.std.specs.Prelude.{codes}
use Rattle.std.specs.Fmt.{digits}
use Rattle.usb_types.specs.declared.errno.Errno.TheVariants.{ECONNRESET}
use Rattle.usb_types.specs.declared.errno.Code.TheVariants.{Zero, Fault}
use Rattle.usb_types.specs.Rows.{usage_table}
use Rattle.usb_hid.specs.declared.event.Event.TheVariants.{Down, Up, Led}
use Rattle.usb_acm.specs.declared.event.Event.TheVariants.{Rx, State, Note, BadNote, Coding, Tx}
use Rattle.usb_printer.specs.declared.event.Event.TheVariants.{Id, Job, Port}
use Rattle.usb_class.specs.declared.class_core.Told.TheVariants.{Keys, Serial, Jobs}
use Rattle.usb_telling.specs.Jobs.{jobs_text}
use Rattle.usb_telling.specs.Told.{told_text}

-- one of the keys has no name
a_keyboard : told_text (Keys (Down 0x0B ∷ Up 0x0B ∷ Down 0x01 ∷ Led 2 ∷ [])) ≡ codes "down 0B h\nup 0B h\ndown 01 -\nled 02\n"
unfolding usage_table
a_keyboard = refl

-- 9,600 bits a second; the carrier is there; three bytes came; a write ended early; 64 bytes came with a read that failed
a_serial_port : told_text (Serial
    (Coding (0x80 ∷ 0x25 ∷ 0 ∷ 0 ∷ 0 ∷ 0 ∷ 8 ∷ []) ∷ State 0x0003 ∷ Rx (0x41 ∷ 0x42 ∷ 0x43 ∷ []) ∷ Note 0x00 ∷ BadNote ∷ Tx 5 (Fault ECONNRESET) ∷ []) 64)
    ≡ codes "coding 80250000000008\nstate 0003 dcd dsr\nrx 414243\nnote 00\nbadnote\ntx 5 -ECONNRESET\ndropped 64\n"
unfolding digits
a_serial_port = refl

-- bit 15 has no name, and a state may have none at all; a coding of no bytes is a dash, and no dropped byte has a line
names_of_states : told_text (Serial (State 0xC07E ∷ State 0x8000 ∷ State 0 ∷ Coding [] ∷ []) 0)
    ≡ codes "state C07E dsr break ring framing parity overrun\nstate 8000\nstate 0000\ncoding -\n"
names_of_states = refl

-- MFG:A; is its id, and a job of the call on line 6 went whole
a_printer : jobs_text (Id (0x4D ∷ 0x46 ∷ 0x47 ∷ 0x3A ∷ 0x41 ∷ 0x3B ∷ []) ∷ Job 6 8193 Zero ∷ Port 0x18 ∷ []) ≡ codes "id MFG:A;\njob 6 8193 0\nport 18\n"
unfolding digits
a_printer = refl

nothing_is_told : told_text (Jobs []) ≡ []
nothing_is_told = refl
