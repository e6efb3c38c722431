-- Examples that the checker computes: what a serial port's URBs brought back, and the events of it.
use Rattle.std.proofs.Common.{◌≡◌, ℕ, false, List, [], ◌∷◌, ◌++◌, length, refl, replicate}
use Rattle.std.specs.Prelude.{Option, Some, None}
use Rattle.usb_types.specs.declared.errno.Errno.TheVariants.{ENOENT, EPROTO, EPIPE}
use Rattle.usb_types.specs.declared.errno.Code.TheVariants.{Zero, Fault}
use Rattle.usb_types.specs.declared.urb.Role.TheVariants.{Note as NoteRole, Read0, Read1, Write, Ctl}
use Rattle.usb_types.specs.declared.urb.Action.TheVariants.{Rest, Again}
use Rattle.usb_machine.specs.declared.transfer.Transfer.{Transfer}
use Rattle.usb_ctrl.specs.Setup.{bytes_of}
use Rattle.usb_acm.specs.declared.event.Event.TheVariants.{Rx, State, Note, BadNote, Coding, Tx}
use Rattle.usb_acm.specs.Notifications.{notes_within, behind_within, notes, unfinished}
use Rattle.usb_machine.specs.Completion.{Completion}
use Rattle.usb_acm.specs.Serial.{received, lost, stream_of, notes_more, serial_events}
use Rattle.usb_acm.specs.Acm.{action_of}
use Rattle.usb_acm.specs.Requests.{set_line_coding, set_control_lines, send_break, rate_bytes}

-- a transfer that moved the whole of its window, which is these bytes
abbrev whole : Option (List ℕ) → List ℕ → Transfer
whole setup bytes = record { setup = setup; buf = bytes; from = 0; len = length bytes; short_not_ok = false; actual = length bytes; number = 0 }

abbrev note_with : List ℕ → Completion
note_with bytes = record { role = NoteRole; status = Zero; transfer = whole None bytes }

abbrev note_killed : Completion
note_killed = record { role = NoteRole; status = Fault ENOENT; transfer = whole None [] }

abbrev read0 : List ℕ → Completion
read0 bytes = record { role = Read0; status = Zero; transfer = whole None bytes }

abbrev read1 : List ℕ → Completion
read1 bytes = record { role = Read1; status = Zero; transfer = whole None bytes }

abbrev killed0 : List ℕ → Completion
killed0 bytes = record { role = Read0; status = Fault ENOENT; transfer = whole None bytes }

abbrev killed1 : List ℕ → Completion
killed1 bytes = record { role = Read1; status = Fault ENOENT; transfer = whole None bytes }

abbrev asked : List ℕ → List ℕ → Completion
asked setup bytes = record { role = Ctl; status = Zero; transfer = whole (Some setup) bytes }

-- the head of a notification, and one of the lines that says 0003
abbrev head : ℕ → ℕ → ℕ → List ℕ
head second low high = 0xA1 ∷ second ∷ 0 ∷ 0 ∷ 0 ∷ 0 ∷ low ∷ high ∷ []

abbrev state3 : List ℕ
state3 = head 0x20 2 0 ++ 3 ∷ 0 ∷ []

-- 9600 bits a second, one stop bit, no parity, eight data bits
a_coding_and_a_state : serial_events
    (asked (0x21 ∷ 0x20 ∷ 0 ∷ 0 ∷ 0 ∷ 0 ∷ 7 ∷ 0 ∷ []) (0x80 ∷ 0x25 ∷ 0 ∷ 0 ∷ 0 ∷ 0 ∷ 8 ∷ [])
    ∷ note_with (head 0x20 2 0) ∷ note_with (3 ∷ 0 ∷ []) ∷ note_killed ∷ killed0 [] ∷ killed1 [] ∷ [])
    ≡ Coding (0x80 ∷ 0x25 ∷ 0 ∷ 0 ∷ 0 ∷ 0 ∷ 8 ∷ []) ∷ State 3 ∷ []
unfolding serial_events stream_of notes_more notes notes_within
a_coding_and_a_state = refl

-- a read is killed with 64 bytes, and the other one gets three
abbrev killed_with_64 : List Completion
killed_with_64 = killed0 (replicate 64 0x55) ∷ read1 (0x41 ∷ 0x42 ∷ 0x43 ∷ []) ∷ note_killed ∷ killed1 [] ∷ []

bytes_of_a_killed_read_are_dropped : (serial_events killed_with_64 ≡ Rx (0x41 ∷ 0x42 ∷ 0x43 ∷ []) ∷ []) × (received killed_with_64 ≡ 0x41 ∷ 0x42 ∷ 0x43 ∷ []) × (lost killed_with_64 ≡ 64)
unfolding serial_events stream_of notes_more notes notes_within
bytes_of_a_killed_read_are_dropped = (refl, refl, refl)

-- two notifications in one packet, the second of which ends in the next one
two_in_a_row : serial_events (note_with (state3 ++ 0xA1 ∷ 0 ∷ 1 ∷ []) ∷ read0 (7 ∷ []) ∷ note_with (0 ∷ 0 ∷ 0 ∷ 0 ∷ 0 ∷ []) ∷ []) ≡ State 3 ∷ Rx (7 ∷ []) ∷ Note 0 ∷ []
unfolding serial_events stream_of notes_more notes notes_within
two_in_a_row = refl

-- 64 bytes of data are taken, and of 65 only the eight bytes before them are dropped
sixty_four_are_taken : serial_events (note_with (head 0x20 64 0) ∷ note_with (replicate 64 0) ∷ note_with state3 ∷ []) ≡ Note 0x20 ∷ State 3 ∷ []
unfolding serial_events stream_of notes_more notes notes_within
sixty_four_are_taken = refl

the_parse_goes_on_behind_a_bad_one : serial_events (note_with (head 0x20 65 0 ++ state3) ∷ note_with (head 0x20 0 1) ∷ note_with state3 ∷ []) ≡ BadNote ∷ State 3 ∷ BadNote ∷ State 3 ∷ []
unfolding serial_events stream_of notes_more notes notes_within
the_parse_goes_on_behind_a_bad_one = refl

a_fault_empties_what_is_gathered : serial_events (note_with (head 0x20 2 0) ∷ note_killed ∷ note_with (3 ∷ 0 ∷ []) ∷ []) ≡ []
unfolding serial_events stream_of notes_more notes notes_within
a_fault_empties_what_is_gathered = refl

-- other lengths and other first bytes are no states
what_is_no_state : notes (head 0x20 1 0 ++ 3 ∷ 0x21 ∷ 0x20 ∷ 0 ∷ 0 ∷ 0 ∷ 0 ∷ 2 ∷ 0 ∷ 3 ∷ 0 ∷ []) ≡ Note 0x20 ∷ Note 0x20 ∷ []
unfolding notes notes_within
what_is_no_state = refl

the_low_byte_of_a_state_is_first : notes (head 0x20 2 0 ++ 0x44 ∷ 1 ∷ []) ≡ State 0x0144 ∷ []
unfolding notes notes_within
the_low_byte_of_a_state_is_first = refl

what_is_left : unfinished (state3 ++ 0xA1 ∷ 0x20 ∷ []) ≡ 0xA1 ∷ 0x20 ∷ []
unfolding unfinished behind_within
what_is_left = refl

-- other requests, a device's own reply and an empty read report nothing; a write reports what it moved
what_tells_nothing : serial_events (asked (0x21 ∷ 0x22 ∷ 3 ∷ 0 ∷ 0 ∷ 0 ∷ 0 ∷ 0 ∷ []) [] ∷ asked (0xA1 ∷ 0x20 ∷ 0 ∷ 0 ∷ 0 ∷ 0 ∷ 7 ∷ 0 ∷ []) (1 ∷ []) ∷ read0 [] ∷ [])
    ≡ []
unfolding serial_events stream_of notes_more notes notes_within
what_tells_nothing = refl

a_write_tells_its_length : serial_events (record { role = Write; status = Fault EPIPE; transfer = whole None (1 ∷ 2 ∷ []) } ∷ []) ≡ Tx 2 (Fault EPIPE) ∷ []
unfolding serial_events stream_of notes_more notes notes_within
a_write_tells_its_length = refl

-- a transfer that moved two bytes of a window of four
abbrev moved_two : Transfer
moved_two = record { setup = None; buf = 9 ∷ 8 ∷ 7 ∷ 6 ∷ 5 ∷ []; from = 1; len = 4; short_not_ok = false; actual = 2; number = 0 }

the_window_is_read : serial_events (record { role = Read0; status = Zero; transfer = moved_two } ∷ []) ≡ Rx (8 ∷ 7 ∷ []) ∷ []
unfolding serial_events stream_of notes_more notes notes_within
the_window_is_read = refl

what_becomes_of_a_transfer : (action_of NoteRole Zero moved_two ≡ Again 0 5) × (action_of Read1 (Fault EPROTO) moved_two ≡ Again 0 5) × (action_of Read0 (Fault ENOENT) moved_two ≡ Rest) × (action_of Write Zero moved_two ≡ Rest) × (action_of Ctl Zero moved_two ≡ Rest)
what_becomes_of_a_transfer = (refl, refl, refl, refl, refl)

what_is_asked : (bytes_of (set_line_coding 3) ≡ 0x21 ∷ 0x20 ∷ 0 ∷ 0 ∷ 3 ∷ 0 ∷ 7 ∷ 0 ∷ [])
    × (bytes_of (set_control_lines 3 1) ≡ 0x21 ∷ 0x22 ∷ 1 ∷ 0 ∷ 3 ∷ 0 ∷ 0 ∷ 0 ∷ [])
    × (bytes_of (send_break 3 0x1234) ≡ 0x21 ∷ 0x23 ∷ 0x34 ∷ 0x12 ∷ 3 ∷ 0 ∷ 0 ∷ 0 ∷ [])
    × (rate_bytes 9600 ≡ 0x80 ∷ 0x25 ∷ 0 ∷ 0 ∷ [])
what_is_asked = (refl, refl, refl, refl)
