-- Examples that the checker computes: what keyboards said, and the events of it.
use Rattle.std.proofs.Common.{◌≡◌, ℕ, true, false, List, [], ◌∷◌, ◌++◌, length, refl}
use Rattle.usb_types.specs.declared.errno.Errno.TheVariants.{ENOENT, EPROTO}
use Rattle.usb_types.specs.declared.errno.Code.TheVariants.{Zero, Fault}
use Rattle.usb_types.specs.declared.urb.Role.TheVariants.{In, Ctl}
use Rattle.usb_types.specs.declared.urb.Action.TheVariants.{Rest, Again}
use Rattle.usb_machine.specs.declared.transfer.Transfer.{Transfer}
use Rattle.usb_ctrl.specs.Setup.{bytes_of}
use Rattle.usb_hid.specs.declared.event.Event.TheVariants.{Down, Up, Led}
use Rattle.usb_machine.specs.Completion.{Completion}
use Rattle.usb_hid.specs.Keys.{modifiers_after, codes_after, key_events}
use Rattle.usb_hid.specs.Keyboard.{action_of}
use Rattle.usb_hid.specs.Down.{is_down, keys_after}
use Rattle.usb_hid.specs.Requests.{set_report}
use Rattle.std.specs.Prelude.{None}

-- a transfer that moved the whole of its window, which is these bytes
abbrev whole : List ℕ → Transfer
whole bytes = record { setup = None; buf = bytes; from = 0; len = length bytes; short_not_ok = false; actual = length bytes; number = 0 }

-- a read that succeeded, one that failed, and lights that were sent
abbrev read : List ℕ → Completion
read bytes = record { role = In; status = Zero; transfer = whole bytes }

abbrev killed : List ℕ → Completion
killed bytes = record { role = In; status = Fault ENOENT; transfer = whole bytes }

abbrev lit : List ℕ → Completion
lit bytes = record { role = Ctl; status = Zero; transfer = whole bytes }

abbrev nothing : List ℕ
nothing = 0 ∷ 0 ∷ 0 ∷ 0 ∷ 0 ∷ 0 ∷ 0 ∷ 0 ∷ []

-- the key a, alone and with a left shift
abbrev a : List ℕ
a = 0 ∷ 0 ∷ 0x04 ∷ 0 ∷ 0 ∷ 0 ∷ 0 ∷ 0 ∷ []

abbrev shift_a : List ℕ
shift_a = 0x02 ∷ 0 ∷ 0x04 ∷ 0 ∷ 0 ∷ 0 ∷ 0 ∷ 0 ∷ []

abbrev rolled : List ℕ
rolled = 0 ∷ 0 ∷ 1 ∷ 1 ∷ 1 ∷ 1 ∷ 1 ∷ 1 ∷ []

a_key_is_typed : key_events (read a ∷ read nothing ∷ []) ≡ Down 0x04 ∷ Up 0x04 ∷ []
unfolding key_events modifiers_after codes_after
a_key_is_typed = refl

codes_stay_at_a_roll_over : key_events (read a ∷ read rolled ∷ read shift_a ∷ []) ≡ Down 0x04 ∷ Down 0xE1 ∷ []
unfolding key_events modifiers_after codes_after
codes_stay_at_a_roll_over = refl

-- a roll-over changes the modifiers
modifiers_go_on_at_a_roll_over : key_events (read a ∷ read (0x81 ∷ 0 ∷ 1 ∷ 1 ∷ 1 ∷ 1 ∷ 1 ∷ 1 ∷ []) ∷ []) ≡ Down 0x04 ∷ Down 0xE0 ∷ Down 0xE7 ∷ []
unfolding key_events modifiers_after codes_after
modifiers_go_on_at_a_roll_over = refl

-- five codes 01 and one key are no roll-over: all other keys are up
five_are_no_roll_over : key_events (read a ∷ read (0 ∷ 0 ∷ 1 ∷ 1 ∷ 1 ∷ 1 ∷ 1 ∷ 5 ∷ []) ∷ []) ≡ Down 0x04 ∷ Up 0x04 ∷ Down 0x05 ∷ []
unfolding key_events modifiers_after codes_after
five_are_no_roll_over = refl

-- modifiers come from bit 0 up, and before the keys
modifiers_come_first : key_events (read (0x05 ∷ 0 ∷ 9 ∷ 0 ∷ 0 ∷ 0 ∷ 0 ∷ 0 ∷ []) ∷ read (0x82 ∷ 0 ∷ 0 ∷ 0 ∷ 0 ∷ 0 ∷ 0 ∷ 0 ∷ []) ∷ [])
    ≡ Down 0xE0 ∷ Down 0xE2 ∷ Down 0x09 ∷ Up 0xE0 ∷ Down 0xE1 ∷ Up 0xE2 ∷ Down 0xE7 ∷ Up 0x09 ∷ []
unfolding key_events modifiers_after codes_after
modifiers_come_first = refl

-- releases come in the old report's order, then presses in the new one's
releases_keep_the_old_order : key_events (read (0 ∷ 0 ∷ 7 ∷ 6 ∷ 5 ∷ 0 ∷ 0 ∷ 0 ∷ []) ∷ read (0 ∷ 0 ∷ 9 ∷ 6 ∷ 8 ∷ 0 ∷ 0 ∷ 0 ∷ []) ∷ [])
    ≡ Down 7 ∷ Down 6 ∷ Down 5 ∷ Up 7 ∷ Up 5 ∷ Down 9 ∷ Down 8 ∷ []
unfolding key_events modifiers_after codes_after
releases_keep_the_old_order = refl

a_key_that_stands_twice_counts_once : key_events (read (0 ∷ 0 ∷ 5 ∷ 4 ∷ 5 ∷ 5 ∷ 0 ∷ 4 ∷ []) ∷ read nothing ∷ []) ≡ Down 5 ∷ Down 4 ∷ Up 5 ∷ Up 4 ∷ []
unfolding key_events modifiers_after codes_after
a_key_that_stands_twice_counts_once = refl

-- the reserved byte and the codes 00 to 03 are no keys
no_key_below_four : key_events (read (0 ∷ 0xFF ∷ 1 ∷ 2 ∷ 3 ∷ 0 ∷ 0 ∷ 4 ∷ []) ∷ []) ≡ Down 4 ∷ []
unfolding key_events modifiers_after codes_after
no_key_below_four = refl

-- seven bytes are no report, and the ninth byte is not part of one
lengths_of_reports : key_events (read a ∷ read (0 ∷ 0 ∷ 5 ∷ 0 ∷ 0 ∷ 0 ∷ 0 ∷ []) ∷ read (a ++ 6 ∷ []) ∷ []) ≡ Down 4 ∷ []
unfolding key_events modifiers_after codes_after
lengths_of_reports = refl

a_killed_read_says_nothing : key_events (read a ∷ killed nothing ∷ []) ≡ Down 4 ∷ []
unfolding key_events modifiers_after codes_after
a_killed_read_says_nothing = refl

the_first_byte_is_the_lights : key_events (lit (2 ∷ 9 ∷ []) ∷ lit [] ∷ []) ≡ Led 2 ∷ []
unfolding key_events modifiers_after codes_after
the_first_byte_is_the_lights = refl

keys_that_stand : keys_after (read shift_a ∷ read rolled ∷ []) ≡ 4 ∷ []
unfolding modifiers_after codes_after
keys_that_stand = refl

shift_stands : keys_after (read rolled ∷ read shift_a ∷ []) ≡ 0xE1 ∷ 4 ∷ []
unfolding modifiers_after codes_after
shift_stands = refl

a_key_is_down_until_it_is_up : (is_down 4 (Down 4 ∷ Down 5 ∷ Led 1 ∷ []) ≡ true) × (is_down 4 (Down 4 ∷ Up 4 ∷ Down 5 ∷ []) ≡ false) × (is_down 4 (Down 5 ∷ []) ≡ false)
a_key_is_down_until_it_is_up = (refl, refl, refl)

-- a transfer that moved two bytes of a window of four
abbrev moved_two : Transfer
moved_two = record { setup = None; buf = 9 ∷ 8 ∷ 7 ∷ 6 ∷ 5 ∷ []; from = 1; len = 4; short_not_ok = false; actual = 2; number = 0 }

the_window_is_read : key_events (record { role = Ctl; status = Zero; transfer = moved_two } ∷ []) ≡ Led 8 ∷ []
unfolding key_events modifiers_after codes_after
the_window_is_read = refl

what_becomes_of_a_transfer : (action_of In Zero moved_two ≡ Again 0 5) × (action_of In (Fault EPROTO) moved_two ≡ Again 0 5) × (action_of In (Fault ENOENT) moved_two ≡ Rest) × (action_of Ctl Zero moved_two ≡ Rest)
what_becomes_of_a_transfer = (refl, refl, refl, refl)

lights_are_asked : bytes_of (set_report 3) ≡ 0x21 ∷ 9 ∷ 0 ∷ 2 ∷ 3 ∷ 0 ∷ 1 ∷ 0 ∷ []
lights_are_asked = refl
