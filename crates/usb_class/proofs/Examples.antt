-- Examples that the checker computes: what drivers do with transfers, and what they report.
use Rattle.std.proofs.Common.{◌≡◌, ℕ, true, false, List, [], ◌∷◌, refl}
use Rattle.std.specs.Prelude.{Some, None}
use Rattle.usb_types.specs.declared.errno.Errno.TheVariants.{ENOENT}
use Rattle.usb_types.specs.declared.errno.Code.TheVariants.{Zero, Fault}
use Rattle.usb_types.specs.declared.urb.Role.TheVariants.{In, Read0, Read1, Write, Ctl}
use Rattle.usb_types.specs.declared.urb.Action.TheVariants.{Rest}
use Rattle.usb_machine.specs.declared.transfer.Transfer.{Transfer}
use Rattle.usb_machine.specs.Completion.{Completion}
use Rattle.usb_bind.specs.declared.row.Driver.TheVariants.{Keyboard, Acm, Printer}
use Rattle.usb_bind.specs.declared.bound.Bound.{Bound}
use Rattle.usb_hid.specs.Keys.{modifiers_after, codes_after, key_events}
use Rattle.usb_hid.specs.declared.event.Event.TheVariants.{Down, Led}
use Rattle.usb_class.specs.declared.class_core.Told.TheVariants.{Keys, Serial, Jobs}
use Rattle.usb_acm.specs.Serial.{serial_events}
use Rattle.usb_acm.specs.declared.event.Event.TheVariants.{Rx}
use Rattle.usb_printer.specs.declared.event.Event.TheVariants.{Id, Job}
use Rattle.usb_class.specs.Origin.{Origin}
use Rattle.usb_class.specs.Roles.{role_in, has_number}
use Rattle.usb_scene.specs.declared.operation.InterfaceOp.TheVariants as op
use Rattle.usb_class.specs.InterfaceOps.{setup_for, payload_for}
use Rattle.usb_class.specs.Handler.{action_of, window_by}
use Rattle.usb_class.specs.Told.{told_of}

abbrev no_origin : Origin
no_origin = record { number = 0; interface = 0; id = [] }

-- a read of eight bytes that all came, and a byte of lights that went
abbrev read : List ℕ → Transfer
read bytes = record { setup = None; buf = bytes; from = 0; len = 8; short_not_ok = false; actual = 8; number = 1 }

abbrev lights : ℕ → Transfer
lights on = record { setup = None; buf = on ∷ []; from = 0; len = 1; short_not_ok = false; actual = 1; number = 2 }

abbrev a : List ℕ
a = 0 ∷ 0 ∷ 0x04 ∷ 0 ∷ 0 ∷ 0 ∷ 0 ∷ 0 ∷ []

abbrev back : List Completion
back = record { role = In; status = Zero; transfer = read a } ∷ record { role = Ctl; status = Zero; transfer = lights 2 } ∷ []

a_keyboard_tells_keys_and_lights : told_of Keyboard no_origin back ≡ Keys (Down 0x04 ∷ Led 2 ∷ [])
unfolding key_events modifiers_after codes_after
a_keyboard_tells_keys_and_lights = refl

-- three bytes that came, two that came with a fault, and the line coding that was set
abbrev came : List Completion
came =
    record { role = Read0; status = Zero; transfer = record (read (0x41 ∷ 0x42 ∷ 0x43 ∷ [])) { actual = 3 } }
    ∷ record { role = Read1; status = Fault ENOENT; transfer = record (read (0x44 ∷ 0x45 ∷ [])) { actual = 2 } }
    ∷ []

a_port_tells_what_came : told_of Acm no_origin came ≡ Serial (Rx (0x41 ∷ 0x42 ∷ 0x43 ∷ []) ∷ []) 2
unfolding serial_events
a_port_tells_what_came = refl

-- a job of one byte that was printed, after an id of eight bytes that says MFG:A;
abbrev printed : List Completion
printed = record { role = Write; status = Zero; transfer = record { setup = None; buf = 0x41 ∷ []; from = 0; len = 1; short_not_ok = false; actual = 1; number = 6 } } ∷ []

a_printer_tells_its_id_and_jobs : told_of Printer (record { number = 2000000; interface = 0; id = 0 ∷ 8 ∷ 0x4D ∷ 0x46 ∷ 0x47 ∷ 0x3A ∷ 0x41 ∷ 0x3B ∷ [] }) printed
    ≡ Jobs (Id (0x4D ∷ 0x46 ∷ 0x47 ∷ 0x3A ∷ 0x41 ∷ 0x3B ∷ []) ∷ Job 6 1 Zero ∷ [])
a_printer_tells_its_id_and_jobs = refl

a_read_goes_again_with_nothing_moved : window_by (action_of Keyboard In Zero (read a)) (read a) ≡ record (read a) { actual = 0 }
a_read_goes_again_with_nothing_moved = refl

what_rests : (action_of Keyboard In (Fault ENOENT) (read a) ≡ Rest) × (action_of Acm Write Zero (read a) ≡ Rest) × (action_of Printer Write Zero (read a) ≡ Rest)
what_rests = (refl, refl, refl)

-- a keyboard's binding: URB 4 is its read, URB 5 is for control transfers
abbrev keyboard : Bound
keyboard = record { driver = Keyboard; device = 0; interface = 0; other = None; urbs = Some (record { 0 = 4 }) ∷ Some (record { 0 = 5 }) ∷ None ∷ None ∷ None ∷ [] }

what_an_urb_is_for : (role_in 4 keyboard ≡ Some In) × (role_in 5 keyboard ≡ Some Ctl) × (role_in 6 keyboard ≡ None)
what_an_urb_is_for = (refl, refl, refl)

what_has_a_number : (has_number Acm Read0 ≡ true) × (has_number Keyboard Ctl ≡ false) × (has_number Printer Ctl ≡ true)
what_has_a_number = (refl, refl, refl)

-- the calls of a serial port with interface 1: 9,600 bits a second with one stop bit, no parity and eight data bits; DTR and RTS; a break of 300 ms
what_calls_send : (setup_for (op.Coding 9600 0 0 8) 1 ≡ Some (0x21 ∷ 0x20 ∷ 0 ∷ 0 ∷ 1 ∷ 0 ∷ 7 ∷ 0 ∷ []))
    × (payload_for (op.Coding 9600 0 0 8) None ≡ Some (0x80 ∷ 0x25 ∷ 0 ∷ 0 ∷ 0 ∷ 0 ∷ 8 ∷ []))
    × (setup_for (op.Control 3) 1 ≡ Some (0x21 ∷ 0x22 ∷ 3 ∷ 0 ∷ 1 ∷ 0 ∷ 0 ∷ 0 ∷ []))
    × (payload_for (op.Control 3) (Some (3 ∷ [])) ≡ Some [])
    × (setup_for (op.SendBreak 300) 1 ≡ Some (0x21 ∷ 0x23 ∷ 0x2C ∷ 1 ∷ 1 ∷ 0 ∷ 0 ∷ 0 ∷ []))
what_calls_send = (refl, refl, refl, refl, refl)
