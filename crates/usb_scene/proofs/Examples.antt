-- Examples that the checker computes: small texts and lines, each with what is reported of it.
use Rattle.std.proofs.Common.{◌≡◌, [], ◌∷◌, Some, None, Err, refl}
use Rattle.std.specs.Prelude.{codes}
use Rattle.usb_text.specs.Lines.{is_plain}
use Rattle.usb_text.specs.Words.{is_blank}
use Rattle.usb_xfer.specs.declared.script.Kind.TheVariants.{Raw, Keyboard, Printer}
use Rattle.usb_xfer.specs.declared.script.What.TheVariants.{Ack, Packet}
use Rattle.usb_statement.specs.declared.statement.Statement.TheVariants as say
use Rattle.usb_statement.specs.declared.interface_call.InterfaceCall.TheVariants as made
use Rattle.usb_scene.specs.declared.cause.Cause.TheVariants as cause
use Rattle.usb_scene.specs.Rules.{SoFar, statement_cause}
use Rattle.usb_scene.specs.Growth.{nothing_said, grown_by}
use Rattle.usb_scene.specs.Read.{scene_of}

no_endpoint : scene_of (codes "scene 1\ndevice k keyboard\nep 81 bulk 8 0") ≡ Err (3, cause.Word)
unfolding is_plain is_blank
no_endpoint = refl

two_descriptors : scene_of (codes "scene 1\ndevice k keyboard\ndesc -\nconfig -\ndesc -") ≡ Err (5, cause.Twice)
unfolding is_plain is_blank
two_descriptors = refl

one_urb : scene_of (codes "scene 1\ndevice k keyboard\nthread t\nblock k.0.in\nunblock k.00.in\nunblock k.0.in") ≡ Err (6, cause.Held)
unfolding is_plain is_blank
one_urb = refl

no_such_urb : scene_of (codes "scene 1\ndevice d raw\nthread t\nkill d.0.in") ≡ Err (4, cause.Name)
unfolding is_plain is_blank
no_such_urb = refl

no_such_interface : scene_of (codes "scene 1\ndevice k keyboard\nthread t\nkill k.256.in") ≡ Err (4, cause.Limit)
unfolding is_plain is_blank
no_such_interface = refl

-- after the line of a keyboard, and that of a printer
abbrev keyboard : SoFar
keyboard = grown_by nothing_said 2 (say.Device (codes "k") Keyboard)

abbrev printer : SoFar
printer = grown_by keyboard 3 (say.Device (codes "p") Printer)

no_packet_at_zero : statement_cause keyboard (say.Answer 0 (record { times = 1; what = Packet [] } ∷ [])) ≡ Some cause.Form
no_packet_at_zero = refl

a_handshake_at_zero : statement_cause keyboard (say.Answer 0 (record { times = 1; what = Ack } ∷ [])) ≡ None
a_handshake_at_zero = refl

a_packet_elsewhere : statement_cause keyboard (say.Answer 129 (record { times = 1; what = Packet [] } ∷ [])) ≡ None
a_packet_elsewhere = refl

two_ports : statement_cause (grown_by printer 4 (say.Port 16)) (say.Port 24) ≡ Some cause.Twice
two_ports = refl

lights_of_a_raw_device : statement_cause (grown_by nothing_said 2 (say.Device (codes "d") Raw)) (say.OnInterface (made.Led 2) (codes "d") 0) ≡ Some cause.Name
lights_of_a_raw_device = refl

lights_of_interface_256 : statement_cause keyboard (say.OnInterface (made.Led 2) (codes "k") 256) ≡ Some cause.Limit
lights_of_interface_256 = refl

lights_of_a_keyboard : statement_cause keyboard (say.OnInterface (made.Led 2) (codes "k") 255) ≡ None
lights_of_a_keyboard = refl

three_stop_bits : statement_cause keyboard (say.OnInterface (made.Coding 9600 3 0 8) (codes "k") 0) ≡ Some cause.Limit
three_stop_bits = refl

a_coding : statement_cause keyboard (say.OnInterface (made.Coding 999999999 2 4 16) (codes "k") 0) ≡ None
a_coding = refl

a_long_break : statement_cause keyboard (say.OnInterface (made.SendBreak 65536) (codes "k") 0) ≡ Some cause.Limit
a_long_break = refl

a_question : statement_cause keyboard (say.OnInterface made.Status (codes "k") 0) ≡ None
a_question = refl

a_port_each : statement_cause (grown_by (grown_by printer 4 (say.Port 16)) 5 (say.Device (codes "q") Printer)) (say.Port 24) ≡ None
a_port_each = refl
