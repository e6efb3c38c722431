-- Examples that the checker computes: what the calls of a script do, and the transfers that they send. The values are worked out by
-- hand, from the classes (HID 1.11, CDC PSTN 1.2, printer class 1.1).
use Rattle.std.proofs.Common.{◌≡◌, ℕ, true, List, [], ◌∷◌, length, Option, Some, None, replicate, refl}
use Rattle.usb_types.specs.declared.errno.Errno.TheVariants.{ENOEXEC, EBADR}
use Rattle.usb_types.specs.declared.urb.Role.TheVariants as role
use Rattle.usb_device.specs.Rules.{first_state}
use Rattle.usb_scene.specs.declared.scene.Call.{Call}
use Rattle.usb_scene.specs.declared.scene.Target.{Target}
use Rattle.usb_scene.specs.declared.scene.Target.TheVariants as on
use Rattle.usb_prepare.specs.Enumerated.{enumerated}
use Rattle.usb_prepare.specs.Ends.{attached_as, device_ends, shapes_of}
use Rattle.usb_prepare.specs.Prepared.{probes_of}
use Rattle.usb_prepare.specs.Layout.{homes_of, role_urb}
use Rattle.usb_trace.specs.declared.rows.HostCall.TheVariants as host_call
use Rattle.usb_trace.specs.Plan.{fresh, submit_fault, host_call_of}
use Rattle.usb_trace.proofs.ExampleScenes.{transfer, typing, port, printing, own}

-- a call on this line, by its number in the table of calls
abbrev call : ℕ → ℕ → Target → Option (List ℕ) → Call
call line code target bytes =
    record { line = line; code = code; target = target; second = None; numbers = 0 ∷ 0 ∷ 0 ∷ 0 ∷ []; setup = None; bytes = bytes }

-- The keyboard.

-- `led kbd 0 02` on line 8 is SET_REPORT of one byte to interface 0 (HID 1.11, section 7.2.2)
abbrev led : Target → Call
led target = call 8 23 target (Some (0x02 ∷ []))

lights_are_sent : (host_call_of typing (led (on.Interface 0 0)) ≡ host_call.Submit 1)
    × (fresh typing 1 (led (on.Interface 0 0))
    ≡ record (transfer 8 (0x02 ∷ []) 0 1 0) { setup = Some (0x21 ∷ 0x09 ∷ 0x00 ∷ 0x02 ∷ 0x00 ∷ 0x00 ∷ 0x01 ∷ 0x00 ∷ []) })
unfolding probes_of enumerated attached_as device_ends shapes_of first_state
lights_are_sent = (refl, refl)

-- the packet asks for as many bytes as are sent, so the endpoint takes it
lights_have_no_fault : submit_fault typing 1 (led (on.Interface 0 0)) ≡ None
unfolding homes_of probes_of enumerated attached_as device_ends shapes_of first_state
lights_have_no_fault = refl

-- interface 1 is not there, and a keyboard has no bytes to write: the call does nothing. The same holds of a purpose that it has no URB for
what_a_keyboard_lacks : (host_call_of typing (led (on.Interface 0 1)) ≡ host_call.Absent)
    × (host_call_of typing (call 8 24 (on.Interface 0 0) (Some (0x41 ∷ []))) ≡ host_call.Absent)
    × (host_call_of typing (call 8 3 (on.Role 0 0 role.Read0) None) ≡ host_call.Absent)
    × (host_call_of typing (call 8 3 (on.Role 0 1 role.In) None) ≡ host_call.Absent)
unfolding role_urb probes_of enumerated attached_as device_ends shapes_of first_state
what_a_keyboard_lacks = (refl, refl, refl, refl)

-- the calls on the URB that it has: unlink, kill, poison, unpoison, block and unblock
calls_on_its_read : (host_call_of typing (call 8 2 (on.Role 0 0 role.In) None) ≡ host_call.Unlink 0)
    × (host_call_of typing (call 8 3 (on.Role 0 0 role.In) None) ≡ host_call.Kill 0)
    × (host_call_of typing (call 8 4 (on.Role 0 0 role.In) None) ≡ host_call.Poison 0)
    × (host_call_of typing (call 8 5 (on.Role 0 0 role.In) None) ≡ host_call.Unpoison 0)
    × (host_call_of typing (call 8 6 (on.Role 0 0 role.Ctl) None) ≡ host_call.Block 1)
    × (host_call_of typing (call 8 7 (on.Role 0 0 role.Ctl) None) ≡ host_call.Unblock 1)
unfolding role_urb probes_of enumerated attached_as device_ends shapes_of first_state
calls_on_its_read = (refl, refl, refl, refl, refl, refl)

-- The serial port.

-- `write m 0 414243` sends the bytes as they stand, and `coding m 0 9600 0 0 8` sends SET_LINE_CODING (PSTN 1.2, section 6.3.10):
-- 9,600 bits a second, one stop bit, no parity and eight data bits
abbrev write : Target → Call
write target = call 6 24 target (Some (0x41 ∷ 0x42 ∷ 0x43 ∷ []))

abbrev coding : Call
coding = record (call 7 25 (on.Interface 0 0) None) { numbers = 9600 ∷ 0 ∷ 0 ∷ 8 ∷ [] }

what_a_port_sends : (host_call_of port (write (on.Interface 0 0)) ≡ host_call.Submit 3)
    × (fresh port 3 (write (on.Interface 0 0)) ≡ transfer 6 (0x41 ∷ 0x42 ∷ 0x43 ∷ []) 0 3 0)
    × (host_call_of port coding ≡ host_call.Submit 4)
    × (fresh port 4 coding
    ≡ record (transfer 7 (0x80 ∷ 0x25 ∷ 0x00 ∷ 0x00 ∷ 0x00 ∷ 0x00 ∷ 0x08 ∷ []) 0 7 0) { setup = Some (0x21 ∷ 0x20 ∷ 0x00 ∷ 0x00 ∷ 0x00 ∷ 0x00 ∷ 0x07 ∷ 0x00 ∷ []) })
unfolding probes_of enumerated attached_as device_ends shapes_of first_state
what_a_port_sends = (refl, refl, refl, refl)

-- the port is named by interface 0: the driver has interface 1 too, but a call on it does nothing
the_data_interface_has_no_calls : (host_call_of port (write (on.Interface 0 1)) ≡ host_call.Absent)
    × (host_call_of port (call 6 3 (on.Role 0 1 role.Read1) None) ≡ host_call.Absent)
    × (host_call_of port (call 6 3 (on.Role 0 0 role.Read1) None) ≡ host_call.Kill 2)
unfolding role_urb probes_of enumerated attached_as device_ends shapes_of first_state
the_data_interface_has_no_calls = (refl, refl, refl)

-- The printer.

-- a `print` of 10,000 bytes on line 6 begins with a window of 8,192, in one transfer that has all the bytes
abbrev print : List ℕ → Call
print bytes = call 6 28 (on.Interface 0 0) (Some bytes)

a_job_begins : (bytes : List ℕ) → length bytes ≡ 10000
    → (host_call_of printing (print bytes) ≡ host_call.Submit 0) × (fresh printing 0 (print bytes) ≡ transfer 6 bytes 0 8192 0)
unfolding probes_of enumerated attached_as device_ends shapes_of first_state
a_job_begins bytes e = (refl, rw e refl)

-- `status prn 0` and `softreset prn 0` on lines 7 and 8 are GET_PORT_STATUS, with room for its byte, and SOFT_RESET (printer class 1.1,
-- §4.2.2 and §4.2.3)
what_else_a_printer_is_sent : (host_call_of printing (call 7 29 (on.Interface 0 0) None) ≡ host_call.Submit 1)
    × (fresh printing 1 (call 7 29 (on.Interface 0 0) None)
    ≡ record (transfer 7 (0x00 ∷ []) 0 1 0) { setup = Some (0xA1 ∷ 0x01 ∷ 0x00 ∷ 0x00 ∷ 0x00 ∷ 0x00 ∷ 0x01 ∷ 0x00 ∷ []) })
    × (host_call_of printing (call 8 30 (on.Interface 0 0) None) ≡ host_call.Submit 1)
    × (fresh printing 1 (call 8 30 (on.Interface 0 0) None)
    ≡ record (transfer 8 [] 0 0 0) { setup = Some (0x21 ∷ 0x02 ∷ 0x00 ∷ 0x00 ∷ 0x00 ∷ 0x00 ∷ 0x00 ∷ 0x00 ∷ []) })
unfolding probes_of enumerated attached_as device_ends shapes_of first_state
what_else_a_printer_is_sent = (refl, refl, refl, refl)

-- a printer has no lights, and nothing is printed on interface 1
what_a_printer_lacks : (host_call_of printing (led (on.Interface 0 0)) ≡ host_call.Absent) × (host_call_of printing (call 6 28 (on.Interface 0 1) (Some (0x41 ∷ []))) ≡ host_call.Absent)
unfolding probes_of enumerated attached_as device_ends shapes_of first_state
what_a_printer_lacks = (refl, refl)

-- The raw device.

-- `submit a` on line 9 sends four zeros, and data or a setup packet where it says some
what_a_submit_sends : (fresh own 0 (call 9 1 (on.Urb 0) None) ≡ transfer 9 (0x00 ∷ 0x00 ∷ 0x00 ∷ 0x00 ∷ []) 0 4 0)
    × (fresh own 0 (call 9 1 (on.Urb 0) (Some (0x0A ∷ 0x0B ∷ []))) ≡ transfer 9 (0x0A ∷ 0x0B ∷ []) 0 2 0)
    × (fresh own 0 (call 9 1 (on.Urb 0) (Some [])) ≡ transfer 9 [] 0 0 0)
    × (fresh own 2 (record (call 9 1 (on.Urb 2) None) { setup = Some (0x80 ∷ 0x06 ∷ 0x00 ∷ 0x01 ∷ 0x00 ∷ 0x00 ∷ 0x12 ∷ 0x00 ∷ []) })
    ≡ record (transfer 9 (replicate 18 0) 0 18 0) { setup = Some (0x80 ∷ 0x06 ∷ 0x00 ∷ 0x01 ∷ 0x00 ∷ 0x00 ∷ 0x12 ∷ 0x00 ∷ []); short_not_ok = true })
what_a_submit_sends = (refl, refl, refl, refl)

-- a control endpoint wants a setup packet, which asks for as many bytes as are sent
which_submits_have_a_fault : (submit_fault own 0 (call 9 1 (on.Urb 0) None) ≡ None)
    × (submit_fault own 2 (call 9 1 (on.Urb 2) None) ≡ Some ENOEXEC)
    × (submit_fault own 2 (record (call 9 1 (on.Urb 2) (Some (0x00 ∷ []))) { setup = Some (0x80 ∷ 0x06 ∷ 0x00 ∷ 0x01 ∷ 0x00 ∷ 0x00 ∷ 0x12 ∷ 0x00 ∷ []) }) ≡ Some EBADR)
unfolding homes_of probes_of attached_as device_ends shapes_of
which_submits_have_a_fault = (refl, refl, refl)

-- what the calls do on an URB and on nothing; calls on anchors and devices are not made at this stage
what_calls_do : (host_call_of own (call 9 1 (on.Urb 0) None) ≡ host_call.Submit 0)
    × (host_call_of own (call 9 2 (on.Urb 1) None) ≡ host_call.Unlink 1)
    × (host_call_of own (call 9 3 (on.Urb 2) None) ≡ host_call.Kill 2)
    × (host_call_of own (call 9 8 on.Nothing None) ≡ host_call.Serve)
    × (host_call_of own (call 9 21 on.Nothing None) ≡ host_call.Down)
    × (host_call_of own (call 9 22 on.Nothing None) ≡ host_call.Up)
    × (host_call_of own (call 9 17 (on.Anchor 0) None) ≡ host_call.Other)
what_calls_do = (refl, refl, refl, refl, refl, refl, refl)
