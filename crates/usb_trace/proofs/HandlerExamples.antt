-- Examples that the checker computes: what the handler of an URB does with a transfer that comes back, and what it leaves in a
-- history. The values are worked out by hand, from the classes (HID 1.11, CDC PSTN 1.2, printer class 1.1) and the kernel's drivers.
use Rattle.std.proofs.Common.{◌≡◌, ℕ, true, false, List, [], ◌∷◌, ◌++◌, length, Some, None, replicate, refl}
use Rattle.usb_types.specs.declared.errno.Errno.TheVariants.{EPERM, ENOENT, EBUSY, EPIPE, EPROTO, EOVERFLOW, ECONNRESET, ESHUTDOWN}
use Rattle.usb_types.specs.declared.errno.Code.{Code}
use Rattle.usb_types.specs.declared.errno.Code.TheVariants.{Zero, Fault}
use Rattle.usb_types.specs.declared.urb.Action.TheVariants as action
use Rattle.usb_types.specs.declared.urb.Role.TheVariants as role
use Rattle.usb_machine.specs.declared.entry.Entry.{Entry}
use Rattle.usb_machine.specs.declared.entry.TheConstants.{SERVER}
use Rattle.usb_machine.specs.declared.event.Event.TheVariants.{Submit, Link, Rest, End}
use Rattle.usb_machine.specs.declared.event.Answer.TheVariants.{Nothing, Code as Status}
use Rattle.usb_machine.specs.declared.transfer.Transfer.{Transfer}
use Rattle.usb_xfer.specs.declared.script.What.TheVariants.{Ack, Nak, Stall, Packet}
use Rattle.usb_xfer.specs.Replies.{Reply}
use Rattle.usb_bind.specs.declared.row.Driver.TheVariants as driver
use Rattle.usb_device.specs.Rules.{first_state}
use Rattle.usb_prepare.specs.Enumerated.{enumerated}
use Rattle.usb_prepare.specs.Ends.{attached_as, device_ends, shapes_of}
use Rattle.usb_prepare.specs.Prepared.{probes_of}
use Rattle.usb_prepare.specs.Layout.{homes_of}
use Rattle.usb_trace.specs.declared.rows.Outcome.{Outcome}
use Rattle.usb_trace.specs.declared.rows.Outcome.TheVariants as outcome
use Rattle.usb_trace.specs.Plan.{owner_of, origin_of, question_at, read_of}
use Rattle.usb_trace.specs.Run.{Giveback, acts, handler_entries, is_out}
use Rattle.usb_trace.proofs.ExampleScenes.{urb, transfer, typing, port, printing, own}

-- what a handler may leave in a history, in the pass of the server, where handlers run: a submit with its answer, the link after one
-- that was accepted, the rest of a transfer, and its end
abbrev submits : ℕ → Transfer → Code → Entry
submits u t answer = record { pass = SERVER; event = Submit (urb u) t.number; answer = Status answer; carried = Some t }

abbrev links : ℕ → Entry
links u = record { pass = SERVER; event = Link (urb u); answer = Nothing; carried = None }

abbrev rests : ℕ → Transfer → Entry
rests u t = record { pass = SERVER; event = Rest (urb u) t.number; answer = Nothing; carried = Some t }

abbrev ends : ℕ → Entry
ends u = record { pass = SERVER; event = End (urb u); answer = Nothing; carried = None }

-- URB u comes back: the transfer as it was sent, what the device replied, the status, and what its handler did
abbrev back : ℕ → Transfer → List Reply → Code → Outcome → Giveback
back u t replies status done = record { urb = u; status = status; finished = true; sent = t; replies = replies; outcome = done }

-- The keyboard. Its driver has the URB for reports, of eight bytes.

the_keyboard_has_its_read : owner_of typing 0 ≡ Some (record { place = 0; driver = driver.Keyboard; role = role.In; size = Some 8; ctl = Some (urb 1) })
unfolding owner_of probes_of enumerated attached_as device_ends shapes_of first_state
the_keyboard_has_its_read = refl

-- its read has the first number of the drivers' own, and eight bytes
abbrev key_read : List ℕ → ℕ → Transfer
key_read buf actual = transfer 2000000 buf 0 8 actual

the_keyboards_read : read_of typing 0 ≡ Some (key_read (replicate 8 0) 0)
unfolding owner_of probes_of enumerated attached_as device_ends shapes_of first_state
the_keyboards_read = refl

-- a report: shift is down, and the key h
abbrev big_h : List ℕ
big_h = 0x02 ∷ 0x00 ∷ 0x0B ∷ 0x00 ∷ 0x00 ∷ 0x00 ∷ 0x00 ∷ 0x00 ∷ []

-- a report came, so the read goes on with its whole buffer
a_read_goes_on : acts typing [] 0 Zero (key_read big_h 8) ≡ action.Again 0 8
unfolding owner_of question_at probes_of enumerated attached_as device_ends shapes_of first_state
a_read_goes_on = refl

-- the buffer is the one that came back, of which nothing is moved yet
it_is_submitted_again : handler_entries typing (back 0 (key_read (replicate 8 0) 0) (Packet big_h ∷ []) Zero (outcome.Again Zero))
    ≡ submits 0 (key_read big_h 0) Zero ∷ links 0 ∷ ends 0 ∷ []
unfolding owner_of question_at homes_of probes_of enumerated attached_as device_ends shapes_of first_state
it_is_submitted_again = refl

-- a fault that may pass does not stop it: a packet that was damaged, or too long
some_faults_pass : (acts typing [] 0 (Fault EPROTO) (key_read big_h 0) ≡ action.Again 0 8) × (acts typing [] 0 (Fault EOVERFLOW) (key_read big_h 0) ≡ action.Again 0 8)
unfolding owner_of question_at probes_of enumerated attached_as device_ends shapes_of first_state
some_faults_pass = (refl, refl)

-- a read that was killed, unlinked or shut down rests, and so does one whose endpoint is halted
a_read_rests : (acts typing [] 0 (Fault ENOENT) (key_read big_h 0) ≡ action.Rest)
    × (acts typing [] 0 (Fault ECONNRESET) (key_read big_h 0) ≡ action.Rest)
    × (acts typing [] 0 (Fault ESHUTDOWN) (key_read big_h 0) ≡ action.Rest)
    × (acts typing [] 0 (Fault EPIPE) (key_read big_h 0) ≡ action.Rest)
unfolding owner_of question_at probes_of enumerated attached_as device_ends shapes_of first_state
a_read_rests = (refl, refl, refl, refl)

a_killed_read_is_not_submitted : handler_entries typing (back 0 (key_read (replicate 8 0) 0) [] (Fault ENOENT) outcome.Rest)
    ≡ rests 0 (key_read (replicate 8 0) 0) ∷ ends 0 ∷ []
unfolding owner_of question_at homes_of probes_of enumerated attached_as device_ends shapes_of first_state
a_killed_read_is_not_submitted = refl

-- a pass that kills the URB raised its reject before the handler ran: the submit is refused, and what it would have sent rests
a_refused_read_rests : handler_entries typing (back 0 (key_read (replicate 8 0) 0) (Packet big_h ∷ []) Zero (outcome.Again (Fault EPERM)))
    ≡ submits 0 (key_read big_h 0) (Fault EPERM) ∷ rests 0 (key_read big_h 0) ∷ ends 0 ∷ []
unfolding owner_of question_at homes_of probes_of enumerated attached_as device_ends shapes_of first_state
a_refused_read_rests = refl

-- the lights are not sent again: their transfer rests
lights_rest : acts typing [] 1 Zero (transfer 8 (0x02 ∷ []) 0 1 1) ≡ action.Rest
unfolding owner_of question_at probes_of enumerated attached_as device_ends shapes_of first_state
lights_rest = refl

-- The serial port.

-- a read has room for two packets, and a number of its own: those of the driver's reads follow one another
abbrev byte_read : ℕ → List ℕ → ℕ → Transfer
byte_read number buf actual = transfer number buf 0 128 actual

two_reads : (owner_of port 1 ≡ Some (record { place = 0; driver = driver.Acm; role = role.Read0; size = Some 128; ctl = Some (urb 4) }))
    × (owner_of port 2 ≡ Some (record { place = 0; driver = driver.Acm; role = role.Read1; size = Some 128; ctl = Some (urb 4) }))
    × (read_of port 1 ≡ Some (byte_read 2000001 (replicate 128 0) 0))
    × (read_of port 2 ≡ Some (byte_read 2000002 (replicate 128 0) 0))
unfolding owner_of probes_of enumerated attached_as device_ends shapes_of first_state
two_reads = (refl, refl, refl, refl)

-- 64 bytes, which fill a packet, and three
abbrev many : List ℕ
many = replicate 64 0x55 ++ replicate 64 0

abbrev few : List ℕ
few = 0x41 ∷ 0x42 ∷ 0x43 ∷ replicate 125 0

-- each of the two goes on by itself, with its own buffer
both_go_on : (acts port [] 1 Zero (byte_read 2000001 many 64) ≡ action.Again 0 128) × (acts port [] 2 Zero (byte_read 2000002 few 3) ≡ action.Again 0 128)
unfolding owner_of question_at probes_of enumerated attached_as device_ends shapes_of first_state
both_go_on = (refl, refl)

the_second_is_submitted_again : handler_entries port (back 2 (byte_read 2000002 (replicate 128 0) 0) (Packet (0x41 ∷ 0x42 ∷ 0x43 ∷ []) ∷ []) Zero (outcome.Again Zero))
    ≡ submits 2 (byte_read 2000002 few 0) Zero ∷ links 2 ∷ ends 2 ∷ []
unfolding owner_of question_at homes_of probes_of enumerated attached_as device_ends shapes_of first_state
the_second_is_submitted_again = refl

-- the first one has a packet, waits for more and is killed: it rests with the 64 bytes, and the second one still goes on
the_first_is_killed : (acts port [] 1 (Fault ENOENT) (byte_read 2000001 many 64) ≡ action.Rest)
    × (handler_entries port (back 1 (byte_read 2000001 (replicate 128 0) 0) (Packet (replicate 64 0x55) ∷ Nak ∷ []) (Fault ENOENT) outcome.Rest)
    ≡ rests 1 (byte_read 2000001 many 64) ∷ ends 1 ∷ [])
unfolding owner_of question_at homes_of probes_of enumerated attached_as device_ends shapes_of first_state
the_first_is_killed = (refl, refl)

the_second_goes_on : acts port (back 1 (byte_read 2000001 (replicate 128 0) 0) (Packet (replicate 64 0x55) ∷ Nak ∷ []) (Fault ENOENT) outcome.Rest ∷ []) 2 Zero (byte_read 2000002 few 3)
    ≡ action.Again 0 128
unfolding owner_of question_at probes_of enumerated attached_as device_ends shapes_of first_state
the_second_goes_on = refl

-- what was written rests, also after a fault
a_write_rests : (acts port [] 3 Zero (transfer 6 (0x41 ∷ []) 0 1 1) ≡ action.Rest) × (acts port [] 3 (Fault EPROTO) (transfer 6 (0x41 ∷ []) 0 1 0) ≡ action.Rest)
unfolding owner_of question_at probes_of enumerated attached_as device_ends shapes_of first_state
a_write_rests = (refl, refl)

-- The printer, with a job of 10,000 bytes.

-- the first window of 8,192 bytes went well, so the next one has what is left, and after that the job is over
a_job_goes_on : (bytes : List ℕ) → length bytes ≡ 10000
    → (acts printing [] 0 Zero (transfer 6 bytes 0 8192 8192) ≡ action.Again 8192 1808) × (acts printing [] 0 Zero (transfer 6 bytes 8192 1808 1808) ≡ action.Rest)
unfolding owner_of question_at probes_of enumerated attached_as device_ends shapes_of first_state
a_job_goes_on bytes e = rw e (refl, refl)

-- 128 packets of 64 bytes were acknowledged
the_next_window_is_submitted : (bytes : List ℕ) → length bytes ≡ 10000
    → handler_entries printing (back 0 (transfer 6 bytes 0 8192 0) (replicate 128 Ack) Zero (outcome.Again Zero))
    ≡ submits 0 (transfer 6 bytes 8192 1808 0) Zero ∷ links 0 ∷ ends 0 ∷ []
unfolding owner_of question_at homes_of probes_of enumerated attached_as device_ends shapes_of first_state
the_next_window_is_submitted bytes e = rw e refl

-- the driver's question: GET_PORT_STATUS of one byte (printer class 1.1, section 4.2.2), by URB 1. After that one itself it asks nothing
abbrev question : List ℕ → ℕ → Transfer
question buf actual = record (transfer 2000000 buf 0 1 actual) { setup = Some (0xA1 ∷ 0x01 ∷ 0x00 ∷ 0x00 ∷ 0x00 ∷ 0x00 ∷ 0x01 ∷ 0x00 ∷ []) }

the_printers_question : (question_at printing 0 ≡ Some (record { urb = 1; transfer = question (0x00 ∷ []) 0 })) × (question_at printing 1 ≡ None)
unfolding question_at owner_of origin_of probes_of enumerated attached_as device_ends shapes_of first_state
the_printers_question = (refl, refl)

-- the device stalls in the second window, and the question is accepted, or refused where the script uses URB 1
abbrev jammed : List ℕ → Code → Giveback
jammed bytes answer = back 0 (transfer 6 bytes 8192 1808 0) (Stall ∷ []) (Fault EPIPE) (outcome.Asked answer)

-- the port's status comes: there is paper, the printer is selected and has no error
abbrev answered : Giveback
answered = back 1 (question (0x00 ∷ []) 0) (Packet (0x18 ∷ []) ∷ []) Zero outcome.Rest

-- after the fault the driver asks: the job rests, and the question is submitted
a_fault_is_asked_about : (bytes : List ℕ)
    → (acts printing [] 0 (Fault EPIPE) (transfer 6 bytes 8192 1808 0) ≡ action.Ask)
    × (handler_entries printing (jammed bytes Zero) ≡ rests 0 (transfer 6 bytes 8192 1808 0) ∷ submits 1 (question (0x00 ∷ []) 0) Zero ∷ links 1 ∷ ends 0 ∷ [])
    × (handler_entries printing (jammed bytes (Fault EBUSY)) ≡ rests 0 (transfer 6 bytes 8192 1808 0) ∷ submits 1 (question (0x00 ∷ []) 0) (Fault EBUSY) ∷ ends 0 ∷ [])
unfolding question_at owner_of origin_of homes_of probes_of enumerated attached_as device_ends shapes_of first_state
a_fault_is_asked_about bytes = (refl, refl, refl)

-- a job that was killed is not asked about
a_killed_job_rests : (bytes : List ℕ) → acts printing [] 0 (Fault ENOENT) (transfer 6 bytes 8192 1808 0) ≡ action.Rest
unfolding question_at owner_of origin_of probes_of enumerated attached_as device_ends shapes_of first_state
a_killed_job_rests bytes = refl

-- an accepted question is out until it comes back, and a refused one is not out
when_it_is_out : (bytes : List ℕ)
    → (is_out printing 0 [] ≡ false)
    × (is_out printing 0 (jammed bytes Zero ∷ []) ≡ true)
    × (is_out printing 0 (jammed bytes (Fault EBUSY) ∷ []) ≡ false)
    × (is_out printing 0 (jammed bytes Zero ∷ answered ∷ []) ≡ false)
    × (is_out printing 0 (jammed bytes Zero ∷ answered ∷ jammed bytes Zero ∷ []) ≡ true)
unfolding question_at owner_of origin_of homes_of probes_of enumerated attached_as device_ends shapes_of first_state
when_it_is_out bytes = (refl, refl, refl, refl, refl)

-- while it is out nothing is asked after a fault: the job only rests
one_question_at_a_time : (bytes : List ℕ)
    → (acts printing (jammed bytes Zero ∷ []) 0 (Fault EPIPE) (transfer 6 bytes 0 8192 0) ≡ action.Rest)
    × (acts printing (jammed bytes (Fault EBUSY) ∷ []) 0 (Fault EPIPE) (transfer 6 bytes 0 8192 0) ≡ action.Ask)
    × (acts printing (jammed bytes Zero ∷ answered ∷ []) 0 (Fault EPIPE) (transfer 6 bytes 0 8192 0) ≡ action.Ask)
unfolding question_at owner_of origin_of homes_of probes_of enumerated attached_as device_ends shapes_of first_state
one_question_at_a_time bytes = (refl, refl, refl)

-- the question itself rests when it came back, with its byte, whatever its status
a_question_rests : (acts printing [] 1 Zero (question (0x18 ∷ []) 1) ≡ action.Rest)
    × (acts printing [] 1 (Fault EPIPE) (question (0x00 ∷ []) 0) ≡ action.Rest)
    × (handler_entries printing answered ≡ rests 1 (question (0x18 ∷ []) 1) ∷ ends 1 ∷ [])
unfolding question_at owner_of origin_of homes_of probes_of enumerated attached_as device_ends shapes_of first_state
a_question_rests = (refl, refl, refl)

-- The raw device.

no_driver_has_it : owner_of own 0 ≡ None
unfolding owner_of probes_of attached_as device_ends shapes_of
no_driver_has_it = refl

-- URB 0 comes back three times, with one byte each
abbrev read_of_four : List ℕ → ℕ → Transfer
read_of_four buf actual = transfer 9 buf 0 4 actual

abbrev byte : ℕ → List ℕ
byte b = b ∷ 0x00 ∷ 0x00 ∷ 0x00 ∷ []

abbrev first : Giveback
first = back 0 (read_of_four (byte 0) 0) (Packet (0x01 ∷ []) ∷ []) Zero (outcome.Again Zero)

abbrev second : Giveback
second = back 0 (read_of_four (byte 1) 0) (Packet (0x02 ∷ []) ∷ []) Zero (outcome.Again Zero)

abbrev third : Giveback
third = back 0 (read_of_four (byte 2) 0) (Packet (0x03 ∷ []) ∷ []) Zero outcome.Rest

-- twice it is submitted again with the window that it had, and the third time it rests
it_goes_on_twice : (acts own [] 0 Zero (read_of_four (byte 1) 1) ≡ action.Again 0 4)
    × (acts own (first ∷ []) 0 Zero (read_of_four (byte 2) 1) ≡ action.Again 0 4)
    × (acts own (first ∷ second ∷ []) 0 Zero (read_of_four (byte 3) 1) ≡ action.Rest)
unfolding question_at owner_of probes_of attached_as device_ends shapes_of
it_goes_on_twice = (refl, refl, refl)

what_it_leaves : (handler_entries own first ≡ submits 0 (read_of_four (byte 1) 0) Zero ∷ links 0 ∷ ends 0 ∷ [])
    × (handler_entries own second ≡ submits 0 (read_of_four (byte 2) 0) Zero ∷ links 0 ∷ ends 0 ∷ [])
    × (handler_entries own third ≡ rests 0 (read_of_four (byte 3) 1) ∷ ends 0 ∷ [])
unfolding question_at owner_of homes_of probes_of attached_as device_ends shapes_of
what_it_leaves = (refl, refl, refl)

-- whatever the status is. Each URB counts for itself: the two times of URB 0 take nothing from URB 1, and URB 2 has no more
whatever_the_status : (acts own [] 0 (Fault ENOENT) (read_of_four (byte 0) 0) ≡ action.Again 0 4)
    × (acts own (first ∷ second ∷ []) 1 (Fault EPIPE) (read_of_four (byte 0) 0) ≡ action.Again 0 4)
    × (acts own [] 2 Zero (transfer 9 [] 0 0 0) ≡ action.Rest)
unfolding question_at owner_of probes_of attached_as device_ends shapes_of
whatever_the_status = (refl, refl, refl)
