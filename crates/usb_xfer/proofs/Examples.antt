-- What the definitions say of some transfers. Each is computed.
use Rattle.std.proofs.Common.{ℕ, ◌≡◌, Bool, true, false, Some, None, [], ◌∷◌, refl}
use Rattle.usb_types.specs.declared.errno.Code.TheVariants.{Zero, Fault}
use Rattle.usb_types.specs.declared.errno.Errno.TheVariants.{EPIPE, EPROTO, EOVERFLOW, EREMOTEIO}
use Rattle.usb_machine.specs.declared.layout.EndKind.TheVariants.{Control, Bulk}
use Rattle.usb_machine.specs.declared.layout.Shape.{Shape}
use Rattle.usb_machine.specs.declared.transfer.Transfer.{Transfer}
use Rattle.usb_xfer.specs.declared.script.What.TheVariants.{Ack, Nak, Stall, Error, Packet}
use Rattle.usb_xfer.specs.declared.packet.Step.TheVariants.{More, Waiting, Ended}
use Rattle.usb_xfer.specs.Direction.{asked_at}
use Rattle.usb_xfer.specs.Replies.{Reply, Fetch, Send, Ask}
use Rattle.usb_xfer.specs.Moved.{moved, moved_state, acked_bytes, question_of}

-- endpoints with packets of four bytes, in and out
abbrev in_end : Shape
in_end = record { device = 0; address = 129; kind = Bulk; max = 4; interval = 0 }

abbrev out_end : Shape
out_end = record { device = 0; address = 2; kind = Bulk; max = 4; interval = 0 }

-- a transfer of so many bytes, after the first of its buffer
abbrev sent : ℕ → Bool → Transfer
sent len short = record { setup = None; buf = 10 ∷ 11 ∷ 12 ∷ 13 ∷ 14 ∷ 15 ∷ 16 ∷ 17 ∷ 18 ∷ 19 ∷ []; from = 1; len = len; short_not_ok = short; actual = 0; number = 7 }

abbrev full : Reply
full = Packet (1 ∷ 2 ∷ 3 ∷ 4 ∷ [])

abbrev short_one : Reply
short_one = Packet (5 ∷ 6 ∷ [])

-- to the host
in_asks_for_a_packet : question_of in_end (sent 8 false) ≡ Fetch
in_asks_for_a_packet = refl

in_not_begun : moved_state in_end (sent 8 false) [] ≡ More
in_not_begun = refl

in_goes_on_after_a_full_packet : moved_state in_end (sent 8 false) (full ∷ []) ≡ More
in_goes_on_after_a_full_packet = refl

in_waits_at_a_nak : moved_state in_end (sent 8 false) (full ∷ Nak ∷ []) ≡ Waiting
in_waits_at_a_nak = refl

in_ends_at_a_short_packet : moved_state in_end (sent 8 false) (full ∷ Nak ∷ short_one ∷ []) ≡ Ended Zero
in_ends_at_a_short_packet = refl

in_has_the_packets_bytes : moved in_end (sent 8 false) (full ∷ Nak ∷ short_one ∷ []) ≡ record (sent 8 false) { buf = 10 ∷ 1 ∷ 2 ∷ 3 ∷ 4 ∷ 5 ∷ 6 ∷ 17 ∷ 18 ∷ 19 ∷ []; actual = 6 }
in_has_the_packets_bytes = refl

in_short_is_a_fault_where_asked : moved_state in_end (sent 8 true) (full ∷ short_one ∷ []) ≡ Ended (Fault EREMOTEIO)
in_short_is_a_fault_where_asked = refl

in_ends_at_its_length : moved_state in_end (sent 4 true) (full ∷ []) ≡ Ended Zero
in_ends_at_its_length = refl

in_longer_than_the_window : moved_state in_end (sent 6 false) (full ∷ full ∷ []) ≡ Ended (Fault EOVERFLOW)
in_longer_than_the_window = refl

in_too_long_a_packet_moves_nothing : moved in_end (sent 6 false) (full ∷ full ∷ []) ≡ moved in_end (sent 6 false) (full ∷ [])
in_too_long_a_packet_moves_nothing = refl

in_stalls : moved_state in_end (sent 8 false) (full ∷ Stall ∷ []) ≡ Ended (Fault EPIPE)
in_stalls = refl

in_an_ack_is_no_reply : moved_state in_end (sent 8 false) (Ack ∷ []) ≡ Ended (Fault EPROTO)
in_an_ack_is_no_reply = refl

in_one_empty_packet : moved_state in_end (sent 0 false) (Packet [] ∷ []) ≡ Ended Zero
in_one_empty_packet = refl

-- to the device
out_sends_a_full_packet : question_of out_end (sent 6 false) ≡ Send (11 ∷ 12 ∷ 13 ∷ 14 ∷ [])
out_sends_a_full_packet = refl

out_then_what_is_left : question_of out_end (moved out_end (sent 6 false) (Ack ∷ [])) ≡ Send (15 ∷ 16 ∷ [])
out_then_what_is_left = refl

out_not_begun : moved_state out_end (sent 0 false) [] ≡ More
out_not_begun = refl

out_one_empty_packet : moved_state out_end (sent 0 false) (Ack ∷ []) ≡ Ended Zero
out_one_empty_packet = refl

out_one_packet : moved_state out_end (sent 4 false) (Ack ∷ []) ≡ Ended Zero
out_one_packet = refl

out_goes_on_after_the_first : moved_state out_end (sent 6 false) (Ack ∷ []) ≡ More
out_goes_on_after_the_first = refl

out_ends_at_its_length : moved_state out_end (sent 6 true) (Ack ∷ Nak ∷ Ack ∷ []) ≡ Ended Zero
out_ends_at_its_length = refl

out_leaves_the_buffer : moved out_end (sent 6 false) (Ack ∷ Nak ∷ Ack ∷ []) ≡ record (sent 6 false) { actual = 6 }
out_leaves_the_buffer = refl

out_waits_at_a_nak : moved_state out_end (sent 6 false) (Ack ∷ Nak ∷ []) ≡ Waiting
out_waits_at_a_nak = refl

out_stalls : moved_state out_end (sent 8 false) (Ack ∷ Stall ∷ []) ≡ Ended (Fault EPIPE)
out_stalls = refl

out_keeps_what_was_acknowledged : acked_bytes out_end (sent 8 false) (Ack ∷ Stall ∷ []) ≡ 11 ∷ 12 ∷ 13 ∷ 14 ∷ []
out_keeps_what_was_acknowledged = refl

out_no_answer : moved_state out_end (sent 8 false) (Error ∷ []) ≡ Ended (Fault EPROTO)
out_no_answer = refl

-- control transfers at a control endpoint
abbrev control_end : Shape
control_end = record { device = 0; address = 0; kind = Control; max = 4; interval = 0 }

-- to the host, a descriptor of a type
abbrev asks_in : ℕ → Bool → Transfer
asks_in len short = record (sent len short) { setup = Some (128 ∷ 6 ∷ 0 ∷ 1 ∷ 0 ∷ 0 ∷ len ∷ 0 ∷ []) }

-- to the device, a line coding
abbrev asks_out : ℕ → Transfer
asks_out len = record (sent len true) { setup = Some (33 ∷ 32 ∷ 0 ∷ 0 ∷ 2 ∷ 0 ∷ len ∷ 0 ∷ []) }

control_in_asks_for_data : question_of control_end (asks_in 8 false) ≡ Ask (record { kind = 128; request = 6; value = 256; index = 0; length = 8 }) []
control_in_asks_for_data = refl

control_in_ends_with_its_data : moved_state control_end (asks_in 6 true) (Nak ∷ Packet (1 ∷ 2 ∷ 3 ∷ 4 ∷ 5 ∷ 6 ∷ []) ∷ []) ≡ Ended Zero
control_in_ends_with_its_data = refl

control_in_has_the_data : moved control_end (asks_in 6 true) (Nak ∷ Packet (1 ∷ 2 ∷ 3 ∷ 4 ∷ 5 ∷ 6 ∷ []) ∷ []) ≡ record (asks_in 6 true) { buf = 10 ∷ 1 ∷ 2 ∷ 3 ∷ 4 ∷ 5 ∷ 6 ∷ 17 ∷ 18 ∷ 19 ∷ []; actual = 6 }
control_in_has_the_data = refl

control_in_a_full_packet_ends_it : moved_state control_end (asks_in 8 false) (full ∷ []) ≡ Ended Zero
control_in_a_full_packet_ends_it = refl

control_in_short_is_a_fault_where_asked : moved_state control_end (asks_in 8 true) (full ∷ []) ≡ Ended (Fault EREMOTEIO)
control_in_short_is_a_fault_where_asked = refl

control_in_an_ack_brings_nothing : moved control_end (asks_in 8 false) (Ack ∷ []) ≡ asks_in 8 false
control_in_an_ack_brings_nothing = refl

control_in_an_ack_ends_it : moved_state control_end (asks_in 8 false) (Ack ∷ []) ≡ Ended Zero
control_in_an_ack_ends_it = refl

control_in_longer_than_the_window : moved_state control_end (asks_in 3 false) (full ∷ []) ≡ Ended (Fault EOVERFLOW)
control_in_longer_than_the_window = refl

control_in_too_long_data_move_nothing : moved control_end (asks_in 3 false) (full ∷ []) ≡ asks_in 3 false
control_in_too_long_data_move_nothing = refl

control_in_waits_at_a_nak : moved_state control_end (asks_in 8 false) (Nak ∷ []) ≡ Waiting
control_in_waits_at_a_nak = refl

control_in_stalls : moved_state control_end (asks_in 8 false) (Stall ∷ []) ≡ Ended (Fault EPIPE)
control_in_stalls = refl

control_out_asks_with_its_data : question_of control_end (asks_out 7) ≡ Ask (record { kind = 33; request = 32; value = 0; index = 2; length = 7 }) (11 ∷ 12 ∷ 13 ∷ 14 ∷ 15 ∷ 16 ∷ 17 ∷ [])
control_out_asks_with_its_data = refl

control_out_moves_all : moved control_end (asks_out 7) (Nak ∷ Ack ∷ []) ≡ record (asks_out 7) { actual = 7 }
control_out_moves_all = refl

control_out_a_packet_moves_all : moved control_end (asks_out 7) (short_one ∷ []) ≡ record (asks_out 7) { actual = 7 }
control_out_a_packet_moves_all = refl

control_out_ends : moved_state control_end (asks_out 7) (Nak ∷ Ack ∷ []) ≡ Ended Zero
control_out_ends = refl

control_out_no_answer : moved_state control_end (asks_out 7) (Error ∷ []) ≡ Ended (Fault EPROTO)
control_out_no_answer = refl

control_out_is_no_out_endpoint : acked_bytes control_end (asks_out 7) (Ack ∷ []) ≡ []
control_out_is_no_out_endpoint = refl

control_transfers_go_to_zero : asked_at (record control_end { address = 129 }) ≡ 0
control_transfers_go_to_zero = refl

packets_go_to_their_endpoint : asked_at in_end ≡ 129
packets_go_to_their_endpoint = refl
