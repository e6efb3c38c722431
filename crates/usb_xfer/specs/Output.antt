-- How replies move the transfer of an OUT endpoint. Each packet but the last is full, and an Ack says that the device has
-- taken it (USB 2.0 §8.4.5). The buffer stays as it was.
use Rattle.std.specs.Prelude.{ℕ, ◌+◌, ◌-◌, ◌*◌, min, Bool, true, false, ◌==◌, nat_le, if◌then◌else◌, List, take, drop, count_by}
use Rattle.usb_types.specs.declared.errno.Errno.TheVariants.{EPIPE, EPROTO}
use Rattle.usb_types.specs.declared.errno.Code.{Code}
use Rattle.usb_types.specs.declared.errno.Code.TheVariants.{Zero, Fault}
use Rattle.usb_machine.specs.declared.transfer.Transfer.{Transfer}
use Rattle.usb_xfer.specs.declared.script.What.TheVariants.{Ack, Nak, Stall, Error, Packet}
use Rattle.usb_xfer.specs.declared.packet.Step.{Step}
use Rattle.usb_xfer.specs.declared.packet.Step.TheVariants.{More, Waiting, Ended}
use Rattle.usb_xfer.specs.Replies.{Reply}

-- whether the device has taken a packet
abbrev pub is_ack : Reply → Bool
is_ack Ack = true
is_ack _ = false

-- how many packets were acknowledged
abbrev pub acks : List Reply → ℕ
acks replies = count_by is_ack replies

-- whether a transfer ends with this reply: what is neither an Ack nor a Nak, or the Ack with which full packets, one at least, make up len
abbrev pub output_stops : ℕ → ℕ → List Reply → Reply → Bool
output_stops max len before Ack = nat_le len (max * (acks before + 1))
output_stops max len before Nak = false
output_stops max len before Stall = true
output_stops max len before Error = true
output_stops max len before (Packet bytes) = true

-- the code that a reply ends a transfer with
abbrev pub output_code : Reply → Code
output_code Ack = Zero
output_code Nak = Zero
output_code Stall = Fault EPIPE
output_code Error = Fault EPROTO
output_code (Packet bytes) = Fault EPROTO

-- the transfer as the replies moved it: a full packet for each Ack, up to its length
abbrev pub output_moved : ℕ → Transfer → List Reply → Transfer
output_moved max t replies = record t { actual = min t.len (max * acks replies) }

-- the length of the next packet: a full one, or what the window has left
abbrev pub size_of_next : ℕ → Transfer → ℕ
size_of_next max t = min max (t.len - t.actual)

-- the next bytes of the window
abbrev pub next_packet : ℕ → Transfer → List ℕ
next_packet max t = take (size_of_next max t) (drop (t.from + t.actual) t.buf)

-- how one reply moves a transfer, by the table
abbrev pub output_moves : ℕ → Reply → Transfer → Transfer
output_moves max Ack t = record t { actual = t.actual + size_of_next max t }
output_moves max _ t = t

-- what one reply answers, by the table
abbrev pub output_step : ℕ → Reply → Transfer → Step
output_step max Ack t = if t.actual + size_of_next max t == t.len then Ended Zero else More
output_step max Nak t = Waiting
output_step max Stall t = Ended (Fault EPIPE)
output_step max Error t = Ended (Fault EPROTO)
output_step max (Packet bytes) t = Ended (Fault EPROTO)
