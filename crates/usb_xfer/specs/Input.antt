-- How replies move the transfer of an IN endpoint. It ends where the asked length is reached, at a packet shorter than
-- the packet size (USB 2.0 §5.8.3), or at a fault. A Nak has no bytes and ends nothing.
use Rattle.std.specs.Prelude.{ℕ, ◌+◌, ◌-◌, Bool, true, false, not, ◌&&◌, ◌||◌, ◌==◌, nat_le, nat_lt, if◌then◌else◌, List, [], ◌∷◌, ◌++◌, length, take, drop}
use Rattle.std.specs.List.{flat_map}
use Rattle.usb_types.specs.declared.errno.Errno.TheVariants.{EPIPE, EPROTO, EOVERFLOW, EREMOTEIO}
use Rattle.usb_types.specs.declared.errno.Code.{Code}
use Rattle.usb_types.specs.declared.errno.Code.TheVariants.{Zero, Fault}
use Rattle.usb_machine.specs.declared.transfer.Transfer.{Transfer}
use Rattle.usb_xfer.specs.declared.script.What.TheVariants.{Ack, Nak, Stall, Error, Packet}
use Rattle.usb_xfer.specs.declared.packet.Step.{Step}
use Rattle.usb_xfer.specs.declared.packet.Step.TheVariants.{More, Waiting, Ended}
use Rattle.usb_xfer.specs.Replies.{Reply}

-- the bytes that a reply brings
abbrev pub bytes_of : Reply → List ℕ
bytes_of Ack = []
bytes_of Nak = []
bytes_of Stall = []
bytes_of Error = []
bytes_of (Packet bytes) = bytes

-- how many bytes the packets have together
abbrev pub lengths : List Reply → ℕ
lengths replies = length (flat_map bytes_of replies)

-- whether the reply is a packet longer neither than max nor than len less the lengths before it
abbrev pub is_good : ℕ → ℕ → List Reply → Reply → Bool
is_good max len before (Packet bytes) = nat_le (length bytes) max && nat_le (length bytes) (len - lengths before)
is_good max len before _ = false

-- whether a transfer ends with this reply: what is neither a Nak nor a packet, a packet that is not good, a short one, or one that brings the bytes to len
abbrev pub input_stops : ℕ → ℕ → List Reply → Reply → Bool
input_stops max len before Ack = true
input_stops max len before Nak = false
input_stops max len before Stall = true
input_stops max len before Error = true
input_stops max len before (Packet bytes) = not (is_good max len before (Packet bytes)) || nat_lt (length bytes) max || (lengths before + length bytes == len)

-- the code that a reply ends a transfer with
abbrev pub input_code : ℕ → ℕ → Bool → List Reply → Reply → Code
input_code max len short before Ack = Fault EPROTO
input_code max len short before Nak = Zero
input_code max len short before Stall = Fault EPIPE
input_code max len short before Error = Fault EPROTO
input_code max len short before (Packet bytes) =
    if is_good max len before (Packet bytes)
    then (if short && nat_lt (lengths before + length bytes) len then Fault EREMOTEIO else Zero)
    else Fault EOVERFLOW

-- the good packets of the replies that follow `before`, joined
abbrev pub good_bytes : ℕ → ℕ → List Reply → List Reply → List ℕ
good_bytes max len before [] = []
good_bytes max len before (r ∷ replies) = (if is_good max len before r then bytes_of r else []) ++ good_bytes max len (before ++ r ∷ []) replies

-- the transfer with its window beginning with these bytes
abbrev pub with_bytes : Transfer → List ℕ → Transfer
with_bytes t bytes = record t { buf = take t.from t.buf ++ bytes ++ drop (t.from + length bytes) t.buf; actual = length bytes }

-- the transfer as the replies moved it: its window begins with the good packets
abbrev pub input_moved : ℕ → Transfer → List Reply → Transfer
input_moved max t replies = with_bytes t (good_bytes max t.len [] replies)

-- how one reply moves a transfer, by the table
abbrev pub input_moves : ℕ → Reply → Transfer → Transfer
input_moves max (Packet bytes) t =
    if nat_le (length bytes) max && nat_le (length bytes) (t.len - t.actual)
    then record t { buf = take (t.from + t.actual) t.buf ++ bytes ++ drop (t.from + t.actual + length bytes) t.buf; actual = t.actual + length bytes }
    else t
input_moves max _ t = t

-- the transfer when the device was asked and nothing is counted yet: a good packet stands after the moved bytes
abbrev pub filled : ℕ → Reply → Transfer → Transfer
filled max (Packet bytes) t =
    if nat_le (length bytes) max && nat_le (length bytes) (t.len - t.actual)
    then record t { buf = take (t.from + t.actual) t.buf ++ bytes ++ drop (t.from + t.actual + length bytes) t.buf }
    else t
filled max _ t = t

-- what one reply answers, by the table
abbrev pub input_step : ℕ → Reply → Transfer → Step
input_step max Ack t = Ended (Fault EPROTO)
input_step max Nak t = Waiting
input_step max Stall t = Ended (Fault EPIPE)
input_step max Error t = Ended (Fault EPROTO)
input_step max (Packet bytes) t =
    if nat_le (length bytes) max && nat_le (length bytes) (t.len - t.actual)
    then (if nat_lt (length bytes) max || (t.actual + length bytes == t.len)
    then Ended (if t.short_not_ok && nat_lt (t.actual + length bytes) t.len then Fault EREMOTEIO else Zero)
    else More)
    else Ended (Fault EOVERFLOW)
