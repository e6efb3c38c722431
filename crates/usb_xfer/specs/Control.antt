-- How replies move a control transfer. It ends with the first reply that is no Nak (USB 2.0 §8.5.3).
use Rattle.std.specs.Prelude.{ℕ, ◌+◌, Bool, true, false, ◌&&◌, nat_le, nat_lt, if◌then◌else◌, List, [], ◌∷◌, ◌++◌, length, take, drop}
use Rattle.usb_types.specs.declared.errno.Errno.TheVariants.{EPIPE, EPROTO, EOVERFLOW, EREMOTEIO}
use Rattle.usb_types.specs.declared.errno.Code.{Code}
use Rattle.usb_types.specs.declared.errno.Code.TheVariants.{Zero, Fault}
use Rattle.usb_machine.specs.declared.transfer.Transfer.{Transfer}
use Rattle.usb_xfer.specs.declared.script.What.TheVariants.{Ack, Nak, Stall, Error, Packet}
use Rattle.usb_xfer.specs.declared.packet.Step.{Step}
use Rattle.usb_xfer.specs.declared.packet.Step.TheVariants.{Waiting, Ended}
use Rattle.usb_xfer.specs.Replies.{Reply}
use Rattle.usb_xfer.specs.Input.{with_bytes}

-- whether a transfer ends with this reply
abbrev pub control_stops : Reply → Bool
control_stops Nak = false
control_stops _ = true

-- the code of a transfer of len bytes to which the device gave n
abbrev pub data_code : ℕ → ℕ → Bool → Code
data_code n len short = if nat_le n len then (if short && nat_lt n len then Fault EREMOTEIO else Zero) else Fault EOVERFLOW

-- the code that a reply ends a transfer to the host with; an Ack gives no bytes
abbrev pub control_in_code : ℕ → Bool → Reply → Code
control_in_code len short Ack = data_code 0 len short
control_in_code len short Nak = Zero
control_in_code len short Stall = Fault EPIPE
control_in_code len short Error = Fault EPROTO
control_in_code len short (Packet bytes) = data_code (length bytes) len short

-- the code that a reply ends a transfer to the device with
abbrev pub control_out_code : Reply → Code
control_out_code Ack = Zero
control_out_code Nak = Zero
control_out_code Stall = Fault EPIPE
control_out_code Error = Fault EPROTO
control_out_code (Packet bytes) = Zero

-- the bytes that the first reply but Naks brings, where they fit
abbrev pub data_in : ℕ → List Reply → List ℕ
data_in len [] = []
data_in len (Ack ∷ replies) = []
data_in len (Nak ∷ replies) = data_in len replies
data_in len (Stall ∷ replies) = []
data_in len (Error ∷ replies) = []
data_in len (Packet bytes ∷ replies) = if nat_le (length bytes) len then bytes else []

-- whether the first reply but Naks takes the data
abbrev pub takes_data : List Reply → Bool
takes_data [] = false
takes_data (Ack ∷ replies) = true
takes_data (Nak ∷ replies) = takes_data replies
takes_data (Stall ∷ replies) = false
takes_data (Error ∷ replies) = false
takes_data (Packet bytes ∷ replies) = true

-- the transfer as the replies moved it: its window begins with the bytes
abbrev pub control_in_moved : Transfer → List Reply → Transfer
control_in_moved t replies = with_bytes t (data_in t.len replies)

-- the transfer as the replies moved it: all of the window, or nothing; the buffer stays as it was
abbrev pub control_out_moved : Transfer → List Reply → Transfer
control_out_moved t replies = record t { actual = if takes_data replies then t.len else 0 }

-- all bytes of the window
abbrev pub window_of : Transfer → List ℕ
window_of t = take t.len (drop t.from t.buf)

-- how one reply moves a transfer to the host, by the table
abbrev pub control_in_moves : Reply → Transfer → Transfer
control_in_moves Ack t = record t { actual = 0 }
control_in_moves (Packet bytes) t = if nat_le (length bytes) t.len then with_bytes t bytes else t
control_in_moves _ t = t

-- the transfer when the device was asked and nothing is counted yet: bytes that fit stand at the window's start
abbrev pub data_filled : Reply → Transfer → Transfer
data_filled (Packet bytes) t =
    if nat_le (length bytes) t.len
    then record t { buf = take t.from t.buf ++ bytes ++ drop (t.from + length bytes) t.buf }
    else t
data_filled _ t = t

-- how one reply moves a transfer to the device, by the table
abbrev pub control_out_moves : Reply → Transfer → Transfer
control_out_moves Ack t = record t { actual = t.len }
control_out_moves (Packet bytes) t = record t { actual = t.len }
control_out_moves _ t = t

-- what one reply answers, by the table
abbrev pub control_in_step : Reply → Transfer → Step
control_in_step Ack t = Ended (data_code 0 t.len t.short_not_ok)
control_in_step Nak t = Waiting
control_in_step Stall t = Ended (Fault EPIPE)
control_in_step Error t = Ended (Fault EPROTO)
control_in_step (Packet bytes) t = Ended (data_code (length bytes) t.len t.short_not_ok)

-- what one reply answers, by the table
abbrev pub control_out_step : Reply → Transfer → Step
control_out_step Ack t = Ended Zero
control_out_step Nak t = Waiting
control_out_step Stall t = Ended (Fault EPIPE)
control_out_step Error t = Ended (Fault EPROTO)
control_out_step (Packet bytes) t = Ended Zero
