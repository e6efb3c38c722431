-- However a transfer is moved, its window lies in its buffer, and the moved bytes in the window.
use Rattle.std.proofs.Common.{ℕ, ◌≡◌, ◌+◌, ◌-◌, ◌*◌, ◌≤◌, min, Bool, true, false, cond, List, [], ◌∷◌, ◌++◌, length, take, drop, refl, ap, ◌∙◌, arith, length-append, append-nil}
use Rattle.std.specs.Prelude.{nat_le, ◌&&◌}
use Rattle.std.specs.List.{flat_map}
use Rattle.std.proofs.lemmas.Grind.{common_steps, flat_map-append}
use Rattle.usb_machine.specs.declared.layout.Shape.{Shape}
use Rattle.usb_machine.specs.declared.transfer.Transfer.{Transfer}
use Rattle.usb_machine.specs.Shapes.{HasWindow}
use Rattle.usb_xfer.specs.declared.script.What.TheVariants.{Ack, Nak, Stall, Error, Packet}
use Rattle.usb_xfer.specs.Direction.{Direction, In, Out, ControlIn, ControlOut, direction_of}
use Rattle.usb_xfer.specs.Replies.{Reply}
use Rattle.usb_xfer.specs.Input.{bytes_of, lengths, good_bytes, with_bytes, input_moves}
use Rattle.usb_xfer.specs.Output.{acks, output_moves}
use Rattle.usb_xfer.specs.Control.{data_in, takes_data, control_in_moves, control_out_moves}
use Rattle.usb_xfer.specs.Moved.{moved, moved_by, reply_moves, moves_by}

lengths-push : (before : List Reply) (r : Reply) → lengths (before ++ r ∷ []) ≡ lengths before + length (bytes_of r)
lengths-push before r = ap length (flat_map-append bytes_of before (r ∷ []) ∙ ap (λ l. flat_map bytes_of before ++ l) (append-nil (bytes_of r))) ∙ length-append (flat_map bytes_of before) (bytes_of r)

-- the good packets that follow fit into what the window has left
good_fits : (max len : ℕ) (before replies : List Reply) → length (good_bytes max len before replies) ≤ len - lengths before
good_fits max len before [] = omega arith
good_fits max len before (r ∷ replies) = go r (good_fits max len (before ++ r ∷ []) replies) (lengths-push before r)
  where
    go : (r : Reply) → length (good_bytes max len (before ++ r ∷ []) replies) ≤ len - lengths (before ++ r ∷ []) → lengths (before ++ r ∷ []) ≡ lengths before + length (bytes_of r)
        → length (good_bytes max len before (r ∷ replies)) ≤ len - lengths before
    go Ack rest more = omega arith
    go Nak rest more = omega arith
    go Stall rest more = omega arith
    go Error rest more = omega arith
    go (Packet p) rest more = by_test (nat_le (length p) max && nat_le (length p) (len - lengths before)) refl
      where
        by_test : (b : Bool) → (nat_le (length p) max && nat_le (length p) (len - lengths before)) ≡ b
            → length (cond b p [] ++ good_bytes max len (before ++ Packet p ∷ []) replies) ≤ len - lengths before
        by_test false e = omega arith
        by_test true e = let fits : length p ≤ len - lengths before = grind (arith, common_steps) in
            let joined = length-append p (good_bytes max len (before ++ Packet p ∷ []) replies) in omega arith

same_length : (buf : List ℕ) (from : ℕ) (bytes : List ℕ) → from + length bytes ≤ length buf → length (take from buf ++ bytes ++ drop (from + length bytes) buf) ≡ length buf
same_length buf from bytes l = grind (arith, common_steps)

-- the data of a control transfer that are kept fit into the window
data_fits : (len : ℕ) (replies : List Reply) → length (data_in len replies) ≤ len
data_fits len [] = omega arith
data_fits len (Ack ∷ replies) = omega arith
data_fits len (Nak ∷ replies) = data_fits len replies
data_fits len (Stall ∷ replies) = omega arith
data_fits len (Error ∷ replies) = omega arith
data_fits len (Packet p ∷ replies) = by_test (nat_le (length p) len) refl
  where
    by_test : (b : Bool) → nat_le (length p) len ≡ b → length (cond b p []) ≤ len
    by_test true e = grind (arith, common_steps)
    by_test false e = omega arith

with_window : (t : Transfer) (bytes : List ℕ) → HasWindow t → length bytes ≤ t.len → HasWindow (with_bytes t bytes)
with_window t bytes w l =
    let a = w.window in let b = w.buffer in
    let long = same_length t.buf t.from bytes (omega arith) in
    record { window = omega arith; buffer = omega arith; within = l }

moved_window_by : (d : Direction) (max : ℕ) (t : Transfer) (replies : List Reply) → HasWindow t → HasWindow (moved_by d max t replies)
moved_window_by In max t replies w =
    let fits = good_fits max t.len [] replies in
    let none : lengths [] ≡ 0 = refl in
    with_window t (good_bytes max t.len [] replies) w (omega arith)
moved_window_by Out max t replies w = record { window = w.window; buffer = w.buffer; within = less t.len (max * acks replies) }
  where
    less : (len n : ℕ) → min len n ≤ len
    less len n = omega arith
moved_window_by ControlIn max t replies w = with_window t (data_in t.len replies) w (data_fits t.len replies)
moved_window_by ControlOut max t replies w = record { window = w.window; buffer = w.buffer; within = less t.len (takes_data replies) }
  where
    less : (len : ℕ) (b : Bool) → cond b len 0 ≤ len
    less len true = omega arith
    less len false = omega arith

pub moved_window : (shape : Shape) (t : Transfer) (replies : List Reply) → HasWindow t → HasWindow (moved shape t replies)
moved_window shape t replies w = moved_window_by (direction_of shape t) shape.max t replies w

input_kept : (max : ℕ) (r : Reply) (t : Transfer) → HasWindow t → HasWindow (input_moves max r t)
input_kept max Ack t w = w
input_kept max Nak t w = w
input_kept max Stall t w = w
input_kept max Error t w = w
input_kept max (Packet p) t w = go (nat_le (length p) max && nat_le (length p) (t.len - t.actual)) refl
  where
    go : (b : Bool) → (nat_le (length p) max && nat_le (length p) (t.len - t.actual)) ≡ b
        → HasWindow (cond b (record t { buf = take (t.from + t.actual) t.buf ++ p ++ drop (t.from + t.actual + length p) t.buf; actual = t.actual + length p }) t)
    go false e = w
    go true e = let a = w.window in let b = w.buffer in let d = w.within in
        let fits : t.actual + length p ≤ t.len = grind (arith, common_steps) in
        let long : length (take (t.from + t.actual) t.buf ++ p ++ drop (t.from + t.actual + length p) t.buf) ≡ length t.buf = grind (arith, common_steps) in
        record { window = omega arith; buffer = omega arith; within = fits }

output_kept : (max : ℕ) (r : Reply) (t : Transfer) → HasWindow t → HasWindow (output_moves max r t)
output_kept max Ack t w = record { window = w.window; buffer = w.buffer; within = let a = w.within in omega arith }
output_kept max Nak t w = w
output_kept max Stall t w = w
output_kept max Error t w = w
output_kept max (Packet p) t w = w

control_in_kept : (r : Reply) (t : Transfer) → HasWindow t → HasWindow (control_in_moves r t)
control_in_kept Ack t w = record { window = w.window; buffer = w.buffer; within = omega arith }
control_in_kept Nak t w = w
control_in_kept Stall t w = w
control_in_kept Error t w = w
control_in_kept (Packet p) t w = go (nat_le (length p) t.len) refl
  where
    go : (b : Bool) → nat_le (length p) t.len ≡ b → HasWindow (cond b (with_bytes t p) t)
    go false e = w
    go true e = with_window t p w (grind (arith, common_steps))

control_out_kept : (r : Reply) (t : Transfer) → HasWindow t → HasWindow (control_out_moves r t)
control_out_kept Ack t w = record { window = w.window; buffer = w.buffer; within = omega arith }
control_out_kept Nak t w = w
control_out_kept Stall t w = w
control_out_kept Error t w = w
control_out_kept (Packet p) t w = record { window = w.window; buffer = w.buffer; within = omega arith }

kept_by : (d : Direction) (max : ℕ) (r : Reply) (t : Transfer) → HasWindow t → HasWindow (moves_by d max r t)
kept_by In max r t w = input_kept max r t w
kept_by Out max r t w = output_kept max r t w
kept_by ControlIn max r t w = control_in_kept r t w
kept_by ControlOut max r t w = control_out_kept r t w

-- one reply keeps the window
pub window_kept : (shape : Shape) (r : Reply) (t : Transfer) → HasWindow t → HasWindow (reply_moves shape r t)
window_kept shape r t w = kept_by (direction_of shape t) shape.max r t w
