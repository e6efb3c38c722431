-- One packet more.
use Rattle.std.proofs.Common.{ℕ, ◌≡◌, ◌≢◌, ◌+◌, ◌-◌, ◌<◌, ◌≤◌, min, Bool, true, false, ◌&&◌, ◌||◌, cond, nat_le, nat_lt, Option, Some, None, List, [], ◌∷◌, ◌++◌, length, take, drop, refl, sym, ap, ◌∙◌, subst, arith, append_assoc, append-nil, length-append}
use Rattle.std.specs.Prelude.{◌==◌}
use Rattle.std.proofs.lemmas.Grind.{common_steps}
use Rattle.std.proofs.lemmas.List.{take-append-le}
use Rattle.std.proofs.Math.Seq.{take-length}
use mathlib.Core.Logic.{dite}
use native.Mathlib.Decide.{ℕ_discrete}
use Rattle.usb_types.specs.declared.errno.Code.{Code}
use Rattle.usb_types.specs.declared.errno.Code.TheVariants.{Zero, Fault}
use Rattle.usb_types.specs.declared.errno.Errno.TheVariants.{EOVERFLOW, EREMOTEIO}
use Rattle.usb_machine.specs.declared.layout.Shape.{Shape}
use Rattle.usb_machine.specs.declared.transfer.Transfer.{Transfer}
use Rattle.usb_machine.specs.Shapes.{HasWindow}
use Rattle.usb_xfer.specs.declared.script.What.TheVariants.{Ack, Nak, Stall, Error, Packet}
use Rattle.usb_xfer.specs.declared.packet.Step.{Step}
use Rattle.usb_xfer.specs.declared.packet.Step.TheVariants.{More, Ended}
use Rattle.usb_xfer.specs.Direction.{Direction, In, Out, ControlIn, ControlOut, direction_of}
use Rattle.usb_xfer.specs.Replies.{Reply}
use Rattle.usb_xfer.specs.Input.{input_moves, input_step}
use Rattle.usb_xfer.specs.Output.{size_of_next, output_moves, output_step}
use Rattle.usb_xfer.specs.Control.{control_in_step, control_out_step}
use Rattle.usb_xfer.specs.Moved.{moved, moved_state, state_by, IsOpen, IsWhole, reply_moves, moves_by, reply_step, step_by, Advances}
use Rattle.usb_xfer.specs.On.{GoneOn, RunsOn}
use Rattle.usb_xfer.proofs.Windows.{window_kept}

open_state : (c : Option Code) (b : Bool) → state_by c b ≡ More → c ≡ None
open_state (Some c) b e = cc
open_state None b e = refl

-- a packet after which an IN transfer goes on fills the packet size
input_falls : (max : ℕ) (r : Reply) (t : Transfer) → 0 < max → HasWindow t → input_step max r t ≡ More → (input_moves max r t).len - (input_moves max r t).actual < t.len - t.actual
input_falls max Ack t m w e = cc
input_falls max Nak t m w e = cc
input_falls max Stall t m w e = cc
input_falls max Error t m w e = cc
input_falls max (Packet p) t m w e = go (nat_le (length p) max && nat_le (length p) (t.len - t.actual)) refl e
  where
    full : (s q : Bool) (c : Code) → cond (s || q) (Ended c) More ≡ More → s ≡ false
    full true q c e = cc
    full false q c e = refl

    go : (b : Bool) → (nat_le (length p) max && nat_le (length p) (t.len - t.actual)) ≡ b
        → cond b (cond (nat_lt (length p) max || (t.actual + length p == t.len)) (Ended (cond (t.short_not_ok && nat_lt (t.actual + length p) t.len) (Fault EREMOTEIO) Zero)) More) (Ended (Fault EOVERFLOW)) ≡ More
        → (cond b (record t { buf = take (t.from + t.actual) t.buf ++ p ++ drop (t.from + t.actual + length p) t.buf; actual = t.actual + length p }) t).len - (cond b (record t { buf = take (t.from + t.actual) t.buf ++ p ++ drop (t.from + t.actual + length p) t.buf; actual = t.actual + length p }) t).actual < t.len - t.actual
    go false e h = cc
    go true e h = let f = full (nat_lt (length p) max) (t.actual + length p == t.len) (cond (t.short_not_ok && nat_lt (t.actual + length p) t.len) (Fault EREMOTEIO) Zero) h in
        let fits : length p ≤ t.len - t.actual = grind (arith, common_steps) in
        let big : max ≤ length p = grind (arith, common_steps) in omega arith

-- an OUT transfer goes on only before its length is reached
output_falls : (max : ℕ) (r : Reply) (t : Transfer) → 0 < max → HasWindow t → output_step max r t ≡ More → (output_moves max r t).len - (output_moves max r t).actual < t.len - t.actual
output_falls max Nak t m w e = cc
output_falls max Stall t m w e = cc
output_falls max Error t m w e = cc
output_falls max (Packet p) t m w e = cc
output_falls max Ack t m w e = go (t.actual + size_of_next max t == t.len) refl e
  where
    go : (b : Bool) → (t.actual + size_of_next max t == t.len) ≡ b → cond b (Ended Zero) More ≡ More → t.len - (t.actual + min max (t.len - t.actual)) < t.len - t.actual
    go true q h = cc
    go false q h = let a = w.within in
        let less : t.actual + min max (t.len - t.actual) ≢ t.len = grind (arith, common_steps) in omega arith

-- a control transfer never goes on
control_in_stays : (r : Reply) (t : Transfer) → control_in_step r t ≢ More
control_in_stays Ack t e = cc
control_in_stays Nak t e = cc
control_in_stays Stall t e = cc
control_in_stays Error t e = cc
control_in_stays (Packet p) t e = cc

control_out_stays : (r : Reply) (t : Transfer) → control_out_step r t ≢ More
control_out_stays Ack t e = cc
control_out_stays Nak t e = cc
control_out_stays Stall t e = cc
control_out_stays Error t e = cc
control_out_stays (Packet p) t e = cc

falls_by : (d : Direction) (max : ℕ) (r : Reply) (t : Transfer) → 0 < max → HasWindow t → step_by d max r t ≡ More → (moves_by d max r t).len - (moves_by d max r t).actual < t.len - t.actual
falls_by In max r t m w e = input_falls max r t m w e
falls_by Out max r t m w e = output_falls max r t m w e
falls_by ControlIn max r t m w e = absurd (control_in_stays r t e)
falls_by ControlOut max r t m w e = absurd (control_out_stays r t e)

-- what is left to move falls where the transfer goes on
pub falls : (shape : Shape) (r : Reply) (t : Transfer) → 0 < shape.max → HasWindow t → reply_step shape r t ≡ More → (reply_moves shape r t).len - (reply_moves shape r t).actual < t.len - t.actual
falls shape r t m w e = falls_by (direction_of shape t) shape.max r t m w e

module _ (shape : Shape) (old now new : Transfer) (more : List Reply) (r : Reply) (step : Step) (a : Advances shape now new r step) (g : GoneOn shape old now more) where
  window : HasWindow new
  window = subst HasWindow (sym a.transfer) (window_kept shape r now g.window)

  shorter : (k : ℕ) → k ≤ length more → take k (more ++ r ∷ []) ≡ take k more
  shorter k l = take-append-le k more (r ∷ []) l

  pub goes_on : step ≡ More → GoneOn shape old new (more ++ r ∷ [])
  goes_on is = record {
    window = window;
    so_far = λ start before w o q. let f = g.so_far start before w o q in let l = a.last start (before ++ more) w f.going f.transfer in
        let same = append_assoc before more (r ∷ []) in
        let state : moved_state shape start (before ++ (more ++ r ∷ [])) ≡ More = ap (moved_state shape start) (sym same) ∙ (sym l.state ∙ is) in
        record {
          transfer = l.transfer ∙ ap (moved shape start) same;
          going = open_state _ _ state;
          each = λ k p q. dite (ℕ_discrete k (length (more ++ r ∷ [])))
              (λ e. subst (λ l. moved_state shape start (before ++ l) ≡ More) (sym (ap (λ (n : ℕ). take n (more ++ r ∷ [])) e ∙ take-length (more ++ r ∷ []))) state)
              (λ e. let n = length-append more (r ∷ []) in let s : k ≤ length more = omega arith in subst (λ l. moved_state shape start (before ++ l) ≡ More) (sym (shorter k s)) (f.each k p s));
        };
  }

  pub stops_at : step ≢ More → RunsOn shape old new (more ++ r ∷ []) step
  stops_at off = record {
    window = window;
    some = let n = length-append more (r ∷ []) in omega arith;
    stopped = off;
    stops = λ start before w o q. let f = g.so_far start before w o q in let l = a.last start (before ++ more) w f.going f.transfer in
        let same = append_assoc before more (r ∷ []) in
        record {
          transfer = l.transfer ∙ ap (moved shape start) same;
          state = l.state ∙ ap (moved_state shape start) same;
          whole = subst (IsWhole shape start) same l.whole;
          each = λ k p q. let n = length-append more (r ∷ []) in let s : k ≤ length more = omega arith in subst (λ l. moved_state shape start (before ++ l) ≡ More) (sym (shorter k s)) (f.each k p s);
        };
  }

pub gone_nowhere : (shape : Shape) (t : Transfer) → HasWindow t → GoneOn shape t t []
gone_nowhere shape t w = record {
  window = w;
  so_far = λ start before u o q. record {
    transfer = q ∙ ap (moved shape start) (sym (append-nil before));
    going = subst (IsOpen shape start) (sym (append-nil before)) o;
    each = λ k p q. absurd (omega arith);
  };
}
