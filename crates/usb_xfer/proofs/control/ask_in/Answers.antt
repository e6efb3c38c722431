use Rattle.std.proofs.Common.{◌≡◌, ℕ, ◌+◌, ◌-◌, ◌≤◌, Bool, true, false, cond, nat_le, List, ◌++◌, length, take, drop, refl, ap, ◌∙◌, arith}
use Rattle.std.proofs.lemmas.Grind.{common_steps}
use Rattle.usb_machine.specs.declared.transfer.Transfer.{Transfer}
use Rattle.usb_machine.specs.Shapes.{HasWindow}
use Rattle.usb_xfer.specs.Replies.{Reply, room_after, control_room, control_heard}
use Rattle.usb_xfer.specs.declared.script.What.TheVariants.{Ack, Nak, Stall, Error, Packet}
use Rattle.usb_xfer.specs.Control.{data_filled}
use Rattle.usb_xfer.proofs.Rooms.{room_of, with_room, room_length, room_kept, room_begins}
use Rattle.usb_xfer.proofs.control.ask_in.Goals as goal

module _ (t : Transfer) (k : ℕ) (f : k ≡ t.len) (w : HasWindow t) where
  fits : t.from + k ≤ length t.buf
  fits = let a = w.window in omega arith

  abbrev mid : List ℕ
  mid = room_of t.from k t fits

  asked : (r : Reply) (new : List ℕ) → new ≡ room_after r (room_of t.from k t fits) → with_room t.from k t fits new ≡ data_filled r t
  asked Ack new q = room_kept t.from k t fits new q
  asked Nak new q = room_kept t.from k t fits new q
  asked Stall new q = room_kept t.from k t fits new q
  asked Error new q = room_kept t.from k t fits new q
  asked (Packet p) new q = go (nat_le (length p) t.len) refl
    where
      test : nat_le (length p) (length mid) ≡ nat_le (length p) t.len
      test = ap (λ n. nat_le (length p) n) (room_length t.from k t fits ∙ f)

      go : (s : Bool) → nat_le (length p) t.len ≡ s
          → with_room t.from k t fits new ≡ cond s (record t { buf = take t.from t.buf ++ p ++ drop (t.from + length p) t.buf }) t
      go true e = let l : length p ≤ k = grind (arith, common_steps) in
          ap (with_room t.from k t fits) (q ∙ ap (λ z. cond z (p ++ drop (length p) mid) mid) (test ∙ e)) ∙ room_begins t.from k t fits p l
      go false e = room_kept t.from k t fits new (q ∙ ap (λ z. cond z (p ++ drop (length p) mid) mid) (test ∙ e))

pub returns : goal.returns
returns g c =
    let e = c.control.ensures in let t = c.args.t.now in
    let k = t.from + t.len - t.from in
    let f : t.from + t.len - t.from ≡ t.len = omega arith in
    let b = c.bytes_mut.ensures.value in
    let room : c.control.new.room ≡ room_after e.0 (take k (drop t.from t.buf)) =
    e.2.room ∙ (ap (λ s. control_room s e.0 (take k (drop t.from c.bytes_mut.result.now))) c.requires.way ∙ ap (λ z. room_after e.0 (take k (drop t.from z))) b) in
    (e.0, e.1, e.2.heard ∙ ap (λ s. control_heard s 0 e.0) c.requires.way, rw b (asked t k f c.requires.window e.0 c.control.new.room room))
