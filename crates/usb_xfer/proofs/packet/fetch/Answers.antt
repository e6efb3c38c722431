use Rattle.std.proofs.Common.{◌≡◌, ℕ, ◌+◌, ◌-◌, ◌≤◌, min, Bool, true, false, cond, nat_le, ◌&&◌, List, ◌++◌, length, take, drop, ap, ◌∙◌, refl, arith}
use Rattle.std.proofs.lemmas.Grind.{common_steps}
use Rattle.usb_machine.specs.declared.transfer.Transfer.{Transfer}
use Rattle.usb_machine.specs.Shapes.{HasWindow}
use Rattle.usb_xfer.specs.Replies.{Reply, room_after}
use Rattle.usb_xfer.specs.declared.script.What.TheVariants.{Ack, Nak, Stall, Error, Packet}
use Rattle.usb_xfer.specs.Input.{filled}
use Rattle.usb_xfer.proofs.Rooms.{room_of, with_room, room_length, room_kept, room_begins}
use Rattle.usb_xfer.proofs.packet.fetch.Goals as goal

min_test : (l x y : ℕ) → nat_le l (min x y) ≡ (nat_le l x && nat_le l y)
min_test l x y = grind (arith, common_steps)

module _ (max : ℕ) (t : Transfer) (k : ℕ) (f : k ≡ min max (t.len - t.actual)) (w : HasWindow t) where
  abbrev at : ℕ
  at = t.from + t.actual

  fits : at + k ≤ length t.buf
  fits = let a = w.window in let b = w.within in omega arith

  abbrev mid : List ℕ
  mid = room_of at k t fits

  asked : (r : Reply) (new : List ℕ) → new ≡ room_after r (room_of at k t fits) → with_room at k t fits new ≡ filled max r t
  asked Ack new q = room_kept at k t fits new q
  asked Nak new q = room_kept at k t fits new q
  asked Stall new q = room_kept at k t fits new q
  asked Error new q = room_kept at k t fits new q
  asked (Packet p) new q = go (nat_le (length p) max && nat_le (length p) (t.len - t.actual)) refl
    where
      test : nat_le (length p) (length mid) ≡ (nat_le (length p) max && nat_le (length p) (t.len - t.actual))
      test = ap (λ n. nat_le (length p) n) (room_length at k t fits ∙ f) ∙ min_test (length p) max (t.len - t.actual)

      go : (s : Bool) → (nat_le (length p) max && nat_le (length p) (t.len - t.actual)) ≡ s
          → with_room at k t fits new ≡ cond s (record t { buf = take at t.buf ++ p ++ drop (at + length p) t.buf }) t
      go true e = let l : length p ≤ k = let g = test ∙ e in let h = room_length at k t fits in grind (arith, common_steps) in
          ap (with_room at k t fits) (q ∙ ap (λ z. cond z (p ++ drop (length p) mid) mid) (test ∙ e)) ∙ room_begins at k t fits p l
      go false e = room_kept at k t fits new (q ∙ ap (λ z. cond z (p ++ drop (length p) mid) mid) (test ∙ e))

pub returns : goal.returns
returns g c =
    let e = c.input.ensures in let t = c.args.t.now in
    let f : t.from + t.actual + c.next_size-room.result - (t.from + t.actual) ≡ min c.args.shape.now.max (t.len - t.actual) = let m = c.next_size-room.ensures in omega arith in
    let b = c.bytes_mut.ensures.value in
    let k = t.from + t.actual + c.next_size-room.result - (t.from + t.actual) in
    let room : c.input.new.room ≡ room_after e.0 (take k (drop (t.from + t.actual) t.buf)) = e.2.room ∙ ap (λ z. room_after e.0 (take k (drop (t.from + t.actual) z))) b in
    (e.0, e.1, e.2.heard, rw b (asked c.args.shape.now.max t k f c.requires e.0 c.input.new.room room))
