-- A part of a transfer's buffer that a device was given as room.
use Rattle.std.proofs.Common.{◌≡◌, ℕ, ◌+◌, ◌≤◌, List, ◌++◌, length, take, drop, refl, sym, ap, ◌∙◌, subst, arith, append_assoc, length-drop}
use Rattle.std.proofs.lemmas.Grind.{common_steps}
use Rattle.std.proofs.lemmas.List.{take-append-drop, drop-append-le, drop-drop, length-take-le}
use Rattle.std.proofs.Math.Seq.{take-append_seam}
use borrow.Rule.Slice.PartMut.{put_mid, put_same}
use Rattle.usb_machine.specs.declared.transfer.Transfer.{Transfer}

over_whole : (x b : List ℕ) → length x ≡ length b → take (length b) (x ++ drop (length x) b) ≡ x
over_whole x b e = subst (λ (n : ℕ). take n (x ++ drop (length x) b) ≡ x) e (take-append_seam x (drop (length x) b))

part : (p y : List ℕ) (k : ℕ) → length p ≤ k → k ≤ length y → (p ++ drop (length p) (take k y)) ++ drop k y ≡ p ++ drop (length p) y
part p y k l m =
    let n : length p ≤ length (take k y) = let z = length-take-le k y m in omega arith in
    append_assoc p (drop (length p) (take k y)) (drop k y)
    ∙ ap (λ z. p ++ z) (sym (drop-append-le (length p) (take k y) (drop k y) n) ∙ ap (λ z. drop (length p) z) (take-append-drop k y))

put : (a k : ℕ) (b p : List ℕ) → a + k ≤ length b → length p ≤ k → put_mid a k b (p ++ drop (length p) (take k (drop a b))) ≡ take a b ++ p ++ drop (a + length p) b
put a k b p l m = ap (λ z. take a b ++ z) (part p (drop a b) k m (grind (arith, common_steps)) ∙ ap (λ z. p ++ z) (drop-drop (length p) a b)) ∙ sym (append_assoc (take a b) p (drop (a + length p) b))

module _ (at k : ℕ) (t : Transfer) (fits : at + k ≤ length t.buf) where
  abbrev pub room_of : List ℕ
  room_of = take k (drop at t.buf)

  -- the transfer when the room was given back
  abbrev pub with_room : List ℕ → Transfer
  with_room new = record t { buf = take (length t.buf) (put_mid at k t.buf new ++ drop (length (put_mid at k t.buf new)) t.buf) }

  pub room_length : length room_of ≡ k
  room_length = length-take-le k (drop at t.buf) (let l = length-drop at t.buf in omega arith)

  pub room_kept : (new : List ℕ) → new ≡ room_of → with_room new ≡ t
  room_kept new q = ap with_room q ∙ (ap (λ x. record t { buf = take (length t.buf) (x ++ drop (length x) t.buf) }) (put_same at k t.buf) ∙ (λ i. record t { buf = over_whole t.buf t.buf refl i }))

  pub room_begins : (p : List ℕ) → length p ≤ k → with_room (p ++ drop (length p) room_of) ≡ record t { buf = take at t.buf ++ p ++ drop (at + length p) t.buf }
  room_begins p l =
      let len : length (take at t.buf ++ p ++ drop (at + length p) t.buf) ≡ length t.buf = grind (arith, common_steps) in
      ap (λ x. record t { buf = take (length t.buf) (x ++ drop (length x) t.buf) }) (put at k t.buf p fits l) ∙ (λ i. record t { buf = over_whole (take at t.buf ++ p ++ drop (at + length p) t.buf) t.buf len i })
