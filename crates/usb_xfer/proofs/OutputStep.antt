-- One more reply of an OUT endpoint.
use Rattle.std.proofs.Common.{ℕ, ◌≡◌, ◌+◌, ◌-◌, ◌*◌, min, Bool, true, false, cond, nat_le, if◌then◌else◌, Some, None, List, [], ◌∷◌, ◌++◌, take, drop, refl, sym, ap, ◌∙◌, arith, append-nil}
use Rattle.std.specs.Prelude.{◌==◌}
use Rattle.std.proofs.lemmas.Grind.{common_steps}
use Rattle.std.proofs.lemmas.List.{drop-drop}
use Rattle.std.proofs.lemmas.List.Sums.{sum_by-append}
use Rattle.std.proofs.Math.Seq.{take-add}
use Rattle.usb_types.specs.declared.errno.Code.TheVariants.{Zero}
use Rattle.usb_machine.specs.declared.transfer.Transfer.{Transfer}
use Rattle.usb_xfer.specs.declared.script.What.TheVariants.{Ack, Nak, Stall, Error, Packet}
use Rattle.usb_xfer.specs.declared.packet.Step.TheVariants.{More, Ended}
use Rattle.usb_xfer.specs.Replies.{Reply, Send, acked_by}
use Rattle.usb_xfer.specs.Output.{is_ack, acks, output_stops, output_code, output_moved, size_of_next, next_packet, output_moves, output_step}
use Rattle.usb_xfer.specs.Moved.{is_nak, state_by}

acks-snoc : (xs : List Reply) (r : Reply) → acks (xs ++ r ∷ []) ≡ acks xs + acks (r ∷ [])
acks-snoc xs r = sum_by-append (λ x. cond (is_ack x) 1 0) xs (r ∷ [])

-- a full packet more, up to the window's length
one_packet : (len max n : ℕ) → min len n + min max (len - min len n) ≡ min len (n + max)
one_packet len max n = omega arith

module _ (max : ℕ) (start : Transfer) (replies : List Reply) where
  abbrev now : Transfer
  now = output_moved max start replies

  abbrev many : ℕ
  many = max * acks replies

  one_more : max * acks (replies ++ Ack ∷ []) ≡ many + max
  one_more = ap (λ n. max * n) (acks-snoc replies Ack) ∙ grind (arith, common_steps)

  ack_moves : now.actual + size_of_next max now ≡ min start.len (max * acks (replies ++ Ack ∷ []))
  ack_moves = one_packet start.len max many ∙ ap (λ n. min start.len n) (sym one_more)

  none : (r : Reply) → acks (r ∷ []) ≡ 0 → max * acks (replies ++ r ∷ []) ≡ many
  none r e = ap (λ n. max * n) (acks-snoc replies r ∙ omega arith)

  none_moves : (r : Reply) → acks (r ∷ []) ≡ 0 → output_moved max start replies ≡ output_moved max start (replies ++ r ∷ [])
  none_moves r e = ap (λ n. record start { actual = min start.len n }) (sym (none r e))

  pub output_transfer : (r : Reply) → output_moves max r now ≡ output_moved max start (replies ++ r ∷ [])
  output_transfer Ack = ap (λ n. record start { actual = n }) ack_moves
  output_transfer Nak = none_moves Nak refl
  output_transfer Stall = none_moves Stall refl
  output_transfer Error = none_moves Error refl
  output_transfer (Packet p) = none_moves (Packet p) refl

  comes_to : (len n : ℕ) → (min len n == len) ≡ nat_le len n
  comes_to len n = grind (arith, common_steps)

  by_test : (b : Bool) → cond b (Ended Zero) More ≡ state_by (cond b (Some Zero) None) false
  by_test true = refl
  by_test false = refl

  pub output_state : (r : Reply) → output_step max r now ≡ state_by (if output_stops max start.len replies r then Some (output_code r) else None) (is_nak r)
  output_state Ack =
      ap (λ n. if n == start.len then Ended Zero else More) (ack_moves ∙ ap (λ n. min start.len (max * n)) (acks-snoc replies Ack))
      ∙ (ap (λ b. if b then Ended Zero else More) (comes_to start.len (max * (acks replies + 1)))
      ∙ by_test (nat_le start.len (max * (acks replies + 1))))
  output_state Nak = refl
  output_state Stall = refl
  output_state Error = refl
  output_state (Packet p) = refl

  window : List ℕ
  window = drop start.from start.buf

  none_acked : (r : Reply) → acks (r ∷ []) ≡ 0 → take (min start.len (max * acks (replies ++ r ∷ []))) (drop start.from start.buf) ≡ take now.actual (drop start.from start.buf) ++ []
  none_acked r e = ap (λ n. take (min start.len n) (drop start.from start.buf)) (none r e) ∙ sym (append-nil (take now.actual (drop start.from start.buf)))

  pub output_acked : (r : Reply) → take (min start.len (max * acks (replies ++ r ∷ []))) (drop start.from start.buf) ≡ take now.actual (drop start.from start.buf) ++ acked_by (Send (next_packet max now)) r
  output_acked Ack =
      ap (λ n. take n (drop start.from start.buf)) (sym ack_moves)
      ∙ (take-add now.actual (size_of_next max now) (drop start.from start.buf)
      ∙ ap (λ l. take now.actual (drop start.from start.buf) ++ take (size_of_next max now) l) (drop-drop now.actual start.from start.buf))
  output_acked Nak = none_acked Nak refl
  output_acked Stall = none_acked Stall refl
  output_acked Error = none_acked Error refl
  output_acked (Packet p) = none_acked (Packet p) refl
