-- What a device has received of a transfer's packets is what the transfer has acknowledged.
use Rattle.std.proofs.Common.{ℕ, ◌≡◌, ◌<◌, List, [], ◌∷◌, ◌++◌, length, take, sym, ap, ◌∙◌, subst, arith, append_assoc, append-nil, length-append}
use Rattle.std.proofs.lemmas.List.{take-append-le}
use Rattle.std.proofs.Math.Seq.{take-length}
use Rattle.usb_machine.specs.declared.layout.Shape.{Shape}
use Rattle.usb_machine.specs.declared.transfer.Transfer.{Transfer}
use Rattle.usb_machine.specs.Shapes.{HasWindow}
use Rattle.usb_xfer.specs.Direction.{asked_at}
use Rattle.usb_xfer.specs.Replies.{Reply, Question, acked_by}
use Rattle.usb_xfer.specs.Moved.{moved, IsOpen, acked_bytes, question_of, reply_moves}
use Rattle.usb_xfer.specs.On.{Gave, nothing, one_more}
use Rattle.usb_xfer.proofs.LastStep.{last_step}

module _ {D : Type 0} (replies : D → ℕ → Question → Reply → D → Type 0) (shape : Shape) (start : Transfer) (before : List Reply) (w : HasWindow start) where
  -- the transfer is open before each of these replies
  abbrev pub IsOpenFor : List Reply → Type 0
  IsOpenFor rs = (k : ℕ) → k < length rs → IsOpen shape start (before ++ take k rs)

  open_front : (rs : List Reply) (r : Reply) → IsOpenFor (rs ++ r ∷ []) → IsOpenFor rs
  open_front rs r o k l = let n = length-append rs (r ∷ []) in
      subst (λ l. IsOpen shape start (before ++ l)) (take-append-le k rs (r ∷ []) (omega arith)) (o k (omega arith))

  open_last : (rs : List Reply) (r : Reply) → IsOpenFor (rs ++ r ∷ []) → IsOpen shape start (before ++ rs)
  open_last rs r o = let n = length-append rs (r ∷ []) in
      subst (λ l. IsOpen shape start (before ++ l)) (take-append-le (length rs) rs (r ∷ []) (omega arith) ∙ take-length rs) (o (length rs) (omega arith))

  -- the transfer in the chain is the one that the replies moved
  pub gave_moved : (t : Transfer) (d : D) (rs : List Reply) (now : Transfer) (e : D) → Gave replies shape t d rs now e → t ≡ moved shape start before → IsOpenFor rs → now ≡ moved shape start (before ++ rs)
  gave_moved t d _ _ _ nothing q o = q ∙ ap (moved shape start) (sym (append-nil before))
  gave_moved t d _ _ _ (one_more rs now m r e g one) q o =
      let here = gave_moved t d rs now m g q (open_front rs r o) in
      ap (reply_moves shape r) here ∙ ((last_step shape start (before ++ rs) r w (open_last rs r o)).transfer ∙ ap (moved shape start) (append_assoc before rs (r ∷ [])))

  -- a device that adds what it acknowledges to what it had received does so over a run of replies
  pub received_more : (received : D → List ℕ) → ((m : D) (question : Question) (r : Reply) (e : D) → replies m (asked_at shape) question r e → received e ≡ received m ++ acked_by question r)
      → (t : Transfer) (d : D) (rs : List Reply) (now : Transfer) (e : D) → Gave replies shape t d rs now e → t ≡ moved shape start before → IsOpenFor rs
      → (earlier : List ℕ) → received d ≡ earlier ++ acked_bytes shape start before → received e ≡ earlier ++ acked_bytes shape start (before ++ rs)
  received_more received adds t d _ _ _ nothing q o earlier had = had ∙ ap (λ l. earlier ++ acked_bytes shape start l) (sym (append-nil before))
  received_more received adds t d _ _ _ (one_more rs now m r e g one) q o earlier had =
      let here = gave_moved t d rs now m g q (open_front rs r o) in
      let has = received_more received adds t d rs now m g q (open_front rs r o) earlier had in
      adds m (question_of shape now) r e one
      ∙ ((λ i. has i ++ acked_by (question_of shape (here i)) r)
      ∙ (append_assoc earlier (acked_bytes shape start (before ++ rs)) (acked_by (question_of shape (moved shape start (before ++ rs))) r)
      ∙ ap (λ l. earlier ++ l) (sym (last_step shape start (before ++ rs) r w (open_last rs r o)).acked
      ∙ ap (acked_bytes shape start) (append_assoc before rs (r ∷ [])))))
