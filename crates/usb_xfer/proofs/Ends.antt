-- Whether a list of replies with one more ends a transfer.
use Rattle.std.proofs.Common.{◌≡◌, Bool, true, false, cond, if◌then◌else◌, Option, Some, None, List, [], ◌∷◌, ◌++◌, refl, sym, ap, ◌∙◌, subst, append_assoc, append-nil, true≢false}
use Rattle.usb_types.specs.declared.errno.Code.{Code}
use Rattle.usb_machine.specs.declared.layout.Shape.{Shape}
use Rattle.usb_machine.specs.declared.transfer.Transfer.{Transfer}
use Rattle.usb_xfer.specs.Replies.{Reply}
use Rattle.usb_xfer.specs.Moved.{stops, end_code, ending, is_nak, ends_with_nak, state_by, moved_state, IsWhole, IsOpen}

nak-snoc : (xs : List Reply) (r : Reply) → ends_with_nak (xs ++ r ∷ []) ≡ is_nak r
nak-snoc [] r = refl
nak-snoc (y ∷ []) r = refl
nak-snoc (y ∷ z ∷ xs) r = nak-snoc (z ∷ xs) r

module _ (shape : Shape) (t : Transfer) where
  abbrev pub stop_at : List Reply → Reply → Option Code
  stop_at before r = if stops shape t before r then Some (end_code shape t before r) else None

  pub goes_on : (b : List Reply) (s : Reply) (xs : List Reply) → ending shape t b (s ∷ xs) ≡ None → stops shape t b s ≡ false
  goes_on b s xs e = go (stops shape t b s) refl e
    where
      go : (v : Bool) → stops shape t b s ≡ v → cond v (Some (end_code shape t b s)) (ending shape t (b ++ s ∷ []) xs) ≡ None → v ≡ false
      go true _ h = cc
      go false _ h = refl

  pub rest_open : (b : List Reply) (s : Reply) (xs : List Reply) → ending shape t b (s ∷ xs) ≡ None → ending shape t (b ++ s ∷ []) xs ≡ None
  rest_open b s xs e = let f = goes_on b s xs e in subst (λ v. cond v (Some (end_code shape t b s)) (ending shape t (b ++ s ∷ []) xs) ≡ None) f e

  -- the end of a list with one reply more
  ending-snoc : (b xs : List Reply) (r : Reply) → ending shape t b xs ≡ None → ending shape t b (xs ++ r ∷ []) ≡ stop_at (b ++ xs) r
  ending-snoc b [] r e = ap (λ l. stop_at l r) (sym (append-nil b))
  ending-snoc b (s ∷ xs) r e =
      ap (λ v. cond v (Some (end_code shape t b s)) (ending shape t (b ++ s ∷ []) (xs ++ r ∷ []))) (goes_on b s xs e)
      ∙ (ending-snoc (b ++ s ∷ []) xs r (rest_open b s xs e) ∙ ap (λ l. stop_at l r) (append_assoc b (s ∷ []) xs))

  -- nothing follows the reply that ends an open list with one reply more
  whole-snoc : (b xs : List Reply) (r : Reply) → ending shape t b xs ≡ None → (c : List Reply) (s : Reply) (after : List Reply)
      → xs ++ r ∷ [] ≡ c ++ s ∷ after → stops shape t (b ++ c) s ≡ true → after ≡ []
  whole-snoc b [] r e [] s after q f = cc
  whole-snoc b [] r e (d ∷ []) s after q f = cc
  whole-snoc b [] r e (d ∷ d' ∷ c) s after q f = cc
  whole-snoc b (y ∷ ys) r e [] s after q f =
      let same : y ≡ s = cc in
      absurd (true≢false (sym f ∙ (ap (λ l. stops shape t l s) (append-nil b) ∙ (ap (λ z. stops shape t b z) (sym same) ∙ goes_on b y ys e))))
  whole-snoc b (y ∷ ys) r e (d ∷ c) s after q f =
      let same : y ≡ d = cc in let rest : ys ++ r ∷ [] ≡ c ++ s ∷ after = cc in
      whole-snoc (b ++ y ∷ []) ys r (rest_open b y ys e) c s after rest
      (ap (λ l. stops shape t l s) (append_assoc b (y ∷ []) c ∙ ap (λ z. b ++ z ∷ c) same) ∙ f)

  module _ (replies : List Reply) (r : Reply) (e : IsOpen shape t replies) where
    pub state_after : moved_state shape t (replies ++ r ∷ []) ≡ state_by (stop_at replies r) (is_nak r)
    state_after = (λ i. state_by (ending-snoc [] replies r e i) (nak-snoc replies r i))

    pub whole_after : IsWhole shape t (replies ++ r ∷ [])
    whole_after = whole-snoc [] replies r e
