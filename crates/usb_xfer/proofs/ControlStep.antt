-- One more reply of a control transfer.
use Rattle.std.proofs.Common.{ℕ, ◌≡◌, ◌+◌, Bool, true, false, cond, nat_le, if◌then◌else◌, Some, None, List, [], ◌∷◌, ◌++◌, length, take, drop, refl, sym, ap, ◌∙◌, arith, append-nil}
use Rattle.std.proofs.lemmas.List.{take-append-drop}
use Rattle.usb_machine.specs.declared.layout.Shape.{Shape}
use Rattle.usb_machine.specs.declared.transfer.Transfer.{Transfer}
use Rattle.usb_xfer.specs.declared.script.What.TheVariants.{Ack, Nak, Stall, Error, Packet}
use Rattle.usb_xfer.specs.Replies.{Reply}
use Rattle.usb_xfer.specs.Input.{with_bytes}
use Rattle.usb_xfer.specs.Control.{control_stops, control_in_code, control_out_code, data_in, takes_data, control_in_moved, control_out_moved, control_in_moves, control_out_moves, control_in_step, control_out_step}
use Rattle.usb_xfer.specs.Moved.{stops, ending, is_nak, state_by, IsOpen}
use Rattle.usb_xfer.proofs.Ends.{goes_on, rest_open}

module _ (shape : Shape) (t : Transfer) (c : (before : List Reply) (r : Reply) → stops shape t before r ≡ control_stops r) where
  -- before the end there are only Naks
  waits : (b : List Reply) (s : Reply) (xs : List Reply) → ending shape t b (s ∷ xs) ≡ None → control_stops s ≡ false
  waits b s xs e = sym (c b s) ∙ goes_on shape t b s xs e

  no_data : (len : ℕ) (b xs : List Reply) → ending shape t b xs ≡ None → data_in len xs ≡ []
  no_data len b [] e = refl
  no_data len b (Ack ∷ xs) e = refl
  no_data len b (Nak ∷ xs) e = no_data len (b ++ Nak ∷ []) xs (rest_open shape t b Nak xs e)
  no_data len b (Stall ∷ xs) e = refl
  no_data len b (Error ∷ xs) e = refl
  no_data len b (Packet p ∷ xs) e = let f = waits b (Packet p) xs e in cc

  data_last : (len : ℕ) (b xs : List Reply) (r : Reply) → ending shape t b xs ≡ None → data_in len (xs ++ r ∷ []) ≡ data_in len (r ∷ [])
  data_last len b [] r e = refl
  data_last len b (Ack ∷ xs) r e = let f = waits b Ack xs e in cc
  data_last len b (Nak ∷ xs) r e = data_last len (b ++ Nak ∷ []) xs r (rest_open shape t b Nak xs e)
  data_last len b (Stall ∷ xs) r e = let f = waits b Stall xs e in cc
  data_last len b (Error ∷ xs) r e = let f = waits b Error xs e in cc
  data_last len b (Packet p ∷ xs) r e = let f = waits b (Packet p) xs e in cc

  takes_none : (b xs : List Reply) → ending shape t b xs ≡ None → takes_data xs ≡ false
  takes_none b [] e = refl
  takes_none b (Ack ∷ xs) e = let f = waits b Ack xs e in cc
  takes_none b (Nak ∷ xs) e = takes_none (b ++ Nak ∷ []) xs (rest_open shape t b Nak xs e)
  takes_none b (Stall ∷ xs) e = refl
  takes_none b (Error ∷ xs) e = refl
  takes_none b (Packet p ∷ xs) e = let f = waits b (Packet p) xs e in cc

  takes_last : (b xs : List Reply) (r : Reply) → ending shape t b xs ≡ None → takes_data (xs ++ r ∷ []) ≡ takes_data (r ∷ [])
  takes_last b [] r e = refl
  takes_last b (Ack ∷ xs) r e = let f = waits b Ack xs e in cc
  takes_last b (Nak ∷ xs) r e = takes_last (b ++ Nak ∷ []) xs r (rest_open shape t b Nak xs e)
  takes_last b (Stall ∷ xs) r e = let f = waits b Stall xs e in cc
  takes_last b (Error ∷ xs) r e = let f = waits b Error xs e in cc
  takes_last b (Packet p ∷ xs) r e = let f = waits b (Packet p) xs e in cc

with_none : (t : Transfer) → with_bytes t [] ≡ record t { actual = 0 }
with_none t = (λ i. record t { buf = same i; actual = 0 })
  where
    same : take t.from t.buf ++ [] ++ drop (t.from + 0) t.buf ≡ t.buf
    same = let none : t.from + 0 ≡ t.from = omega arith in
        (λ i. append-nil (take t.from t.buf) i ++ drop (none i) t.buf) ∙ take-append-drop t.from t.buf

moves_fresh : (start : Transfer) (r : Reply) → control_in_moves r (record start { actual = 0 }) ≡ with_bytes start (data_in start.len (r ∷ []))
moves_fresh start Ack = sym (with_none start)
moves_fresh start Nak = sym (with_none start)
moves_fresh start Stall = sym (with_none start)
moves_fresh start Error = sym (with_none start)
moves_fresh start (Packet p) = go (nat_le (length p) start.len)
  where
    go : (b : Bool) → cond b (with_bytes start p) (record start { actual = 0 }) ≡ with_bytes start (cond b p [])
    go true = refl
    go false = sym (with_none start)

takes_fresh : (start : Transfer) (r : Reply) → control_out_moves r (record start { actual = 0 }) ≡ record start { actual = if takes_data (r ∷ []) then start.len else 0 }
takes_fresh start Ack = refl
takes_fresh start Nak = refl
takes_fresh start Stall = refl
takes_fresh start Error = refl
takes_fresh start (Packet p) = refl

module _ (shape : Shape) (start : Transfer) (replies : List Reply) (c : (before : List Reply) (r : Reply) → stops shape start before r ≡ control_stops r) (e : IsOpen shape start replies) where
  pub control_in_transfer : (r : Reply) → control_in_moves r (control_in_moved start replies) ≡ control_in_moved start (replies ++ r ∷ [])
  control_in_transfer r =
      ap (control_in_moves r) (ap (with_bytes start) (no_data shape start c start.len [] replies e) ∙ with_none start)
      ∙ (moves_fresh start r ∙ ap (with_bytes start) (sym (data_last shape start c start.len [] replies r e)))

  pub control_out_transfer : (r : Reply) → control_out_moves r (control_out_moved start replies) ≡ control_out_moved start (replies ++ r ∷ [])
  control_out_transfer r =
      ap (λ b. control_out_moves r (record start { actual = if b then start.len else 0 })) (takes_none shape start c [] replies e)
      ∙ (takes_fresh start r ∙ ap (λ b. record start { actual = if b then start.len else 0 }) (sym (takes_last shape start c [] replies r e)))

  pub control_in_state : (r : Reply) → control_in_step r (control_in_moved start replies) ≡ state_by (if control_stops r then Some (control_in_code start.len start.short_not_ok r) else None) (is_nak r)
  control_in_state Ack = refl
  control_in_state Nak = refl
  control_in_state Stall = refl
  control_in_state Error = refl
  control_in_state (Packet p) = refl

  pub control_out_state : (r : Reply) → control_out_step r (control_out_moved start replies) ≡ state_by (if control_stops r then Some (control_out_code r) else None) (is_nak r)
  control_out_state Ack = refl
  control_out_state Nak = refl
  control_out_state Stall = refl
  control_out_state Error = refl
  control_out_state (Packet p) = refl
