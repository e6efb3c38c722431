-- What an endpoint has received is what its replies acknowledged.
use Rattle.std.proofs.Common.{ℕ, ◌≡◌, ◌*◌, ◌≤◌, min, Bool, true, false, not, ◌&&◌, cond, eqb, if◌then◌else◌, List, [], ◌∷◌, ◌++◌, length, take, drop, refl, sym, ap, ◌∙◌, arith, append_assoc, append-nil, eqb-true, true≢false, length-take}
use Rattle.std.specs.Prelude.{nat_le, map, slice_get}
use Rattle.std.specs.List.{flat_map}
use Rattle.std.proofs.lemmas.Grind.{common_steps}
use Rattle.std.proofs.lemmas.List.{take-take, take_all}
use Rattle.std.proofs.lemmas.List.Concat.{flat_map-cons}
use Rattle.usb_machine.specs.declared.layout.Shape.{Shape}
use Rattle.usb_machine.specs.declared.transfer.Transfer.{Transfer}
use Rattle.usb_machine.specs.declared.entry.Entry.{Entry}
use Rattle.usb_device.specs.Replied.{call_of}
use Rattle.usb_xfer.specs.Direction.{Direction, In, Out, ControlIn, ControlOut, is_control, goes_in, setup_in, direction_of}
use Rattle.usb_xfer.specs.Replies.{Reply, Question, acked_by}
use Rattle.usb_xfer.specs.Output.{acks}
use Rattle.usb_xfer.specs.Control.{window_of}
use Rattle.usb_xfer.specs.Moved.{moved, moved_by, acked_in, acked_bytes, question_by, question_of}
use Rattle.usb_xfer.proofs.LastStep.{way_kept}
use Rattle.usb_xfer.proofs.OutputStep.{output_acked}
use Rattle.usb_scene.specs.declared.scene.Scene.{Scene}
use Rattle.usb_prepare.specs.Ends.{shape_at}
use Rattle.usb_prepare.specs.Layout.{home}
use Rattle.usb_trace.specs.Script.{replies_from}
use Rattle.usb_trace.specs.Plan.{script_of}
use Rattle.usb_trace.specs.Due.{is_ruled, heard_before, answers_from, next_due}
use Rattle.usb_trace.specs.Run.{CallRecord, Giveback, IsRun, moved_in, rounds_at, replies_in, asked_of}
use Rattle.usb_trace.specs.GivebackRow.{sent_bytes, acked_at}
use Rattle.usb_trace.specs.RunLaws.{acked_packets, takes_packets, acked_window}
use Rattle.usb_trace.proofs.Dues.{length-due}

module _ (shape : Shape) (t : Transfer) where
  -- one reply more
  acked_more : (before : List Reply) (r : Reply) → acked_bytes shape t (before ++ r ∷ []) ≡ acked_bytes shape t before ++ acked_by (question_of shape (moved shape t before)) r
  acked_more before r = go (direction_of shape t) ∙ ap (λ d. acked_bytes shape t before ++ acked_by (question_by d shape.max (moved shape t before)) r) (sym (way_kept shape t before))
    where
      go : (d : Direction) → acked_in d (moved_by d shape.max t (before ++ r ∷ []))
          ≡ acked_in d (moved_by d shape.max t before) ++ acked_by (question_by d shape.max (moved_by d shape.max t before)) r
      go In = refl
      go Out = output_acked shape.max t before r
      go ControlIn = refl
      go ControlOut = refl

  acked_on : (before replies : List Reply) → acked_bytes shape t (before ++ replies) ≡ acked_bytes shape t before ++ acked_packets shape t before replies
  acked_on before [] = ap (acked_bytes shape t) (append-nil before) ∙ sym (append-nil (acked_bytes shape t before))
  acked_on before (r ∷ replies) = ap (acked_bytes shape t) (sym (append_assoc before (r ∷ []) replies))
      ∙ (acked_on (before ++ r ∷ []) replies
      ∙ (ap (λ l. l ++ acked_packets shape t (before ++ r ∷ []) replies) (acked_more before r)
      ∙ append_assoc (acked_bytes shape t before) (acked_by (question_of shape (moved shape t before)) r) (acked_packets shape t (before ++ r ∷ []) replies)))

  acked_none : acked_bytes shape t [] ≡ []
  acked_none = go (direction_of shape t)
    where
      nothing : min t.len (shape.max * 0) ≡ 0
      nothing = omega arith

      go : (d : Direction) → acked_in d (moved_by d shape.max t []) ≡ []
      go In = refl
      go Out = ap (λ n. take n (drop t.from t.buf)) nothing
      go ControlIn = refl
      go ControlOut = refl

  -- a transfer's acknowledged bytes are its acknowledged packets
  pub packets_of : (replies : List Reply) → sent_bytes shape (moved shape t replies) ≡ acked_packets shape t [] replies
  packets_of replies = ap (λ d. acked_in d (moved shape t replies)) (way_kept shape t replies)
      ∙ (acked_on [] replies ∙ ap (λ l. l ++ acked_packets shape t [] replies) acked_none)

  -- by number
  shorter : (n : ℕ) (l : List ℕ) → take (min t.len n) l ≡ take n (take t.len l)
  shorter n l = go (nat_le n t.len) refl
    where
      go : (b : Bool) → nat_le n t.len ≡ b → take (min t.len n) l ≡ take n (take t.len l)
      go true is = let short : n ≤ t.len = grind (arith, common_steps) in
          let least : min t.len n ≡ n = omega arith in ap (λ k. take k l) least ∙ sym (take-take n t.len l short)
      go false is = let long : t.len ≤ n = grind (arith, common_steps) in
          let least : min t.len n ≡ t.len = omega arith in
          let size : length (take t.len l) ≡ min t.len (length l) = length-take t.len l in
          ap (λ k. take k l) least ∙ sym (take_all n (take t.len l) (omega arith))

  abbrev way_by : Bool → Bool → Direction
  way_by control goes = if control then (if goes_in (setup_in t.setup).kind then ControlIn else ControlOut) else (if goes then In else Out)

  pub window_of_acks : (replies : List Reply) → takes_packets shape ≡ true → sent_bytes shape (moved shape t replies) ≡ take (shape.max * acks replies) (window_of t)
  window_of_acks replies is = ap (λ d. acked_in d (moved shape t replies)) (way_kept shape t replies ∙ out (is_control shape.kind) (goes_in shape.address) is)
      ∙ (ap (λ d. take (moved_by d shape.max t replies).actual (drop (moved_by d shape.max t replies).from (moved_by d shape.max t replies).buf)) (out (is_control shape.kind) (goes_in shape.address) is)
      ∙ shorter (shape.max * acks replies) (drop t.from t.buf))
    where
      out : (control goes : Bool) → (not control && not goes) ≡ true → way_by control goes ≡ Out
      out true goes is = absurd (true≢false (sym is))
      out false true is = absurd (true≢false (sym is))
      out false false is = refl

module _ (s : Scene) (e : ℕ) where
  -- what is the same of each giveback of an endpoint is the same of all
  each_round : (f g : Giveback → List ℕ) → ((r : Giveback) → home s r.urb ≡ e → f r ≡ g r) → (rounds : List Giveback) → flat_map f (rounds_at s e rounds) ≡ flat_map g (rounds_at s e rounds)
  each_round f g same [] = refl
  each_round f g same (r ∷ rounds) = go (eqb (home s r.urb) e) refl (each_round f g same rounds)
    where
      go : (b : Bool) → eqb (home s r.urb) e ≡ b → flat_map f (rounds_at s e rounds) ≡ flat_map g (rounds_at s e rounds)
          → flat_map f (cond b (r ∷ rounds_at s e rounds) (rounds_at s e rounds)) ≡ flat_map g (cond b (r ∷ rounds_at s e rounds) (rounds_at s e rounds))
      go true is rest = flat_map-cons f r (rounds_at s e rounds) ∙ ((λ i. same r (eqb-true (home s r.urb) e is) i ++ rest i) ∙ sym (flat_map-cons g r (rounds_at s e rounds)))
      go false is rest = rest

  pub received_packets : (rounds : List Giveback) → acked_at s e rounds ≡ flat_map (λ r. acked_packets (shape_at s e) r.sent [] r.replies) (rounds_at s e rounds)
  received_packets = each_round (λ r. sent_bytes (shape_at s e) (moved_in s r)) (λ r. acked_packets (shape_at s e) r.sent [] r.replies)
      (λ r at. ap (λ d. sent_bytes (shape_at s e) (moved (shape_at s d) r.sent r.replies)) at ∙ packets_of (shape_at s e) r.sent r.replies)

  pub received_windows : takes_packets (shape_at s e) ≡ true → (rounds : List Giveback) → acked_at s e rounds ≡ flat_map (acked_window (shape_at s e)) (rounds_at s e rounds)
  received_windows is = each_round (λ r. sent_bytes (shape_at s e) (moved_in s r)) (acked_window (shape_at s e))
      (λ r at. ap (λ d. sent_bytes (shape_at s e) (moved (shape_at s d) r.sent r.replies)) at ∙ window_of_acks (shape_at s e) r.sent r.replies is)

  by_items : (qs : List Question) → is_ruled s e ≡ false → next_due s e [] qs ≡ replies_from (script_of s e) 0 (length qs)
  by_items qs off = ap (λ b. if b then answers_from (slice_get s.devices (shape_at s e).device) (heard_before s (shape_at s e).device ++ map (call_of 0) []) qs else replies_from (script_of s e) 0 (length qs)) off

  module _ (h : List Entry) (call_records : List CallRecord) (rounds : List Giveback) (run : IsRun s h call_records rounds) where
    pub replies_of_script : is_ruled s e ≡ false → replies_in (rounds_at s e rounds) ≡ replies_from (script_of s e) 0 (length (replies_in (rounds_at s e rounds)))
    replies_of_script off =
        let count : length (asked_of s e rounds) ≡ length (replies_in (rounds_at s e rounds)) = sym (ap length (run.replies e) ∙ length-due s e [] (asked_of s e rounds)) in
        run.replies e ∙ (by_items (asked_of s e rounds) off ∙ ap (replies_from (script_of s e) 0) count)
