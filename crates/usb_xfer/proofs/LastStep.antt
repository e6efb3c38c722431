-- One more reply does what all the replies together do.
use Rattle.std.proofs.Common.{ℕ, ◌≡◌, if◌then◌else◌, Option, Some, None, List, [], ◌∷◌, ◌++◌, refl, sym, ap, ◌∙◌}
use Rattle.usb_machine.specs.declared.layout.Shape.{Shape}
use Rattle.usb_machine.specs.declared.transfer.Transfer.{Transfer}
use Rattle.usb_machine.specs.Shapes.{HasWindow}
use Rattle.usb_xfer.specs.declared.packet.Step.{Step}
use Rattle.usb_xfer.specs.Direction.{Direction, In, Out, ControlIn, ControlOut, goes_in, is_control, setup_in, direction_of}
use Rattle.usb_xfer.specs.Replies.{Reply, acked_by}
use Rattle.usb_xfer.specs.Moved.{stops_by, code_by, moved, moved_by, is_nak, state_by, IsOpen, acked_bytes, acked_in, question_of, question_by, reply_moves, moves_by, reply_step, step_by, IsLastStep, Advances}
use Rattle.usb_xfer.proofs.Ends.{state_after, whole_after}
use Rattle.usb_xfer.proofs.InputStep.{input_transfer, input_state}
use Rattle.usb_xfer.proofs.OutputStep.{output_transfer, output_state, output_acked}
use Rattle.usb_xfer.proofs.ControlStep.{control_in_transfer, control_in_state, control_out_transfer, control_out_state}

-- replies leave the setup packet, and so the direction
setup_kept : (d : Direction) (max : ℕ) (t : Transfer) (replies : List Reply) → (moved_by d max t replies).setup ≡ t.setup
setup_kept In max t replies = refl
setup_kept Out max t replies = refl
setup_kept ControlIn max t replies = refl
setup_kept ControlOut max t replies = refl

pub way_kept : (shape : Shape) (t : Transfer) (replies : List Reply) → direction_of shape (moved shape t replies) ≡ direction_of shape t
way_kept shape t replies =
    ap (λ (s : Option (List ℕ)). if is_control shape.kind then (if goes_in (setup_in s).kind then ControlIn else ControlOut) else (if goes_in shape.address then In else Out))
    (setup_kept (direction_of shape t) shape.max t replies)

module _ (shape : Shape) (start : Transfer) (replies : List Reply) (r : Reply) (w : HasWindow start) (e : IsOpen shape start replies) where
  abbrev Moves : Direction → Type 0
  Moves d = moves_by d shape.max r (moved_by d shape.max start replies) ≡ moved_by d shape.max start (replies ++ r ∷ [])

  transfer : (d : Direction) → direction_of shape start ≡ d → Moves d
  transfer In q = input_transfer shape start replies q w e r
  transfer Out q = output_transfer shape.max start replies r
  transfer ControlIn q = control_in_transfer shape start replies (λ before s. ap (λ d. stops_by d shape.max start before s) q) e r
  transfer ControlOut q = control_out_transfer shape start replies (λ before s. ap (λ d. stops_by d shape.max start before s) q) e r

  abbrev Answers : Direction → Type 0
  Answers d = step_by d shape.max r (moved_by d shape.max start replies)
      ≡ state_by (if stops_by d shape.max start replies r then Some (code_by d shape.max start replies r) else None) (is_nak r)

  state : (d : Direction) → direction_of shape start ≡ d → Answers d
  state In q = input_state shape start replies q w e r
  state Out q = output_state shape.max start replies r
  state ControlIn q = control_in_state shape start replies (λ before s. ap (λ d. stops_by d shape.max start before s) q) e r
  state ControlOut q = control_out_state shape start replies (λ before s. ap (λ d. stops_by d shape.max start before s) q) e r

  abbrev Acks : Direction → Type 0
  Acks d = acked_in d (moved_by d shape.max start (replies ++ r ∷ []))
      ≡ acked_in d (moved_by d shape.max start replies) ++ acked_by (question_by d shape.max (moved_by d shape.max start replies)) r

  acked : (d : Direction) → Acks d
  acked In = refl
  acked Out = output_acked shape.max start replies r
  acked ControlIn = refl
  acked ControlOut = refl

  way : direction_of shape (moved shape start replies) ≡ direction_of shape start
  way = way_kept shape start replies

  pub last_step : IsLastStep shape (moved shape start replies) (reply_moves shape r (moved shape start replies)) r (reply_step shape r (moved shape start replies)) start replies
  last_step = record {
    transfer = ap (λ d. moves_by d shape.max r (moved shape start replies)) way ∙ transfer (direction_of shape start) refl;
    state = ap (λ d. step_by d shape.max r (moved shape start replies)) way ∙ (state (direction_of shape start) refl ∙ sym (state_after shape start replies r e));
    whole = whole_after shape start replies r e;
    acked = acked (direction_of shape start)
        ∙ ap (λ d. acked_bytes shape start replies ++ acked_by (question_by d shape.max (moved shape start replies)) r) (sym way);
  }

-- what the table says of a reply is a step of the transfer
pub advances : (shape : Shape) (old new : Transfer) (r : Reply) (step : Step) → new ≡ reply_moves shape r old → step ≡ reply_step shape r old → Advances shape old new r step
advances shape old new r step m s = record {
  transfer = m;
  answer = s;
  last = λ start replies w o q. let l = last_step shape start replies r w o in
      record {
        transfer = m ∙ (ap (reply_moves shape r) q ∙ l.transfer);
        state = s ∙ (ap (reply_step shape r) q ∙ l.state);
        whole = l.whole;
        acked = l.acked ∙ ap (λ t. acked_bytes shape start replies ++ acked_by (question_of shape t) r) (sym q);
      };
}
