-- What is asked, moved and answered, by the way of a transfer.
use Rattle.std.proofs.Common.{ℕ, ◌≡◌, Bool, true, false, if◌then◌else◌, sym, ap, ◌∙◌, subst}
use Rattle.usb_machine.specs.declared.layout.Shape.{Shape}
use Rattle.usb_machine.specs.declared.transfer.Transfer.{Transfer}
use Rattle.usb_xfer.specs.declared.packet.Step.{Step}
use Rattle.usb_xfer.specs.Direction.{Direction, In, Out, ControlIn, ControlOut, goes_in, is_control, setup_in, direction_of, asked_at}
use Rattle.usb_xfer.specs.Replies.{Reply, Question}
use Rattle.usb_xfer.specs.Moved.{question_of, question_by, moves_by, step_by, Advances}
use Rattle.usb_xfer.proofs.LastStep.{advances}

pub packet_way : (shape : Shape) (t : Transfer) → is_control shape.kind ≡ false → (b : Bool) → goes_in shape.address ≡ b → direction_of shape t ≡ (if b then In else Out)
packet_way shape t k b q = (λ i. if k i then (if goes_in (setup_in t.setup).kind then ControlIn else ControlOut) else (if q i then In else Out))

pub packet_at : (shape : Shape) → is_control shape.kind ≡ false → asked_at shape ≡ shape.address
packet_at shape k = ap (λ b. if b then 0 else shape.address) k

pub control_way : (shape : Shape) (t : Transfer) → is_control shape.kind ≡ true → (b : Bool) → goes_in (setup_in t.setup).kind ≡ b → direction_of shape t ≡ (if b then ControlIn else ControlOut)
control_way shape t k b q = (λ i. if k i then (if q i then ControlIn else ControlOut) else (if goes_in shape.address then In else Out))

pub control_at : (shape : Shape) → is_control shape.kind ≡ true → asked_at shape ≡ 0
control_at shape k = ap (λ b. if b then 0 else shape.address) k

-- what was asked and moved in one direction was asked and moved by the table
pub went : {D : Type 0} (replies : ℕ → Question → Reply → D → Type 0) (shape : Shape) (t new : Transfer) (d : Direction) (at : ℕ) (r : Reply) (m : D) (step : Step)
    → direction_of shape t ≡ d → asked_at shape ≡ at → replies at (question_by d shape.max t) r m → new ≡ moves_by d shape.max r t → step ≡ step_by d shape.max r t
    → replies (asked_at shape) (question_of shape t) r m × Advances shape t new r step
went replies shape t new d at r m step way place asked moved answer = (
  subst (λ a. replies a (question_of shape t) r m) (sym place) (subst (λ d. replies at (question_by d shape.max t) r m) (sym way) asked),
  advances shape t new r step (moved ∙ ap (λ d. moves_by d shape.max r t) (sym way)) (answer ∙ ap (λ d. step_by d shape.max r t) (sym way)),
)
