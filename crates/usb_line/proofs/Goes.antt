-- How far the first pending transfer of an endpoint goes.
use Rattle.std.proofs.Common.{ℕ, ◌≡◌, ◌<◌, List, ◌++◌, length, take, sym, ap, ◌∙◌, subst, arith}
use Rattle.usb_machine.specs.declared.transfer.Transfer.{Transfer}
use Rattle.usb_xfer.specs.Replies.{Reply}
use Rattle.usb_xfer.specs.declared.packet.Step.{Step}
use Rattle.usb_xfer.specs.declared.packet.Step.TheVariants.{More}
use Rattle.usb_xfer.specs.Moved.{moved_state, IsWhole, question_of}
use Rattle.usb_xfer.specs.On.{Stops}
use Rattle.usb_scene.specs.declared.scene.Scene.{Scene}
use Rattle.usb_prepare.specs.Ends.{shape_at}
use Rattle.usb_trace.specs.Due.{asks, next_due}
use Rattle.usb_trace.proofs.Dues.{take-due}
use Rattle.usb_line.specs.Line.{Progress, asked_so_far, GoesTo}

-- what stops after these replies goes so far
pub goes : (s : Scene) (f : Progress) (e : ℕ) (t now : Transfer) (more : List Reply) (step : Step) → more ≡ next_due s e (asked_so_far s f e t) (asks s e t (length more)) → 0 < length more
    → Stops (shape_at s e) t (f.so_far e) more now step → GoesTo s f e t (length more) step
goes s f e t now more step is some st = record {
  some = some;
  before = λ k p q. subst (λ l. moved_state (shape_at s e) t (f.so_far e ++ l) ≡ More) (ap (take k) is ∙ take-due s e (asked_so_far s f e t) (question_of (shape_at s e) t) k (length more) (omega arith)) (st.each k p q);
  state = ap (λ l. moved_state (shape_at s e) t (f.so_far e ++ l)) (sym is) ∙ sym st.state;
  whole = subst (λ l. IsWhole (shape_at s e) t (f.so_far e ++ l)) is st.whole;
}
