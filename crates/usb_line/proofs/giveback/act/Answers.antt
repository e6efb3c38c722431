use Rattle.std.proofs.Common.{◌≡◌, ◌++◌, ◌∷◌, [], Option, Some, List, refl, sym, ap, ◌∙◌, subst, append_assoc}
use Rattle.usb_types.specs.declared.errno.Code.{Code}
use Rattle.usb_machine.specs.declared.entry.TheConstants.{SERVER}
use Rattle.usb_machine.specs.declared.entry.Entry.{Entry}
use Rattle.usb_machine.specs.declared.event.Event.TheVariants.{Rest}
use Rattle.usb_machine.specs.State.{refusal}
use Rattle.usb_machine.specs.Shapes.{shape_fault}
use Rattle.usb_machine.specs.History.{state_of}
use Rattle.usb_machine.specs.Plain.{Stands}
use Rattle.usb_prepare.specs.Ends.{shape_at}
use Rattle.usb_prepare.specs.Layout.{home}
use Rattle.usb_trace.specs.declared.rows.Outcome.{Outcome}
use Rattle.usb_trace.specs.declared.rows.Outcome.TheVariants as outcome
use Rattle.usb_trace.specs.Plan.{machine_of, DriverQuestion, question_at}
use Rattle.usb_trace.specs.Run.{moved_in, resent, rest_entry, asked_entries, handled_by}
use Rattle.usb_line.specs.Line.{submit_answer}
use Rattle.usb_line.specs.Back.{CanPose, CanPoseAny, IsGated, IsPosedBy, given_after}
use Rattle.usb_trace.proofs.Entries.{other_state}
use Rattle.usb_line.proofs.Stepping.{enters, number_back, rest, acted, again_says, rests, asks}
use Rattle.usb_line.proofs.giveback.act.Goals as goal

pub returns-then-again-clause-acted : goal.returns-then-again-clause-acted
returns-then-again-clause-acted c = λ s h r stands can at number is posed.
    let says = again_says r.outcome (is ∙ c.if-again.true) in
    let got = c.resubmit.ensures.resubmitted s h r says.0 stands can at number says.1 in
    (ap outcome.Again got.0 ∙ sym says.1, got.1)

pub returns-in-Some-clause-acted : goal.returns-in-Some-clause-acted
returns-in-Some-clause-acted c = λ s h r stands can at number is posed.
    let asked = asks s (question_at s r.urb) r.outcome c.in-Some.posed_question (is ∙ c.if-again.false) (subst (IsPosedBy s (question_at s r.urb) r.outcome) c.in-Some.is posed) in
    let a = asked.0 in
    let pose : CanPose s r.urb a = subst (CanPoseAny s r.urb) asked.2 can.asks in
    let same = sym number ∙ number_back s h r can in
    let x : Entry = rest_entry SERVER r.urb (moved_in s r) in
    let mid = (enters _ _ _ _ _ c.enter.ensures.entered s (given_after h r) x refl (λ i. Rest record { 0 = sym at i } (same i)) stands (acted s h r can (outcome.Asked asked.1) asked.3).0 tt).1 in
    let got = c.pose.ensures.asked s (given_after h r ++ x ∷ []) r.urb a mid pose asked.4 in
    let gate : asked.1 ≡ submit_answer (shape_fault (shape_at s (home s a.urb)) a.transfer) (refusal (state_of (given_after h r) a.urb))
    = subst (λ o. IsGated s (given_after h r) r.urb o (outcome.Asked asked.1)) asked.2 (subst (IsGated s (given_after h r) r.urb (question_at s r.urb)) asked.3 can.gated) in
    let one : c.pose.result ≡ asked.1 = got.0 ∙ (ap (λ t. submit_answer (shape_fault (shape_at s (home s a.urb)) a.transfer) (refusal t)) (other_state r.urb (given_after h r) (x ∷ []) (tt, refl, tt) a.urb pose.apart) ∙ sym gate) in (
      ap outcome.Asked one ∙ sym asked.3,
      subst (λ (o : Outcome). Stands c.pose.new.plain (machine_of s) (given_after h r ++ handled_by s r.urb (moved_in s r) (resent s r) (question_at s r.urb) o)) (sym asked.3)
          (subst (λ (o : Option DriverQuestion). Stands c.pose.new.plain (machine_of s) (given_after h r ++ x ∷ asked_entries s o asked.1)) (sym asked.2)
          (subst (λ (code : Code). Stands c.pose.new.plain (machine_of s) (given_after h r ++ x ∷ asked_entries s (Some a) code)) one
          (subst (λ (l : List Entry). Stands c.pose.new.plain (machine_of s) l) (append_assoc (given_after h r) (x ∷ []) (asked_entries s (Some a) c.pose.result)) got.1))),
    )

pub returns-in-None-clause-acted : goal.returns-in-None-clause-acted
returns-in-None-clause-acted c = λ s h r stands can at number is posed.
    let did = rests s (question_at s r.urb) r.outcome (is ∙ c.if-again.false) (subst (IsPosedBy s (question_at s r.urb) r.outcome) c.in-None.is posed) in
    let same = sym number ∙ number_back s h r can in
    let got = enters _ _ _ _ _ c.enter.ensures.entered s (given_after h r) (rest s h r can (moved_in s r)) refl (λ i. Rest record { 0 = sym at i } (same i)) stands (acted s h r can outcome.Rest did).0 tt in
    (sym did, subst (λ (o : Outcome). Stands c.enter.new.plain (machine_of s) (given_after h r ++ handled_by s r.urb (moved_in s r) (resent s r) (question_at s r.urb) o)) (sym did) got.1)
