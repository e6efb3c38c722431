use Rattle.std.proofs.Common.{◌≡◌, [], ◌∷◌, ◌++◌, refl, sym, ap, ◌∙◌, subst}
use Rattle.usb_types.specs.declared.errno.Code.{Code}
use Rattle.usb_types.specs.declared.errno.Code.TheVariants.{Zero, Fault}
use Rattle.usb_machine.specs.declared.event.Event.TheVariants.{Submit, Link, Rest}
use Rattle.usb_machine.specs.Plain.{Stands}
use Rattle.usb_trace.specs.declared.rows.Outcome.{Outcome}
use Rattle.usb_trace.specs.declared.rows.Outcome.TheVariants as outcome
use Rattle.usb_trace.specs.Plan.{machine_of, question_at}
use Rattle.usb_trace.specs.Run.{moved_in, resent, handled_by}
use Rattle.usb_line.specs.Steps.{told_code}
use Rattle.usb_line.specs.Back.{given_after}
use Rattle.usb_line.proofs.Stepping.{enters, two_more, number_again, submit, rest, link, acted, submit_next, is_zero_code}
use Rattle.usb_line.proofs.giveback.resubmit.Goals as goal

pub returns-in-Fault-clause-resubmitted : goal.returns-in-Fault-clause-resubmitted
returns-in-Fault-clause-resubmitted c = λ s h r says stands can at number is.
    let same = sym number ∙ number_again s h r can in
    let one = enters _ _ _ _ _ c.enter.ensures.entered s (given_after h r) (submit s h r can says) refl (λ i. Submit record { 0 = sym at i } (same i)) stands (submit_next s h r can says is) tt in
    let told : c.code_in-code.result ≡ says = c.code_in-code.ensures ∙ ap told_code one.0 in
    let refused : says ≡ Fault c.in-Fault.field-0 = sym told ∙ c.in-Fault.is in
    let did : r.outcome ≡ outcome.Again (Fault c.in-Fault.field-0) = is ∙ ap outcome.Again refused in
    let mid = subst (λ (a : Code). Stands c.enter.new.plain (machine_of s) (given_after h r ++ submit s h r can a ∷ [])) refused one.1 in
    let two = enters _ _ _ _ _ c.enter-in-Fault.ensures.entered s (given_after h r ++ submit s h r can (Fault c.in-Fault.field-0) ∷ []) (rest s h r can (resent s r)) refl
    (λ i. Rest record { 0 = sym at i } (same i)) mid (acted s h r can (outcome.Again (Fault c.in-Fault.field-0)) did).1.0 tt in (
      told,
      subst (λ (o : Outcome). Stands c.enter-in-Fault.new.plain (machine_of s) (given_after h r ++ handled_by s r.urb (moved_in s r) (resent s r) (question_at s r.urb) o)) (sym did)
          (two_more c.enter-in-Fault.new.plain (machine_of s) (given_after h r) (submit s h r can (Fault c.in-Fault.field-0)) (rest s h r can (resent s r)) two.1),
    )

pub returns-clause-resubmitted : goal.returns-clause-resubmitted
returns-clause-resubmitted c = λ s h r says stands can at number is.
    let same = sym number ∙ number_again s h r can in
    let one = enters _ _ _ _ _ c.enter.ensures.entered s (given_after h r) (submit s h r can says) refl (λ i. Submit record { 0 = sym at i } (same i)) stands (submit_next s h r can says is) tt in
    let told : c.code_in-code.result ≡ says = c.code_in-code.ensures ∙ ap told_code one.0 in
    let accepted : says ≡ Zero = sym told ∙ is_zero_code c.code_in-code.result c.in_default.not-Fault in
    let did : r.outcome ≡ outcome.Again Zero = is ∙ ap outcome.Again accepted in
    let mid = subst (λ (a : Code). Stands c.enter.new.plain (machine_of s) (given_after h r ++ submit s h r can a ∷ [])) accepted one.1 in
    let two = enters _ _ _ _ _ c.enter-2.ensures.entered s (given_after h r ++ submit s h r can Zero ∷ []) (link s h r can) refl
    (λ i. Link record { 0 = sym at i }) mid (acted s h r can (outcome.Again Zero) did).1.0 tt in (
      told,
      subst (λ (o : Outcome). Stands c.enter-2.new.plain (machine_of s) (given_after h r ++ handled_by s r.urb (moved_in s r) (resent s r) (question_at s r.urb) o)) (sym did)
          (two_more c.enter-2.new.plain (machine_of s) (given_after h r) (submit s h r can Zero) (link s h r can) two.1),
    )
