use Rattle.std.proofs.Common.{◌≡◌, ◌++◌, ◌∷◌, [], sym, ◌∙◌, subst}
use Rattle.usb_machine.specs.declared.event.Answer.{Answer}
use Rattle.usb_machine.specs.Plain.{Stands}
use Rattle.usb_machine.specs.Calls.{entry}
use Rattle.usb_trace.specs.Plan.{machine_of}
use Rattle.usb_line.proofs.steps.enter.Goals as goal

pub returns-clause-entered : goal.returns-clause-entered
returns-clause-entered c s h a t stands follows room =
    let same : c.step.result ≡ a = c.step.ensures.answer (machine_of s) h stands ∙ sym follows.answers in (
      same,
      subst (λ (a : Answer). Stands c.step.new.self (machine_of s) (h ++ entry c.args.pass c.args.event a t ∷ [])) same
          (c.step.ensures.stands (machine_of s) h t stands record { pass = follows.pass; may = follows.may; room = room; carries = follows.carries }),
    )
