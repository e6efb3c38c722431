use Rattle.std.proofs.Common.{◌+◌, ◌∙◌, ap, length, sym, subst, take}
use Rattle.usb_machine.specs.declared.event.Event.TheVariants.{Submit}
use Rattle.usb_machine.specs.declared.replays.Step.{Step}
use Rattle.usb_machine.specs.Plain.{Stands}
use Rattle.usb_machine.specs.Replay.{machine_for, entries}
use Rattle.usb_machine.proofs.Replaying.{each_more, stands_more, here, fits_here, answers_more}
use Rattle.usb_machine.proofs.replays.replay.Goals as goal

-- what a read past the end would give
abbrev no_step : Step
no_step = record { pass = 0; event = Submit record { 0 = 0 } 0 }

pub loop-step-init : goal.loop-step-init
loop-step-init c = let none = c.of-answers.ensures ∙ c.new-2.ensures.items in record {
  each = ap length none;
  stands = λ carried all. c.in_ok-plain.ensures.opening;
  complete = λ h can. none;
}

pub returns-in-None-clause-complete : goal.returns-in-None-clause-complete
returns-in-None-clause-complete c h can =
    let g = machine_for c.args.layout.now c.args.passes in let steps = c.args.steps.now in let i = c.loop-step.step-index in let inv = c.loop-step.invariant in
    let refuses = c.in-None.ensures.refused in
    let known = inv.complete h can in
    absurd (refuses g (take i h) (here g steps c.loop-step.answers c.loop-step.plain i inv.each inv.stands no_step c.loop-step-test.true h can known)
    (fits_here g steps c.loop-step.answers c.loop-step.plain i inv.each inv.stands no_step c.loop-step-test.true h can known))

pub loop-step-preserved : goal.loop-step-preserved
loop-step-preserved c =
    let g = machine_for c.args.layout.now c.args.passes in let steps = c.args.steps.now in let i = c.loop-step.step-index in let inv = c.loop-step.invariant in
    let e = c.in-Some.ensures in let a = c.in-Some.answer in let l = c.loop-step-test.true in
    let pushed = c.in_ok-push-in-Some.ensures.ok in record {
      each = ap length pushed ∙ each_more g steps c.loop-step.answers c.loop-step.plain i inv.each inv.stands no_step l a;
      stands = λ carried all. subst (λ all_answers. Stands c.try_step.new.plain g (entries (take (i + 1) steps) all_answers carried)) (sym pushed) (stands_more g steps c.loop-step.answers c.loop-step.plain i inv.each inv.stands no_step l c.try_step.new.plain a e.fits e.made carried all);
      complete = λ h can. pushed ∙ answers_more g steps c.loop-step.answers c.loop-step.plain i inv.each inv.stands no_step l h can (inv.complete h can) a e.answer;
    }
