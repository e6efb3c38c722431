use Rattle.std.proofs.Common.{ℕ, ◌<◌, ◌^◌, List, refl, sym, ap, ◌∙◌, subst}
use Rattle.usb_machine.specs.declared.event.Event.TheVariants.{Give}
use Rattle.usb_machine.specs.declared.entry.Entry.{Entry}
use Rattle.usb_machine.specs.History.{state_of}
use Rattle.usb_machine.specs.Plain.{Stands}
use Rattle.usb_trace.specs.Plan.{machine_of}
use Rattle.usb_line.specs.Steps.{told_code}
use Rattle.usb_line.proofs.Stepping.{finished, give, enters, split_given, give_next, finish_idle}
use Rattle.usb_line.proofs.giveback.give.Goals as goal

pub returns-clause-given : goal.returns-clause-given
returns-clause-given c = λ s h r stands may.
    let got = enters _ _ _ _ _ c.enter.ensures.entered s (finished s h r) (give s h r) refl (λ i. Give record { 0 = sym may.at i })
    (c.finish.ensures.finished s h r stands may) (give_next s h r may.can)
    (subst (λ (u : ℕ). (state_of (finished s h r) u).handlers < 2 ^ 63) may.at (finish_idle s h r may.idle)) in
    (c.code_in.ensures ∙ ap told_code got.0, subst (λ (l : List Entry). Stands c.enter.new.plain (machine_of s) l) (sym (split_given s h r)) got.1)
