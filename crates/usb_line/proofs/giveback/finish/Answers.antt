use Rattle.std.proofs.Common.{true, ◌++◌, refl, sym, subst, None}
use Rattle.usb_machine.specs.declared.entry.TheConstants.{SERVER}
use Rattle.usb_machine.specs.declared.event.Event.TheVariants.{Finish}
use Rattle.usb_machine.specs.declared.event.Answer.TheVariants.{Truth}
use Rattle.usb_machine.specs.Plain.{Stands}
use Rattle.usb_machine.specs.Calls.{entry}
use Rattle.usb_trace.specs.Plan.{machine_of}
use Rattle.usb_line.specs.Back.{EndsBy, finish_entries}
use Rattle.usb_line.proofs.Stepping.{enters, finish_first}
use Rattle.usb_line.proofs.giveback.finish.Goals as goal

pub returns-in-Some-clause-finished : goal.returns-in-Some-clause-finished
returns-in-Some-clause-finished c = λ s h r stands may.
    let by = subst (λ o. EndsBy o r) c.in-Some.is may.by in
    subst (λ b. Stands c.enter.new.plain (machine_of s) (h ++ finish_entries r.urb r.status b)) (sym by.0)
    (enters _ _ _ _ _ c.enter.ensures.entered s h (entry SERVER (Finish record { 0 = r.urb } r.status) (Truth true) None) refl
    (λ i. Finish record { 0 = sym may.at i } (sym by.1 i)) stands (finish_first s h r may.can by.0) tt).1
