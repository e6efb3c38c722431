use Rattle.std.proofs.Common.{◌++◌, List, refl, sym, subst}
use Rattle.usb_machine.specs.declared.event.Event.TheVariants.{End}
use Rattle.usb_machine.specs.declared.entry.Entry.{Entry}
use Rattle.usb_machine.specs.Plain.{Stands}
use Rattle.usb_trace.specs.Plan.{machine_of}
use Rattle.usb_line.specs.Back.{given_after, acted_entries}
use Rattle.usb_line.proofs.Givebacks.{whole}
use Rattle.usb_line.proofs.Stepping.{enters, end, end_next}
use Rattle.usb_line.proofs.giveback.handle.Goals as goal

pub returns-clause-handled : goal.returns-clause-handled
returns-clause-handled c = λ s h r stands can at number again posed.
    let did = c.act-outcome.ensures.acted s h r stands can at number again posed in
    let got = enters _ _ _ _ _ c.enter.ensures.entered s (given_after h r ++ acted_entries s r) (end s h r can) refl (λ i. End record { 0 = sym at i }) did.1 (end_next s h r can) tt in
    (did.0, subst (λ (l : List Entry). Stands c.enter.new.plain (machine_of s) l) (sym (whole s h r)) got.1)
