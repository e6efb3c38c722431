use Rattle.std.proofs.Common.{◌≡◌, true, [], ◌∷◌, ◌++◌, Some, None, subst, sym, refl, ap, ◌∙◌}
use Rattle.usb_machine.specs.declared.event.Event.TheVariants.{Claim}
use Rattle.usb_machine.specs.declared.event.Answer.TheVariants.{Number}
use Rattle.usb_machine.specs.Replay.{machine_for}
use Rattle.usb_machine.specs.Parts.{keeps}
use Rattle.usb_machine.specs.Calls.{entry}
use Rattle.usb_machine.specs.HostCalls.{number_of}
use Rattle.usb_solo.specs.declared.solo.SoloPass.{SoloPass}
use Rattle.usb_solo.proofs.Alone.{next, stepped}
use Rattle.usb_solo.proofs.solo.SoloHost.take_rest.Goals as goal
use Rattle.usb_solo.proofs.solo.SoloHost.take_rest.Goals.{in-Some, in-None}

pub returns-clause-fresh : goal.returns-clause-fresh
returns-clause-fresh c =
    let machine = machine_for c.args.self.now.layout c.args.self.now.passes in
    let p = c.args.pass.now in
    let h = c.requires.here in
    let t = c.claim-rested.result in
    let event = Claim c.args.urb in
    let q : SoloPass = record { stock = c.claim-rested.new.self; diary = c.note.new.self; number = p.number } in
    let number : c.match-rested.number ≡ number_of t = elim c.match-rested.branch [
      | in-Some w ↦ w.number-is ∙ sym (ap number_of w.in-Some.is)
      | in-None w ↦ w.number-is ∙ sym (ap number_of w.in-None.is)
    ] in
    let diary = c.note.ensures ∙ ap (λ n. p.diary ++ entry p.number event (Number n) None ∷ []) number in
    let stands = c.claim-rested.ensures.stands p.diary h.stock (next machine p event (Number (number_of t)) None h (subst (λ m. keeps m c.args.urb.0 ≡ true) (sym h.own) c.requires.kept, tt) refl) in
    let both = stepped machine p event (Number (number_of t)) None h q stands c.claim-rested.ensures.setup diary refl in
    both.1
