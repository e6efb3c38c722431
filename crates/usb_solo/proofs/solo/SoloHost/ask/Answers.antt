use Rattle.std.proofs.Common.{◌≡◌, [], ◌∷◌, ◌++◌, Some, sym, refl, ap, ◌∙◌}
use Rattle.usb_machine.specs.declared.event.Event.TheVariants.{Submit}
use Rattle.usb_machine.specs.declared.event.Answer.TheVariants.{Code as Status}
use Rattle.usb_machine.specs.Replay.{machine_for}
use Rattle.usb_machine.specs.Calls.{entry}
use Rattle.usb_machine.specs.HostCalls.{answer_of_submit}
use Rattle.usb_solo.specs.declared.solo.SoloPass.{SoloPass}
use Rattle.usb_solo.proofs.Alone.{next, stepped}
use Rattle.usb_solo.proofs.solo.SoloHost.ask.Goals as goal
use Rattle.usb_solo.proofs.solo.SoloHost.ask.Goals.{in-Ok, in-Err}

pub returns-clause-here : goal.returns-clause-here
returns-clause-here c =
    let machine = machine_for c.args.self.now.layout c.args.self.now.passes in
    let p = c.args.pass.now in
    let h = c.requires.here in
    let r = c.requires.transfer in
    let event = Submit c.args.urb c.args.t.number in
    let answer = Status (answer_of_submit c.submit-asked.result) in
    let q : SoloPass = record { stock = c.submit-asked.new.self; diary = c.note.new.self; number = p.number } in
    let code : c.match-asked.code ≡ answer_of_submit c.submit-asked.result = elim c.match-asked.branch [
      | in-Ok w ↦ w.code-is ∙ sym (ap answer_of_submit w.in-Ok.is)
      | in-Err w ↦ w.code-is ∙ sym (ap answer_of_submit w.in-Err.is)
    ] in
    let diary = c.note.ensures ∙ (ap (λ a. p.diary ++ entry p.number event (Status a) (Some c.of-carried.result.value) ∷ []) code ∙ ap (λ t. p.diary ++ entry p.number event answer (Some t) ∷ []) c.of-carried.ensures) in
    let stands = c.submit-asked.ensures.stands p.diary h.stock (next machine p event answer (Some c.args.t) h (c.requires.home, tt) (refl, r.0, r.1, r.2)) in
    let both = stepped machine p event answer (Some c.args.t) h q stands c.submit-asked.ensures.setup diary refl in
    both.0

pub returns-clause-fresh : goal.returns-clause-fresh
returns-clause-fresh c =
    let machine = machine_for c.args.self.now.layout c.args.self.now.passes in
    let p = c.args.pass.now in
    let h = c.requires.here in
    let r = c.requires.transfer in
    let event = Submit c.args.urb c.args.t.number in
    let answer = Status (answer_of_submit c.submit-asked.result) in
    let q : SoloPass = record { stock = c.submit-asked.new.self; diary = c.note.new.self; number = p.number } in
    let code : c.match-asked.code ≡ answer_of_submit c.submit-asked.result = elim c.match-asked.branch [
      | in-Ok w ↦ w.code-is ∙ sym (ap answer_of_submit w.in-Ok.is)
      | in-Err w ↦ w.code-is ∙ sym (ap answer_of_submit w.in-Err.is)
    ] in
    let diary = c.note.ensures ∙ (ap (λ a. p.diary ++ entry p.number event (Status a) (Some c.of-carried.result.value) ∷ []) code ∙ ap (λ t. p.diary ++ entry p.number event answer (Some t) ∷ []) c.of-carried.ensures) in
    let stands = c.submit-asked.ensures.stands p.diary h.stock (next machine p event answer (Some c.args.t) h (c.requires.home, tt) (refl, r.0, r.1, r.2)) in
    let both = stepped machine p event answer (Some c.args.t) h q stands c.submit-asked.ensures.setup diary refl in
    both.1
