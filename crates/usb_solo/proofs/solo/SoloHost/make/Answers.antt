use Rattle.std.proofs.Common.{◌≡◌, [], ◌∷◌, ◌++◌, None, refl, ◌∙◌}
use Rattle.usb_machine.specs.Replay.{machine_for}
use Rattle.usb_turn_host.proofs.Turns.{carries_still}
use Rattle.usb_solo.specs.declared.solo.SoloPass.{SoloPass}
use Rattle.usb_solo.proofs.Alone.{next, stepped}
use Rattle.usb_solo.proofs.solo.SoloHost.make.Goals as goal

pub returns-clause-here : goal.returns-clause-here
returns-clause-here c =
    let machine = machine_for c.args.self.now.layout c.args.self.now.passes in
    let p = c.args.pass.now in
    let h = c.requires.here in
    let answer = c.make-answer.result in
    let q : SoloPass = record { stock = c.make-answer.new.self; diary = c.note.new.self; number = p.number } in
    let stands = c.make-answer.ensures.stands p.diary h.stock (next machine p c.args.event answer None h c.requires.may (carries_still machine c.args.event c.requires.still)) c.requires.still in
    let both = stepped machine p c.args.event answer None h q stands c.make-answer.ensures.setup c.note.ensures refl in
    both.0

pub returns-clause-fresh : goal.returns-clause-fresh
returns-clause-fresh c =
    let machine = machine_for c.args.self.now.layout c.args.self.now.passes in
    let p = c.args.pass.now in
    let h = c.requires.here in
    let answer = c.make-answer.result in
    let q : SoloPass = record { stock = c.make-answer.new.self; diary = c.note.new.self; number = p.number } in
    let stands = c.make-answer.ensures.stands p.diary h.stock (next machine p c.args.event answer None h c.requires.may (carries_still machine c.args.event c.requires.still)) c.requires.still in
    let both = stepped machine p c.args.event answer None h q stands c.make-answer.ensures.setup c.note.ensures refl in
    both.1
