use Rattle.std.proofs.Common.{◌≡◌, ◌<◌, [], ◌∷◌, ◌++◌, None, subst, sym, refl, ◌∙◌}
use Rattle.usb_machine.specs.declared.event.Event.TheVariants.{Quiet}
use Rattle.usb_machine.specs.declared.event.Answer.TheVariants.{Nothing}
use Rattle.usb_machine.specs.Replay.{machine_for}
use Rattle.usb_solo.specs.declared.solo.SoloPass.{SoloPass}
use Rattle.usb_solo.proofs.Alone.{stepped}
use Rattle.usb_solo.proofs.solo.SoloHost.see.Goals as goal

pub returns-then-quiet-clause-fresh : goal.returns-then-quiet-clause-fresh
returns-then-quiet-clause-fresh c =
    let machine = machine_for c.args.self.now.layout c.args.self.now.passes in
    let p = c.args.pass.now in
    let h = c.requires.here in
    let q : SoloPass = record { stock = c.quiet.new.self; diary = c.note.new.self; number = p.number } in
    let stands = c.quiet.ensures.seen c.if-quiet.true p.diary h.stock (subst (λ m. p.number < m.passes) (sym h.machine) h.below) in
    let both = stepped machine p (Quiet c.args.urb) Nothing None h q stands c.quiet.ensures.setup c.note.ensures refl in
    both.1
