use Rattle.std.proofs.Common.{◌≡◌, ℕ, ◌<◌, [], ◌∷◌, ◌++◌, Some, None, Ok, subst, sym, ◌∙◌}
use Rattle.usb_types.specs.declared.errno.Code.TheVariants.{Zero}
use Rattle.usb_machine.specs.declared.event.Event.TheVariants.{Submit, Link}
use Rattle.usb_machine.specs.declared.event.Answer.TheVariants.{Code as Status}
use Rattle.usb_machine.specs.Calls.{entry, plain_entry}
use Rattle.usb_machine.specs.Fresh.{Fresh}
use Rattle.usb_machine.specs.HostCalls.{Submitted}
use Rattle.usb_machine.proofs.Growing.{fresh_then}
use Rattle.usb_machine.specs.Replay.{machine_for}
use Rattle.usb_solo.specs.Solo.{known_of}
use Rattle.usb_turn_host.proofs.Homes.{takes}
use Rattle.usb_solo.proofs.callers.SoloHostHost.submit.Goals as goal

pub ask-requires-clause-transfer : goal.ask-requires-clause-transfer
ask-requires-clause-transfer g c =
    let host = c.args.self.now in
    let l = host.layout in
    (c.requires.transfer.0, c.requires.transfer.1, takes l.homes l.shapes c.args.urb.0 c.args.t c.requires.home.0 c.requires.home.1 host.homed (sym c.fault.ensures ∙ c.in-None.is))

pub returns-in_ok-ask-in-None-clause-fresh : goal.returns-in_ok-ask-in-None-clause-fresh
returns-in_ok-ask-in-None-clause-fresh g c =
    let machine = machine_for c.args.self.now.layout c.args.self.now.passes in
    let p = known_of c.args.pass.now in
    let q = known_of c.ask.new.pass in
    let r = known_of c.make.new.pass in
    let link = subst (λ a. Fresh machine q r (entry q.number (Link c.args.urb) a None ∷ [])) c.make.ensures.answer c.make.ensures.fresh in
    let asked = c.in_ok-ask-in-None.ensures.fresh in
    subst (λ o. Submitted machine p r c.args.urb.0 c.args.t o (Ok tt)) (sym (sym c.fault.ensures ∙ c.in-None.is))
    (fresh_then machine p q r (entry p.number (Submit c.args.urb c.args.t.number) (Status Zero) (Some c.args.t) ∷ []) (λ n. plain_entry n (Link c.args.urb) ∷ []) asked.grown link)
