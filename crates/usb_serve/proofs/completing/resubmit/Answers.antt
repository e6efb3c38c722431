use Rattle.std.proofs.Common.{Some, None, subst}
use Rattle.usb_types.specs.declared.urb.UrbId.{UrbId}
use Rattle.usb_machine.specs.declared.transfer.Transfer.{Transfer}
use Rattle.usb_serve.specs.Completing.{accepted, rejected}
use Rattle.usb_serve.specs.Handlers.{told_urb}
use Rattle.usb_serve.proofs.Telling.{is_told}
use Rattle.usb_serve.proofs.completing.resubmit.Goals as goal

pub returns-in-Ok-clause-again : goal.returns-in-Ok-clause-again
returns-in-Ok-clause-again g c = accepted c.submit.new.self (subst (λ (u : UrbId). g.B.HandlerSide.submits c.args.side.now u c.args.t None c.submit.new.self) (is_told _ (g.B.Given.GivenBack.told c.args.given.now) c.urb.ensures) c.in-Ok.ensures.submits)

pub returns-in-Err-clause-again : goal.returns-in-Err-clause-again
returns-in-Err-clause-again g c = rejected c.in-Err.refused.errno c.submit.new.self c.rest.new.side
    (subst (λ (u : UrbId). g.B.HandlerSide.submits c.args.side.now u c.args.t (Some c.in-Err.refused.errno) c.submit.new.self) (is_told _ (g.B.Given.GivenBack.told c.args.given.now) c.urb.ensures) c.in-Err.ensures.submits)
    (subst (λ (t : Transfer). g.B.HandlerSide.rests c.submit.new.self (told_urb (g.B.Given.GivenBack.told c.args.given.now)) t c.rest.new.side) c.in-Err.ensures.back c.rest.ensures.rests)
