use Rattle.std.proofs.Common.{◌≡◌, sym, subst}
use Rattle.std.specs.Prelude.{Result, Ok}
use Rattle.usb_types.specs.declared.urb.UrbId.{UrbId}
use Rattle.usb_types.specs.declared.errno.Code.{Code}
use Rattle.usb_types.specs.declared.urb.Action.{Action}
use Rattle.usb_types.specs.declared.outside.Memory.{Memory}
use Rattle.usb_machine.specs.declared.transfer.Transfer.{Transfer}
use Rattle.usb_serve.specs.declared.handler.Outcome.{Outcome}
use Rattle.usb_serve.specs.Completing.{rested, again, asking, lacking, Again, Acts}
use Rattle.usb_serve.specs.Handlers.{told_urb}
use Rattle.usb_serve.proofs.Telling.{is_told}
use Rattle.usb_serve.proofs.completing.act.Goals as goal

-- what a handler answered to the URB and the status that came back
answered : {H : Type 0} (completes : H → UrbId → Code → Transfer → Result Action Memory → H → Type 0) (h g : H) (u v : UrbId) (c d : Code) (t : Transfer) (r : Result Action Memory) → v ≡ u → d ≡ c → completes h v d t r g → completes h u c t r g
answered completes h g u v c d t r e f is = subst (λ c. completes h u c t r g) f (subst (λ u. completes h u d t r g) e is)

pub returns-in-Err-clause-acted : goal.returns-in-Err-clause-acted
returns-in-Err-clause-acted g c = lacking c.in-Err.memory c.complete.new.self c.rest.new.side
    (answered g.H.Handler.completes _ _ _ _ _ _ _ _ (is_told _ (g.B.Given.GivenBack.told c.args.given.now) c.urb.ensures) c.code.ensures c.in-Err.ensures.completes) c.rest.ensures.rests

pub returns-in-Ok-Rest-clause-acted : goal.returns-in-Ok-Rest-clause-acted
returns-in-Ok-Rest-clause-acted g c = subst (λ (o : Outcome). Acts g.B.HandlerSide.rests g.B.HandlerSide.submits g.H.Handler.completes g.H.Handler.asks g.H.Handler.unasks (told_urb (g.B.Given.GivenBack.told c.args.given.now)) (g.B.Given.GivenBack.told c.args.given.now).code c.args.t
    c.args.side.now c.args.handler.now (Ok o) c.rest-in-Ok-Rest.new.side c.complete.new.self) (sym c.rest-in-Ok-Rest.ensures.outcome)
    (rested c.complete.new.self c.rest-in-Ok-Rest.new.side (answered g.H.Handler.completes _ _ _ _ _ _ _ _ (is_told _ (g.B.Given.GivenBack.told c.args.given.now) c.urb.ensures) c.code.ensures (rw c.in-Ok-Rest.field-0-is at c.in-Ok-Rest.ensures.completes)) c.rest-in-Ok-Rest.ensures.rests)

pub returns-in-Ok-Again-clause-acted : goal.returns-in-Ok-Again-clause-acted
returns-in-Ok-Again-clause-acted g c = again c.in-Ok-Again.from c.in-Ok-Again.len c.complete.new.self c.resubmit.new.side c.resubmit.result
    (answered g.H.Handler.completes _ _ _ _ _ _ _ _ (is_told _ (g.B.Given.GivenBack.told c.args.given.now) c.urb.ensures) c.code.ensures (rw c.in-Ok-Again.field-0-is at c.in-Ok-Again.ensures.completes))
    (subst (λ (t : Transfer). Again g.B.HandlerSide.rests g.B.HandlerSide.submits (told_urb (g.B.Given.GivenBack.told c.args.given.now)) t c.args.side.now c.resubmit.result c.resubmit.new.side) c.windowed.ensures c.resubmit.ensures.again)

pub returns-in-Ok-Ask-clause-acted : goal.returns-in-Ok-Ask-clause-acted
returns-in-Ok-Ask-clause-acted g c = asking c.complete.new.self c.ask.new.handler c.rest-in-Ok-Ask.new.side c.ask.new.side c.ask.result
    (answered g.H.Handler.completes _ _ _ _ _ _ _ _ (is_told _ (g.B.Given.GivenBack.told c.args.given.now) c.urb.ensures) c.code.ensures (rw c.in-Ok-Ask.field-0-is at c.in-Ok-Ask.ensures.completes)) c.rest-in-Ok-Ask.ensures.rests c.ask.ensures.asked
