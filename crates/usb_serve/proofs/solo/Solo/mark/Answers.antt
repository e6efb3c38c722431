use Rattle.std.proofs.Common.{◌++◌, ◌∷◌, [], None, refl, subst}
use Rattle.usb_types.specs.declared.urb.Why.TheVariants.{Shutdown}
use Rattle.usb_machine.specs.declared.entry.TheConstants.{HUB}
use Rattle.usb_machine.specs.declared.event.Answer.{Answer}
use Rattle.usb_machine.specs.declared.event.Event.TheVariants.{Mark}
use Rattle.usb_machine.specs.History.{state_of}
use Rattle.usb_machine.specs.State.{unlinking}
use Rattle.usb_machine.specs.Calls.{entry}
use Rattle.usb_serve.specs.Solo.{IsSoloAt}
use Rattle.usb_serve.proofs.solo.Solo.mark.Goals as goal

pub returns-clause-marked : goal.returns-clause-marked
returns-clause-marked g c = λ m h solo pass.
    let u = c.args.urb in
    let a = c.call.ensures.called m h solo record { pass = pass; may = tt; room = tt; carries = refl } in
    (unlinking (state_of h u.0), subst (λ (y : Answer). IsSoloAt g.H.Handler.asks_with c.call.new.self m (h ++ entry HUB (Mark u Shutdown) y None ∷ [])) a.0 a.1)
