use Rattle.std.proofs.Common.{◌≡◌, ◌++◌, ◌∷◌, [], ◌∙◌, None, ap, sym, subst, refl, append_assoc}
use Rattle.usb_types.specs.declared.urb.Why.TheVariants.{Kill}
use Rattle.usb_machine.specs.declared.event.Answer.{Answer}
use Rattle.usb_machine.specs.declared.event.Answer.TheVariants.{Code as Status}
use Rattle.usb_machine.specs.declared.event.Event.TheVariants.{Reject, Mark}
use Rattle.usb_machine.specs.Calls.{entry, plain_entry, mark_entry}
use Rattle.usb_serve.specs.Solo.{IsSoloAt}
use Rattle.usb_serve.specs.Plain.{answered_code}
use Rattle.usb_serve.proofs.Calling.{unlinking_rejected}
use Rattle.usb_serve.proofs.solo.Solo.begin_stop.Goals as goal

pub returns-clause-stops : goal.returns-clause-stops
returns-clause-stops g c = λ m h solo may.
    let p = c.args.pass in let u = c.args.urb in
    let a = c.call.ensures.called m h solo record { pass = may.pass; may = tt; room = may.room; carries = refl } in
    let x = plain_entry p (Reject u) in
    let first = subst (λ (y : Answer). IsSoloAt g.H.Handler.asks_with c.call.new.self m (h ++ entry p (Reject u) y None ∷ [])) a.0 a.1 in
    let b = c.call-2.ensures.called m (h ++ x ∷ []) first record { pass = may.pass; may = tt; room = tt; carries = refl } in
    let is = c.code_in.ensures ∙ ap answered_code b.0 in
    let answered : c.call-2.result ≡ Status c.code_in.result = b.0 ∙ ap Status (sym is) in (
      is ∙ unlinking_rejected h p u,
      subst (IsSoloAt g.H.Handler.asks_with c.call-2.new.self m) (append_assoc h (x ∷ []) (mark_entry p Kill u.0 c.code_in.result ∷ []))
          (subst (λ (y : Answer). IsSoloAt g.H.Handler.asks_with c.call-2.new.self m ((h ++ x ∷ []) ++ entry p (Mark u Kill) y None ∷ [])) answered b.1),
    )
