use Rattle.std.proofs.Common.{◌≡◌, ◌++◌, ◌∷◌, [], ◌∙◌, None, ap, sym, subst, refl, append_assoc}
use Rattle.usb_machine.specs.declared.event.Answer.{Answer}
use Rattle.usb_machine.specs.declared.event.Answer.TheVariants.{Number}
use Rattle.usb_machine.specs.declared.event.Event.TheVariants.{Quiet, Claim}
use Rattle.usb_machine.specs.declared.pass_row.Held.{Held}
use Rattle.usb_machine.specs.Calls.{entry, plain_entry}
use Rattle.usb_serve.specs.Solo.{IsSoloAt, answered_number}
use Rattle.usb_serve.proofs.Calling.{rest_quiet}
use Rattle.usb_serve.proofs.Stopping.{held_quiet}
use Rattle.usb_serve.proofs.solo.Solo.claim.Goals as goal

pub returns-clause-claims : goal.returns-clause-claims
returns-clause-claims g c = λ m h solo pass quiet holds.
    let p = c.args.pass in let u = c.args.urb in
    let a = c.call.ensures.called m h solo record { pass = pass; may = quiet; room = tt; carries = refl } in
    let x = plain_entry p (Quiet u) in
    let first = subst (λ (y : Answer). IsSoloAt g.H.Handler.asks_with c.call.new.self m (h ++ entry p (Quiet u) y None ∷ [])) a.0 a.1 in
    let kept = ap (λ (d : Held). d.kept) (held_quiet h p u.0) ∙ holds in
    let b = c.call-2.ensures.called m (h ++ x ∷ []) first record { pass = pass; may = kept; room = tt; carries = refl } in
    let is = c.number_in.ensures ∙ ap answered_number b.0 in
    let answered : c.call-2.result ≡ Number c.number_in.result = b.0 ∙ ap Number (sym is) in (
      is ∙ rest_quiet h p u,
      subst (IsSoloAt g.H.Handler.asks_with c.call-2.new.self m) (append_assoc h (x ∷ []) (entry p (Claim u) (Number c.number_in.result) None ∷ []))
          (subst (λ (y : Answer). IsSoloAt g.H.Handler.asks_with c.call-2.new.self m ((h ++ x ∷ []) ++ entry p (Claim u) y None ∷ [])) answered b.1),
    )
