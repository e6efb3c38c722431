use Rattle.std.proofs.Common.{◌≡◌, ◌++◌, ◌∷◌, [], ◌∙◌, None, ap, sym, subst, refl}
use Rattle.usb_types.specs.declared.urb.Why.TheVariants.{Unlink}
use Rattle.usb_machine.specs.declared.event.Answer.{Answer}
use Rattle.usb_machine.specs.declared.event.Answer.TheVariants.{Code as Status}
use Rattle.usb_machine.specs.declared.event.Event.TheVariants.{Mark}
use Rattle.usb_machine.specs.Calls.{entry}
use Rattle.usb_serve.specs.Solo.{IsSoloAt}
use Rattle.usb_serve.specs.Plain.{answered_code}
use Rattle.usb_serve.proofs.solo.Solo.unlink.Goals as goal

pub returns : goal.returns
returns g c = record {
  unlinks = λ m h solo pass. (
      let p = c.args.pass in let u = c.args.urb in
      let b = c.call.ensures.called m h solo record { pass = pass; may = tt; room = tt; carries = refl } in
      let is = c.code_in.ensures ∙ ap answered_code b.0 in
      let answered : c.call.result ≡ Status c.code_in.result = b.0 ∙ ap Status (sym is) in
      (is, subst (λ (y : Answer). IsSoloAt g.H.Handler.asks_with c.call.new.self m (h ++ entry p (Mark u Unlink) y None ∷ [])) answered b.1));
}
