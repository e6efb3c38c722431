use Rattle.std.proofs.Common.{◌≡◌, ◌++◌, ◌∷◌, [], refl, sym, subst, None}
use Rattle.usb_machine.specs.declared.entry.TheConstants.{SERVER}
use Rattle.usb_machine.specs.declared.event.Event.TheVariants.{End}
use Rattle.usb_machine.specs.declared.event.Answer.{Answer}
use Rattle.usb_machine.specs.declared.event.Answer.TheVariants.{Nothing}
use Rattle.usb_machine.specs.Plain.{Stands}
use Rattle.usb_serve.proofs.PlainHandling.{handled, end_whole}
use Rattle.usb_serve.proofs.plain_side.PlainSide.end_handler.Goals as goal

pub step-requires : goal.step-requires
step-requires c = let w = c.requires.whole in (handled c.args.self.now w.0 w.1 w.2 c.args.urb.0 c.requires.handles).0

pub returns-clause-ends : goal.returns-clause-ends
returns-clause-ends c = record {
  entered = λ g h at. let old = c.args.self.now in let u = c.args.urb in let k = handled old g h at u.0 c.requires.handles in
      let answered : c.step.result ≡ Nothing = c.step.ensures.answer g h at.stands in
      let after = subst (λ (a : Answer). Stands c.step.new.self g (h ++ record { pass = SERVER; event = End u; answer = a; carried = None } ∷ [])) answered (c.step.ensures.stands g h None at.stands record { pass = at.passes; may = (sym at.stands.bottom, k.1); room = tt; carries = refl }) in
      end_whole old c.step.new.self g h at u after c.step.ensures.counts.0;
  slots = refl;
}

pub returns-clause-whole : goal.returns-clause-whole
returns-clause-whole c = let w = c.requires.whole in let g = w.0 in let h = w.1 in let at = w.2 in let old = c.args.self.now in let u = c.args.urb in let k = handled old g h at u.0 c.requires.handles in
    let answered : c.step.result ≡ Nothing = c.step.ensures.answer g h at.stands in
    let after = subst (λ (a : Answer). Stands c.step.new.self g (h ++ record { pass = SERVER; event = End u; answer = a; carried = None } ∷ [])) answered (c.step.ensures.stands g h None at.stands record { pass = at.passes; may = (sym at.stands.bottom, k.1); room = tt; carries = refl }) in
    (g, _, end_whole old c.step.new.self g h at u after c.step.ensures.counts.0)
