use Rattle.std.proofs.Common.{◌≡◌, ◌++◌, ◌∷◌, [], refl, sym, ap, ◌∙◌, subst, arith, Some}
use Rattle.usb_machine.specs.declared.entry.TheConstants.{SERVER}
use Rattle.usb_machine.specs.declared.event.Event.TheVariants.{Rest}
use Rattle.usb_machine.specs.declared.event.Answer.{Answer}
use Rattle.usb_machine.specs.declared.event.Answer.TheVariants.{Nothing}
use Rattle.usb_machine.specs.Calls.{entry}
use Rattle.usb_machine.specs.Plain.{Stands, urbs_of, ends_of}
use Rattle.usb_serve.proofs.Lookups.{there}
use Rattle.usb_serve.proofs.PlainHandling.{handled, rest_whole, rest_runs}
use Rattle.usb_serve.proofs.plain_side.PlainSide.rest_transfer.Goals as goal

pub step-requires : goal.step-requires
step-requires c = let w = c.requires.whole in (handled c.args.self.now w.0 w.1 w.2 c.args.urb.0 c.requires.handles).0

pub keep-requires : goal.keep-requires
keep-requires c = let w = c.requires.whole in let l = (handled c.args.self.now w.0 w.1 w.2 c.args.urb.0 c.requires.handles).0 in let n = w.2.slots in omega arith

pub returns-clause-rests : goal.returns-clause-rests
returns-clause-rests c = let w = c.requires.whole in let g = w.0 in let h = w.1 in let at = w.2 in let old = c.args.self.now in let u = c.args.urb in let t = c.args.t in let k = handled old g h at u.0 c.requires.handles in
    let answered : c.step.result ≡ Nothing = c.step.ensures.answer g h at.stands in
    let made = subst (λ (a : Answer). Stands c.step.new.self g (h ++ record { pass = SERVER; event = Rest u t.number; answer = a; carried = Some t } ∷ [])) answered (c.step.ensures.stands g h (Some t) at.stands record { pass = at.passes; may = (sym at.stands.bottom, k.1); room = tt; carries = (refl, c.requires.window) }) in
    let s = c.keep.new.self in let after = subst (λ p. Stands p g (h ++ entry SERVER (Rest u t.number) Nothing (Some t) ∷ [])) (sym c.keep.ensures.same.0) made in
    let row = there old.urbs.items u.0 (let n = at.slots in let l = k.0 in omega arith) in
    let urbs = ap urbs_of c.keep.ensures.same.0 ∙ c.step.ensures.counts.0 in let ends = ap ends_of c.keep.ensures.same.0 ∙ c.step.ensures.counts.1 in
    record {
      entered = λ g h at. let old = c.args.self.now in let u = c.args.urb in let t = c.args.t in let k = handled old g h at u.0 c.requires.handles in
          let answered : c.step.result ≡ Nothing = c.step.ensures.answer g h at.stands in
          let made = subst (λ (a : Answer). Stands c.step.new.self g (h ++ record { pass = SERVER; event = Rest u t.number; answer = a; carried = Some t } ∷ [])) answered (c.step.ensures.stands g h (Some t) at.stands record { pass = at.passes; may = (sym at.stands.bottom, k.1); room = tt; carries = (refl, c.requires.window) }) in
          let s = c.keep.new.self in let after = subst (λ p. Stands p g (h ++ entry SERVER (Rest u t.number) Nothing (Some t) ∷ [])) (sym c.keep.ensures.same.0) made in
          let row = there old.urbs.items u.0 (let n = at.slots in let l = k.0 in omega arith) in
          let urbs = ap urbs_of c.keep.ensures.same.0 ∙ c.step.ensures.counts.0 in let ends = ap ends_of c.keep.ensures.same.0 ∙ c.step.ensures.counts.1 in
          rest_whole old s g h at u t row.0 row.1 (c.keep.ensures.kept row.0 row.1) after c.keep.ensures.same.1 urbs ends;
      row = row.0;
      at = row.1;
      slots = c.keep.ensures.kept row.0 row.1;
    }

pub returns-clause-still : goal.returns-clause-still
returns-clause-still c = let w = c.requires.whole in let g = w.0 in let h = w.1 in let at = w.2 in let old = c.args.self.now in let u = c.args.urb in let t = c.args.t in let k = handled old g h at u.0 c.requires.handles in
    let answered : c.step.result ≡ Nothing = c.step.ensures.answer g h at.stands in
    let made = subst (λ (a : Answer). Stands c.step.new.self g (h ++ record { pass = SERVER; event = Rest u t.number; answer = a; carried = Some t } ∷ [])) answered (c.step.ensures.stands g h (Some t) at.stands record { pass = at.passes; may = (sym at.stands.bottom, k.1); room = tt; carries = (refl, c.requires.window) }) in
    let s = c.keep.new.self in let after = subst (λ p. Stands p g (h ++ entry SERVER (Rest u t.number) Nothing (Some t) ∷ [])) (sym c.keep.ensures.same.0) made in
    let row = there old.urbs.items u.0 (let n = at.slots in let l = k.0 in omega arith) in
    let urbs = ap urbs_of c.keep.ensures.same.0 ∙ c.step.ensures.counts.0 in let ends = ap ends_of c.keep.ensures.same.0 ∙ c.step.ensures.counts.1 in
    rest_runs old s g h at u t row.0 row.1 (c.keep.ensures.kept row.0 row.1) after c.keep.ensures.same.1 urbs ends
