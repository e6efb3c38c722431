use Rattle.std.proofs.Common.{◌≡◌, ◌<◌, ◌++◌, ◌∷◌, [], refl, sym, ap, ◌∙◌, subst, false, None}
use Rattle.usb_machine.specs.declared.entry.TheConstants.{SERVER}
use Rattle.usb_machine.specs.declared.event.Event.TheVariants.{Give}
use Rattle.usb_machine.specs.declared.event.Answer.{Answer}
use Rattle.usb_machine.specs.declared.event.Answer.TheVariants.{Code as Status}
use Rattle.usb_machine.specs.State.{is_clear}
use Rattle.usb_machine.specs.History.{state_of, pending_of}
use Rattle.usb_machine.specs.Legal.{times}
use Rattle.usb_machine.specs.Plain.{Stands}
use Rattle.usb_serve.specs.Plain.{answered_code, mark_in}
use Rattle.usb_serve.proofs.Plains.{mark_is, among, home_is}
use Rattle.usb_serve.proofs.PlainSteps.{urb_known, give_other, give_here, give_elsewhere, give_gone, give_apart, give_whole}
use Rattle.usb_serve.proofs.plain_side.PlainSideSide.give.Goals as goal

pub returns-clause-whole : goal.returns-clause-whole
returns-clause-whole c = let w = c.requires.whole in let g = w.0 in let h = w.1 in let at = w.2 in let old = c.args.self.now in let now = c.step.new.self in let u = c.args.urb in let e = c.requires.pending.0 in let here = c.requires.pending.1 in
    let count = among old.plain g h at.stands e u.0 here in
    let l = urb_known old.plain g h at.stands u.0 e count in
    let mark : is_clear (state_of h u.0).mark ≡ false = ap is_clear (sym (mark_is old.plain g h at.stands u.0 l)) ∙ c.requires.settled in
    let home = subst (λ d. 0 < times u.0 (pending_of g h d)) (home_is old.plain g h at.stands e u.0 here) count in
    let clear = c.step.ensures.answer g h at.stands in
    let answered : c.step.result ≡ Status c.code_in.result = clear ∙ ap Status (sym (c.code_in.ensures ∙ ap answered_code clear)) in
    let after = subst (λ (a : Answer). Stands now g (h ++ record { pass = SERVER; event = Give u; answer = a; carried = None } ∷ [])) answered (c.step.ensures.stands g h None at.stands record { pass = at.passes; may = (refl, home, mark); room = c.requires.room u.0 (state_of h u.0) (at.stands.states u.0 l); carries = refl }) in
    let urbs = c.step.ensures.counts.0 in let ends = c.step.ensures.counts.1 in
    (g, _, give_whole old now g h at u c.code_in.result after urbs ends e here)

pub returns-clause-gives : goal.returns-clause-gives
returns-clause-gives c = record {
  entered = λ g h at. let old = c.args.self.now in let now = c.step.new.self in let u = c.args.urb in let e = c.requires.pending.0 in let here = c.requires.pending.1 in
      let count = among old.plain g h at.stands e u.0 here in
      let l = urb_known old.plain g h at.stands u.0 e count in
      let mark : is_clear (state_of h u.0).mark ≡ false = ap is_clear (sym (mark_is old.plain g h at.stands u.0 l)) ∙ c.requires.settled in
      let home = subst (λ d. 0 < times u.0 (pending_of g h d)) (home_is old.plain g h at.stands e u.0 here) count in
      let clear = c.step.ensures.answer g h at.stands in
      let answered : c.step.result ≡ Status c.code_in.result = clear ∙ ap Status (sym (c.code_in.ensures ∙ ap answered_code clear)) in
      let after = subst (λ (a : Answer). Stands now g (h ++ record { pass = SERVER; event = Give u; answer = a; carried = None } ∷ [])) answered (c.step.ensures.stands g h None at.stands record { pass = at.passes; may = (refl, home, mark); room = c.requires.room u.0 (state_of h u.0) (at.stands.states u.0 l); carries = refl }) in
      let urbs = c.step.ensures.counts.0 in let ends = c.step.ensures.counts.1 in
      give_whole old now g h at u c.code_in.result after urbs ends e here;
  slots = refl;
  urb = refl;
  transfer = refl;
  window = c.requires.window;
}

pub returns-clause-leaves : goal.returns-clause-leaves
returns-clause-leaves c = let w = c.requires.whole in let g = w.0 in let h = w.1 in let at = w.2 in let old = c.args.self.now in let now = c.step.new.self in let u = c.args.urb in let e = c.requires.pending.0 in let here = c.requires.pending.1 in
    let count = among old.plain g h at.stands e u.0 here in
    let l = urb_known old.plain g h at.stands u.0 e count in
    let mark : is_clear (state_of h u.0).mark ≡ false = ap is_clear (sym (mark_is old.plain g h at.stands u.0 l)) ∙ c.requires.settled in
    let home = subst (λ d. 0 < times u.0 (pending_of g h d)) (home_is old.plain g h at.stands e u.0 here) count in
    let clear = c.step.ensures.answer g h at.stands in
    let answered : c.step.result ≡ Status c.code_in.result = clear ∙ ap Status (sym (c.code_in.ensures ∙ ap answered_code clear)) in
    let after = subst (λ (a : Answer). Stands now g (h ++ record { pass = SERVER; event = Give u; answer = a; carried = None } ∷ [])) answered (c.step.ensures.stands g h None at.stands record { pass = at.passes; may = (refl, home, mark); room = c.requires.room u.0 (state_of h u.0) (at.stands.states u.0 l); carries = refl }) in
    let urbs = c.step.ensures.counts.0 in let ends = c.step.ensures.counts.1 in
    record { here = give_here old now g h at u c.code_in.result after urbs ends e here; elsewhere = give_elsewhere old now g h at u c.code_in.result after urbs ends e here; gone = give_gone old now g h at u c.code_in.result after urbs ends e here }

pub returns-clause-keeps : goal.returns-clause-keeps
returns-clause-keeps c = let w = c.requires.whole in let g = w.0 in let h = w.1 in let at = w.2 in let old = c.args.self.now in let now = c.step.new.self in let u = c.args.urb in let e = c.requires.pending.0 in let here = c.requires.pending.1 in
    let count = among old.plain g h at.stands e u.0 here in
    let l = urb_known old.plain g h at.stands u.0 e count in
    let mark : is_clear (state_of h u.0).mark ≡ false = ap is_clear (sym (mark_is old.plain g h at.stands u.0 l)) ∙ c.requires.settled in
    let home = subst (λ d. 0 < times u.0 (pending_of g h d)) (home_is old.plain g h at.stands e u.0 here) count in
    let clear = c.step.ensures.answer g h at.stands in
    let answered : c.step.result ≡ Status c.code_in.result = clear ∙ ap Status (sym (c.code_in.ensures ∙ ap answered_code clear)) in
    let after = subst (λ (a : Answer). Stands now g (h ++ record { pass = SERVER; event = Give u; answer = a; carried = None } ∷ [])) answered (c.step.ensures.stands g h None at.stands record { pass = at.passes; may = (refl, home, mark); room = c.requires.room u.0 (state_of h u.0) (at.stands.states u.0 l); carries = refl }) in
    let urbs = c.step.ensures.counts.0 in let ends = c.step.ensures.counts.1 in
    record { layout = refl; sent = λ d v t was there sent. sent; marks = λ d v was there is. ap (λ o. is_clear (mark_in o)) (give_other old now g h at u c.code_in.result after urbs ends e here v (give_apart old now g h at u c.code_in.result after urbs ends e here d v there)) ∙ is }

pub returns-clause-none : goal.returns-clause-none
returns-clause-none c = let w = c.requires.whole in let g = w.0 in let h = w.1 in let at = w.2 in let old = c.args.self.now in let now = c.step.new.self in let u = c.args.urb in let e = c.requires.pending.0 in let here = c.requires.pending.1 in
    let count = among old.plain g h at.stands e u.0 here in
    let l = urb_known old.plain g h at.stands u.0 e count in
    let mark : is_clear (state_of h u.0).mark ≡ false = ap is_clear (sym (mark_is old.plain g h at.stands u.0 l)) ∙ c.requires.settled in
    let home = subst (λ d. 0 < times u.0 (pending_of g h d)) (home_is old.plain g h at.stands e u.0 here) count in
    let clear = c.step.ensures.answer g h at.stands in
    let answered : c.step.result ≡ Status c.code_in.result = clear ∙ ap Status (sym (c.code_in.ensures ∙ ap answered_code clear)) in
    let after = subst (λ (a : Answer). Stands now g (h ++ record { pass = SERVER; event = Give u; answer = a; carried = None } ∷ [])) answered (c.step.ensures.stands g h None at.stands record { pass = at.passes; may = (refl, home, mark); room = c.requires.room u.0 (state_of h u.0) (at.stands.states u.0 l); carries = refl }) in
    let urbs = c.step.ensures.counts.0 in let ends = c.step.ensures.counts.1 in
    record { none = λ d v was there finished. (finished.0, ap mark_in (sym (give_other old now g h at u c.code_in.result after urbs ends e here v (give_apart old now g h at u c.code_in.result after urbs ends e here d v there))) ∙ finished.1) }
