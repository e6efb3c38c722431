use Rattle.std.proofs.Common.{◌≡◌, ◌++◌, ◌∷◌, [], refl, sym, ap, ◌∙◌, subst, None, true≢false}
use Rattle.usb_machine.specs.declared.entry.TheConstants.{SERVER}
use Rattle.usb_machine.specs.declared.event.Event.TheVariants.{Finish}
use Rattle.usb_machine.specs.declared.event.Answer.{Answer}
use Rattle.usb_machine.specs.declared.event.Answer.TheVariants.{Truth}
use Rattle.usb_machine.specs.State.{is_clear}
use Rattle.usb_machine.specs.History.{state_of}
use Rattle.usb_machine.specs.Plain.{Stands}
use Rattle.usb_serve.specs.Plain.{answered_truth, mark_in}
use Rattle.usb_serve.proofs.PlainSteps.{first_there, finish_pending, finish_other, finish_late, finish_marks, finish_keeps, finish_room, finish_no_room, finish_whole}
use Rattle.usb_serve.proofs.Plains.{mark_is}
use Rattle.usb_serve.proofs.plain_side.PlainSideSide.finish.Goals as goal

pub step-requires : goal.step-requires
step-requires c = let w = c.requires.whole in (first_there c.args.self.now w.0 w.1 w.2 c.args.urb.0 c.requires.first.0 c.requires.first.1 c.requires.first.2).4

pub returns-clause-whole : goal.returns-clause-whole
returns-clause-whole c = let w = c.requires.whole in let g = w.0 in let h = w.1 in let at = w.2 in let old = c.args.self.now in let now = c.step.new.self in let u = c.args.urb in
    let f = first_there old g h at u.0 c.requires.first.0 c.requires.first.1 c.requires.first.2 in
    let clear = c.step.ensures.answer g h at.stands in
    let answer : c.truth_in.result ≡ is_clear (state_of h u.0).mark = c.truth_in.ensures ∙ ap answered_truth clear in
    let answered : c.step.result ≡ Truth c.truth_in.result = clear ∙ ap Truth (sym answer) in
    let after = subst (λ (a : Answer). Stands now g (h ++ record { pass = SERVER; event = Finish u c.args.code; answer = a; carried = None } ∷ [])) answered (c.step.ensures.stands g h None at.stands record { pass = at.passes; may = (refl, f.2); room = tt; carries = refl }) in
    let urbs = c.step.ensures.counts.0 in let ends = c.step.ensures.counts.1 in
    (g, _, finish_whole old now g h at u c.args.code c.truth_in.result answer after urbs ends f.3)

pub returns-clause-finishes : goal.returns-clause-finishes
returns-clause-finishes c = record {
  entered = λ g h at. let old = c.args.self.now in let now = c.step.new.self in let u = c.args.urb in
      let f = first_there old g h at u.0 c.requires.first.0 c.requires.first.1 c.requires.first.2 in
      let clear = c.step.ensures.answer g h at.stands in
      let answer : c.truth_in.result ≡ is_clear (state_of h u.0).mark = c.truth_in.ensures ∙ ap answered_truth clear in
      let answered : c.step.result ≡ Truth c.truth_in.result = clear ∙ ap Truth (sym answer) in
      let after = subst (λ (a : Answer). Stands now g (h ++ record { pass = SERVER; event = Finish u c.args.code; answer = a; carried = None } ∷ [])) answered (c.step.ensures.stands g h None at.stands record { pass = at.passes; may = (refl, f.2); room = tt; carries = refl }) in
      let urbs = c.step.ensures.counts.0 in let ends = c.step.ensures.counts.1 in
      finish_whole old now g h at u c.args.code c.truth_in.result answer after urbs ends f.3;
  slots = refl;
}

pub returns-clause-pending : goal.returns-clause-pending
returns-clause-pending c e = let w = c.requires.whole in let g = w.0 in let h = w.1 in let at = w.2 in let old = c.args.self.now in let now = c.step.new.self in let u = c.args.urb in
    let f = first_there old g h at u.0 c.requires.first.0 c.requires.first.1 c.requires.first.2 in
    let clear = c.step.ensures.answer g h at.stands in
    let answer : c.truth_in.result ≡ is_clear (state_of h u.0).mark = c.truth_in.ensures ∙ ap answered_truth clear in
    let answered : c.step.result ≡ Truth c.truth_in.result = clear ∙ ap Truth (sym answer) in
    let after = subst (λ (a : Answer). Stands now g (h ++ record { pass = SERVER; event = Finish u c.args.code; answer = a; carried = None } ∷ [])) answered (c.step.ensures.stands g h None at.stands record { pass = at.passes; may = (refl, f.2); room = tt; carries = refl }) in
    let urbs = c.step.ensures.counts.0 in let ends = c.step.ensures.counts.1 in
    finish_pending old now g h at u c.args.code c.truth_in.result answer after urbs ends e

pub returns-clause-settled : goal.returns-clause-settled
returns-clause-settled c is = let w = c.requires.whole in let g = w.0 in let h = w.1 in let at = w.2 in let old = c.args.self.now in let now = c.step.new.self in let u = c.args.urb in
    let f = first_there old g h at u.0 c.requires.first.0 c.requires.first.1 c.requires.first.2 in
    let clear = c.step.ensures.answer g h at.stands in
    let answer : c.truth_in.result ≡ is_clear (state_of h u.0).mark = c.truth_in.ensures ∙ ap answered_truth clear in
    let answered : c.step.result ≡ Truth c.truth_in.result = clear ∙ ap Truth (sym answer) in
    let after = subst (λ (a : Answer). Stands now g (h ++ record { pass = SERVER; event = Finish u c.args.code; answer = a; carried = None } ∷ [])) answered (c.step.ensures.stands g h None at.stands record { pass = at.passes; may = (refl, f.2); room = tt; carries = refl }) in
    let urbs = c.step.ensures.counts.0 in let ends = c.step.ensures.counts.1 in
    finish_marks old now g h at u c.args.code c.truth_in.result answer after urbs ends f.4

pub returns-clause-late : goal.returns-clause-late
returns-clause-late c is = let w = c.requires.whole in let g = w.0 in let h = w.1 in let at = w.2 in let old = c.args.self.now in let now = c.step.new.self in let u = c.args.urb in
    let f = first_there old g h at u.0 c.requires.first.0 c.requires.first.1 c.requires.first.2 in
    let clear = c.step.ensures.answer g h at.stands in
    let answer : c.truth_in.result ≡ is_clear (state_of h u.0).mark = c.truth_in.ensures ∙ ap answered_truth clear in
    let answered : c.step.result ≡ Truth c.truth_in.result = clear ∙ ap Truth (sym answer) in
    let after = subst (λ (a : Answer). Stands now g (h ++ record { pass = SERVER; event = Finish u c.args.code; answer = a; carried = None } ∷ [])) answered (c.step.ensures.stands g h None at.stands record { pass = at.passes; may = (refl, f.2); room = tt; carries = refl }) in
    let urbs = c.step.ensures.counts.0 in let ends = c.step.ensures.counts.1 in
    (finish_marks old now g h at u c.args.code c.truth_in.result answer after urbs ends f.4, record { none = λ e v was now_is finished. (finished.0, ap mark_in (sym (finish_late old now g h at u c.args.code c.truth_in.result answer after urbs ends is v)) ∙ finished.1) })

pub returns-clause-keeps : goal.returns-clause-keeps
returns-clause-keeps c = let w = c.requires.whole in let g = w.0 in let h = w.1 in let at = w.2 in let old = c.args.self.now in let now = c.step.new.self in let u = c.args.urb in
    let f = first_there old g h at u.0 c.requires.first.0 c.requires.first.1 c.requires.first.2 in
    let clear = c.step.ensures.answer g h at.stands in
    let answer : c.truth_in.result ≡ is_clear (state_of h u.0).mark = c.truth_in.ensures ∙ ap answered_truth clear in
    let answered : c.step.result ≡ Truth c.truth_in.result = clear ∙ ap Truth (sym answer) in
    let after = subst (λ (a : Answer). Stands now g (h ++ record { pass = SERVER; event = Finish u c.args.code; answer = a; carried = None } ∷ [])) answered (c.step.ensures.stands g h None at.stands record { pass = at.passes; may = (refl, f.2); room = tt; carries = refl }) in
    let urbs = c.step.ensures.counts.0 in let ends = c.step.ensures.counts.1 in
    record { layout = refl; sent = λ e v t was now_is sent. sent; marks = λ e v was now_is is. finish_keeps old now g h at u c.args.code c.truth_in.result answer after urbs ends f.4 v is }

pub returns-clause-only : goal.returns-clause-only
returns-clause-only c = let w = c.requires.whole in let g = w.0 in let h = w.1 in let at = w.2 in let old = c.args.self.now in let now = c.step.new.self in let u = c.args.urb in
    let f = first_there old g h at u.0 c.requires.first.0 c.requires.first.1 c.requires.first.2 in
    let clear = c.step.ensures.answer g h at.stands in
    let answer : c.truth_in.result ≡ is_clear (state_of h u.0).mark = c.truth_in.ensures ∙ ap answered_truth clear in
    let answered : c.step.result ≡ Truth c.truth_in.result = clear ∙ ap Truth (sym answer) in
    let after = subst (λ (a : Answer). Stands now g (h ++ record { pass = SERVER; event = Finish u c.args.code; answer = a; carried = None } ∷ [])) answered (c.step.ensures.stands g h None at.stands record { pass = at.passes; may = (refl, f.2); room = tt; carries = refl }) in
    let urbs = c.step.ensures.counts.0 in let ends = c.step.ensures.counts.1 in
    record { none_else = λ e v off was now_is finished. (finished.0, ap mark_in (sym (finish_other old now g h at u c.args.code c.truth_in.result answer after urbs ends v off)) ∙ finished.1) }

pub returns-clause-room : goal.returns-clause-room
returns-clause-room c few = let w = c.requires.whole in let g = w.0 in let h = w.1 in let at = w.2 in let old = c.args.self.now in let now = c.step.new.self in let u = c.args.urb in
    let f = first_there old g h at u.0 c.requires.first.0 c.requires.first.1 c.requires.first.2 in
    let clear = c.step.ensures.answer g h at.stands in
    let answer : c.truth_in.result ≡ is_clear (state_of h u.0).mark = c.truth_in.ensures ∙ ap answered_truth clear in
    let answered : c.step.result ≡ Truth c.truth_in.result = clear ∙ ap Truth (sym answer) in
    let after = subst (λ (a : Answer). Stands now g (h ++ record { pass = SERVER; event = Finish u c.args.code; answer = a; carried = None } ∷ [])) answered (c.step.ensures.stands g h None at.stands record { pass = at.passes; may = (refl, f.2); room = tt; carries = refl }) in
    let urbs = c.step.ensures.counts.0 in let ends = c.step.ensures.counts.1 in
    finish_room old now g h at u c.args.code c.truth_in.result answer after urbs ends few

pub returns-clause-no_room : goal.returns-clause-no_room
returns-clause-no_room c few = let w = c.requires.whole in let g = w.0 in let h = w.1 in let at = w.2 in let old = c.args.self.now in let now = c.step.new.self in let u = c.args.urb in
    let f = first_there old g h at u.0 c.requires.first.0 c.requires.first.1 c.requires.first.2 in
    let clear = c.step.ensures.answer g h at.stands in
    let answer : c.truth_in.result ≡ is_clear (state_of h u.0).mark = c.truth_in.ensures ∙ ap answered_truth clear in
    let answered : c.step.result ≡ Truth c.truth_in.result = clear ∙ ap Truth (sym answer) in
    let after = subst (λ (a : Answer). Stands now g (h ++ record { pass = SERVER; event = Finish u c.args.code; answer = a; carried = None } ∷ [])) answered (c.step.ensures.stands g h None at.stands record { pass = at.passes; may = (refl, f.2); room = tt; carries = refl }) in
    let urbs = c.step.ensures.counts.0 in let ends = c.step.ensures.counts.1 in
    finish_no_room old now g h at u c.args.code c.truth_in.result answer after urbs ends few

pub returns-clause-unmarked : goal.returns-clause-unmarked
returns-clause-unmarked c done marked = let w = c.requires.whole in let g = w.0 in let h = w.1 in let at = w.2 in let old = c.args.self.now in let u = c.args.urb in
    let f = first_there old g h at u.0 c.requires.first.0 c.requires.first.1 c.requires.first.2 in
    let answer : c.truth_in.result ≡ is_clear (state_of h u.0).mark = c.truth_in.ensures ∙ ap answered_truth (c.step.ensures.answer g h at.stands) in
    true≢false (sym done ∙ (answer ∙ (sym (ap is_clear (mark_is old.plain g h at.stands u.0 f.4)) ∙ marked)))
