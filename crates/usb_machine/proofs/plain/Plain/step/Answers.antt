use Rattle.std.proofs.Common.{rules, ◌≡◌, ◌<◌, ℕ, [], sym, refl, ap, ◌∙◌, subst, get_or, set, ◌+◌, ◌*◌}
use Rattle.usb_machine.specs.declared.event.Event.{Event}
use Rattle.usb_machine.specs.declared.event.Event.TheVariants.{Take, Give}
use Rattle.usb_machine.specs.declared.event.Answer.TheVariants.{Nothing}
use Rattle.std.specs.Prelude.{Vec}
use Rattle.std.specs.declared.alloc.Global.{Global}
use Rattle.usb_machine.specs.declared.state.UrbState.{UrbState}
use Rattle.usb_machine.specs.State.{answer_of, after, opening}
use Rattle.usb_machine.specs.History.{state_of, line_of}
use Rattle.usb_machine.specs.Legal.{urb_of, end_of}
use Rattle.usb_machine.specs.Plain.{NotesRow, IsInside, IsOfUrb, CanCount, urbs_of}
use Rattle.usb_machine.proofs.Stands.{MovesNone, row_answers, take_answers, noted_stands, taken_stands, change_made, take_made, link_made, give_made}
use Rattle.usb_machine.proofs.plain.Plain.step.Goals as goal

pub returns-in-Submit-clause-answer : goal.returns-in-Submit-clause-answer
returns-in-Submit-clause-answer c g h s =
    let rows = c.args.self.now.states.items in let result = c.change-answer-in-Submit.result in
    let own : urb_of c.args.event ≡ c.in-Submit.urb.0 = search rules in
    let of : IsOfUrb c.args.event = search rules in
    let inside : urb_of c.args.event < urbs_of c.args.self.now = search rules in
    let said : result ≡ answer_of c.args.event (get_or rows (urb_of c.args.event) opening) []
    = c.change-answer-in-Submit.ensures.answer ∙ (ap (λ e. answer_of e (get_or rows c.in-Submit.urb.0 opening) []) c.in-Submit.event-is ∙ ap (λ u. answer_of c.args.event (get_or rows u opening) []) (sym own)) in
    row_answers c.args.self.now g h c.args.event result s of inside said

pub returns-in-Submit-clause-stands : goal.returns-in-Submit-clause-stands
returns-in-Submit-clause-stands c g h carried s n =
    let rows = c.args.self.now.states.items in let result = c.change-answer-in-Submit.result in let new = c.change-answer-in-Submit.new.self in
    let own : urb_of c.args.event ≡ c.in-Submit.urb.0 = search rules in
    let of : IsOfUrb c.args.event = search rules in
    let none : MovesNone c.args.event = search rules in
    let inside : urb_of c.args.event < urbs_of c.args.self.now = search rules in
    let P : Event → ℕ → Type 0 = λ e u. CanCount e (get_or rows u opening) → new.states.items ≡ set rows u (after e result (get_or rows u opening)) in
    let change : P c.args.event (urb_of c.args.event) = subst (P c.args.event) (sym own) (subst (λ e. P e c.in-Submit.urb.0) c.in-Submit.event-is c.change-answer-in-Submit.ensures.states) in
    let e = c.change-answer-in-Submit.ensures in
    let made = change_made c.args.self.now new g h c.args.pass result carried s c.args.event n of none inside change e.homes e.urbs e.ends in
    let mid = c.change-answer-in-Submit.new.self in
    let N : Event → ℕ → Type 0 = λ d u. c.args.pass < mid.passes → u < urbs_of mid → NotesRow mid c.note-in-Submit.new.self (c.args.pass * urbs_of mid + u) d result in
    let note : N c.args.event (urb_of c.args.event) = subst (N c.args.event) (sym own) (subst (λ d. N d c.in-Submit.urb.0) c.in-Submit.event-is c.note-in-Submit.ensures.rows) in
    noted_stands c.args.self.now mid c.note-in-Submit.new.self g h (record { pass = c.args.pass; event = c.args.event; answer = result; carried = carried }) s n (returns-in-Submit-clause-answer c g h s) made e.rows
    of inside note c.note-in-Submit.ensures.passes c.note-in-Submit.ensures.rest

pub returns-in-Take-clause-stands : goal.returns-in-Take-clause-stands
returns-in-Take-clause-stands c g h carried s n =
    let inside : IsInside c.args.self.now (Take c.in-Take.ep) = subst (IsInside c.args.self.now) c.in-Take.is c.requires in
    let q = c.index_mut.result.now in
    let answers = c.take.ensures.answer ∙ take_answers c.args.self.now g h s c.in-Take.ep inside q c.index_mut.ensures.value in
    taken_stands c.args.self.now _ g h c.args.pass c.in-Take.ep c.args.event c.take.result carried s c.in-Take.is n answers
    (take_made c.args.self.now _ g h c.args.pass c.take.result carried s c.args.event c.in-Take.ep c.in-Take.is n q c.take.new.self inside c.index_mut.ensures.value c.take.ensures.moved refl refl refl) refl refl

pub returns-in-Link-clause-stands : goal.returns-in-Link-clause-stands
returns-in-Link-clause-stands c g h carried s n =
    let e = c.link.ensures in let mid = c.link.new.self in let u = c.in-Link.urb in
    let of : IsOfUrb c.args.event = search rules in
    let own : urb_of c.args.event ≡ u.0 = search rules in
    let inside : urb_of c.args.event < urbs_of c.args.self.now = search rules in
    let made = link_made c.args.self.now mid g h c.args.pass Nothing carried s c.args.event u c.in-Link.is n e.linked e.rest.0 e.rest.1 e.ends in
    let N : Event → ℕ → Type 0 = λ d k. c.args.pass < mid.passes → k < urbs_of mid → NotesRow mid c.note.new.self (c.args.pass * urbs_of mid + k) d Nothing in
    let note : N c.args.event (urb_of c.args.event) = subst (N c.args.event) (sym own) (subst (λ d. N d u.0) (sym c.in-Link.is) c.note.ensures.rows) in
    noted_stands c.args.self.now mid c.note.new.self g h (record { pass = c.args.pass; event = c.args.event; answer = Nothing; carried = carried }) s n
    (ap (λ d. answer_of d (state_of h (urb_of d)) (line_of g h (end_of d))) (sym c.in-Link.is)) made e.rows of inside note c.note.ensures.passes c.note.ensures.rest

pub returns-in-Give-clause-answer : goal.returns-in-Give-clause-answer
returns-in-Give-clause-answer c g h s =
    let u = c.in-Give.urb.0 in
    let own : urb_of c.args.event ≡ u = search rules in
    let of : IsOfUrb c.args.event = search rules in
    let inside : urb_of c.args.event < urbs_of c.args.self.now = search rules in
    let said : c.change-answer.result ≡ answer_of c.args.event (get_or c.args.self.now.states.items (urb_of c.args.event) opening) []
    = c.change-answer.ensures.answer ∙ (ap (λ (v : Vec UrbState Global). answer_of (Give c.in-Give.urb) (get_or v.items u opening) []) c.give.ensures.rest.1
    ∙ (ap (λ k. answer_of (Give c.in-Give.urb) (get_or c.args.self.now.states.items k opening) []) (sym own) ∙ ap (λ d. answer_of d (get_or c.args.self.now.states.items (urb_of c.args.event) opening) []) (sym c.in-Give.is))) in
    row_answers c.args.self.now g h c.args.event c.change-answer.result s of inside said

pub returns-in-Give-clause-stands : goal.returns-in-Give-clause-stands
returns-in-Give-clause-stands c g h carried s n =
    let e = c.give.ensures in let k = c.change-answer.ensures in let u = c.in-Give.urb in let mid = c.change-answer.new.self in let result = c.change-answer.result in
    let of : IsOfUrb c.args.event = search rules in
    let own : urb_of c.args.event ≡ u.0 = search rules in
    let inside : u.0 < urbs_of c.args.self.now = search rules in
    let within : urb_of c.args.event < urbs_of c.args.self.now = search rules in
    let made = give_made c.args.self.now mid g h c.args.pass result carried s c.give.new.self c.args.event u c.in-Give.is n inside e.given e.rest.0 e.rest.1 e.ends k.states k.homes k.urbs k.ends in
    let N : Event → ℕ → Type 0 = λ d v. c.args.pass < mid.passes → v < urbs_of mid → NotesRow mid c.note-in-Give.new.self (c.args.pass * urbs_of mid + v) d result in
    let note : N c.args.event (urb_of c.args.event) = subst (N c.args.event) (sym own) (subst (λ d. N d u.0) (sym c.in-Give.is) c.note-in-Give.ensures.rows) in
    noted_stands c.args.self.now mid c.note-in-Give.new.self g h (record { pass = c.args.pass; event = c.args.event; answer = result; carried = carried }) s n (returns-in-Give-clause-answer c g h s) made
    (k.rows.0 ∙ e.rows.0, k.rows.1 ∙ e.rows.1) of within note c.note-in-Give.ensures.passes c.note-in-Give.ensures.rest
