use Rattle.std.proofs.Common.{◌≡◌, ◌<◌, ◌++◌, ◌∷◌, [], refl, sym, ap, ◌∙◌, subst, None, length, arith}
use Rattle.std.proofs.lemmas.Option.{slice_get_within, same_Some, none-some}
use Rattle.usb_types.specs.declared.urb.UrbId.{UrbId}
use Rattle.usb_machine.specs.declared.layout.Layout.{Layout}
use Rattle.usb_machine.specs.declared.entry.TheConstants.{SERVER}
use Rattle.usb_machine.specs.declared.event.Event.TheVariants.{Take}
use Rattle.usb_machine.specs.declared.event.Answer.{Answer}
use Rattle.usb_machine.specs.declared.event.Answer.TheVariants.{Urb}
use Rattle.usb_machine.specs.State.{is_clear, first_of}
use Rattle.usb_machine.specs.History.{line_of}
use Rattle.usb_machine.specs.Plain.{Stands, ends_of}
use Rattle.std.specs.Prelude.{slice_get}
use Rattle.usb_machine.specs.declared.transfer.Transfer.{Transfer}
use Rattle.usb_machine.specs.Shapes.{HasWindow, Accepts}
use Rattle.usb_machine.specs.Queues.{homed_at}
use Rattle.usb_serve.specs.Plain.{answered_urb, mark_in, number_in, pending_in}
use Rattle.usb_machine.proofs.AtHome.{first_split}
use Rattle.usb_serve.proofs.PlainSteps.{take_slot, take_state, take_pending, take_room, take_unfinished, take_number, take_whole}
use Rattle.usb_serve.proofs.plain_side.PlainSideSide.take.Goals as goal

pub take_line-requires : goal.take_line-requires
take_line-requires c = let w = c.requires.whole in let g = w.0 in let h = w.1 in let at = w.2 in let old = c.args.self.now in let now = c.step.new.self in let e = c.args.ep in let u = c.urb_in-urb.result in
    let near : e < ends_of old.plain = let a = at.stands.ends in let b = ap (λ (l : Layout). length l.shapes) at.layout in omega (arith, c.requires.end) in
    let some : 0 < length (line_of g h e) = let a = c.waiting.ensures g h at.stands in omega (arith, c.if-waiting-eq0.false) in
    let split = first_split (line_of g h e) some in
    let clear : c.step.result ≡ Urb record { 0 = split.0 } = c.step.ensures.answer g h at.stands ∙ ap first_of split.2 in
    let is : u ≡ record { 0 = split.0 } = c.urb_in-urb.ensures ∙ ap answered_urb clear in
    let answered : c.step.result ≡ Urb u = clear ∙ ap Urb (sym is) in
    let line : line_of g h e ≡ u.0 ∷ split.1 = split.2 ∙ ap (λ (w : UrbId). w.0 ∷ split.1) (sym is) in
    let after = subst (λ (a : Answer). Stands now g (h ++ record { pass = SERVER; event = Take e; answer = a; carried = None } ∷ [])) answered (c.step.ensures.stands g h None at.stands record { pass = at.passes; may = (refl, some); room = tt; carries = refl }) in
    let urbs = c.step.ensures.counts.0 in let ends = c.step.ensures.counts.1 in
    let slot = take_slot old now g h at e u split.1 line near after urbs ends in slice_get_within old.urbs.items u.0 slot.row slot.at

pub unreachable-requires : goal.unreachable-requires
unreachable-requires c = let w = c.requires.whole in let g = w.0 in let h = w.1 in let at = w.2 in let old = c.args.self.now in let now = c.step.new.self in let e = c.args.ep in let u = c.urb_in-urb.result in
    let near : e < ends_of old.plain = let a = at.stands.ends in let b = ap (λ (l : Layout). length l.shapes) at.layout in omega (arith, c.requires.end) in
    let some : 0 < length (line_of g h e) = let a = c.waiting.ensures g h at.stands in omega (arith, c.if-waiting-eq0.false) in
    let split = first_split (line_of g h e) some in
    let clear : c.step.result ≡ Urb record { 0 = split.0 } = c.step.ensures.answer g h at.stands ∙ ap first_of split.2 in
    let is : u ≡ record { 0 = split.0 } = c.urb_in-urb.ensures ∙ ap answered_urb clear in
    let answered : c.step.result ≡ Urb u = clear ∙ ap Urb (sym is) in
    let line : line_of g h e ≡ u.0 ∷ split.1 = split.2 ∙ ap (λ (w : UrbId). w.0 ∷ split.1) (sym is) in
    let after = subst (λ (a : Answer). Stands now g (h ++ record { pass = SERVER; event = Take e; answer = a; carried = None } ∷ [])) answered (c.step.ensures.stands g h None at.stands record { pass = at.passes; may = (refl, some); room = tt; carries = refl }) in
    let urbs = c.step.ensures.counts.0 in let ends = c.step.ensures.counts.1 in
    let slot = take_slot old now g h at e u split.1 line near after urbs ends in let t = c.in-None.ensures.line slot.row slot.at in none-some slot.transfer (t.0 ∙ slot.line)

pub returns-clause-whole : goal.returns-clause-whole
returns-clause-whole c = let w = c.requires.whole in let g = w.0 in let h = w.1 in let at = w.2 in let old = c.args.self.now in let now = c.step.new.self in let e = c.args.ep in let u = c.urb_in-urb.result in
    let near : e < ends_of old.plain = let a = at.stands.ends in let b = ap (λ (l : Layout). length l.shapes) at.layout in omega (arith, c.requires.end) in
    let some : 0 < length (line_of g h e) = let a = c.waiting.ensures g h at.stands in omega (arith, c.if-waiting-eq0.false) in
    let split = first_split (line_of g h e) some in
    let clear : c.step.result ≡ Urb record { 0 = split.0 } = c.step.ensures.answer g h at.stands ∙ ap first_of split.2 in
    let is : u ≡ record { 0 = split.0 } = c.urb_in-urb.ensures ∙ ap answered_urb clear in
    let answered : c.step.result ≡ Urb u = clear ∙ ap Urb (sym is) in
    let line : line_of g h e ≡ u.0 ∷ split.1 = split.2 ∙ ap (λ (w : UrbId). w.0 ∷ split.1) (sym is) in
    let after = subst (λ (a : Answer). Stands now g (h ++ record { pass = SERVER; event = Take e; answer = a; carried = None } ∷ [])) answered (c.step.ensures.stands g h None at.stands record { pass = at.passes; may = (refl, some); room = tt; carries = refl }) in
    let urbs = c.step.ensures.counts.0 in let ends = c.step.ensures.counts.1 in
    let slot = take_slot old now g h at e u split.1 line near after urbs ends in let t = c.in-Some.ensures.line slot.row slot.at in let s = c.take_line.new.self in (g, _, take_whole old now g h at e u split.1 line near after urbs ends s c.in-Some.ensures.same.0 c.in-Some.ensures.same.1 t.1)

pub returns-clause-takes : goal.returns-clause-takes
returns-clause-takes c = let w = c.requires.whole in let g = w.0 in let h = w.1 in let at = w.2 in let old = c.args.self.now in let now = c.step.new.self in let e = c.args.ep in let u = c.urb_in-urb.result in
    let near : e < ends_of old.plain = let a = at.stands.ends in let b = ap (λ (l : Layout). length l.shapes) at.layout in omega (arith, c.requires.end) in
    let some : 0 < length (line_of g h e) = let a = c.waiting.ensures g h at.stands in omega (arith, c.if-waiting-eq0.false) in
    let split = first_split (line_of g h e) some in
    let clear : c.step.result ≡ Urb record { 0 = split.0 } = c.step.ensures.answer g h at.stands ∙ ap first_of split.2 in
    let is : u ≡ record { 0 = split.0 } = c.urb_in-urb.ensures ∙ ap answered_urb clear in
    let answered : c.step.result ≡ Urb u = clear ∙ ap Urb (sym is) in
    let line : line_of g h e ≡ u.0 ∷ split.1 = split.2 ∙ ap (λ (w : UrbId). w.0 ∷ split.1) (sym is) in
    let after = subst (λ (a : Answer). Stands now g (h ++ record { pass = SERVER; event = Take e; answer = a; carried = None } ∷ [])) answered (c.step.ensures.stands g h None at.stands record { pass = at.passes; may = (refl, some); room = tt; carries = refl }) in
    let urbs = c.step.ensures.counts.0 in let ends = c.step.ensures.counts.1 in
    let slot = take_slot old now g h at e u split.1 line near after urbs ends in let t = c.in-Some.ensures.line slot.row slot.at in let s = c.take_line.new.self in record {
      entered = λ g h at. let old = c.args.self.now in let now = c.step.new.self in let e = c.args.ep in let u = c.urb_in-urb.result in
          let near : e < ends_of old.plain = let a = at.stands.ends in let b = ap (λ (l : Layout). length l.shapes) at.layout in omega (arith, c.requires.end) in
          let some : 0 < length (line_of g h e) = let a = c.waiting.ensures g h at.stands in omega (arith, c.if-waiting-eq0.false) in
          let split = first_split (line_of g h e) some in
          let clear : c.step.result ≡ Urb record { 0 = split.0 } = c.step.ensures.answer g h at.stands ∙ ap first_of split.2 in
          let is : u ≡ record { 0 = split.0 } = c.urb_in-urb.ensures ∙ ap answered_urb clear in
          let answered : c.step.result ≡ Urb u = clear ∙ ap Urb (sym is) in
          let line : line_of g h e ≡ u.0 ∷ split.1 = split.2 ∙ ap (λ (w : UrbId). w.0 ∷ split.1) (sym is) in
          let after = subst (λ (a : Answer). Stands now g (h ++ record { pass = SERVER; event = Take e; answer = a; carried = None } ∷ [])) answered (c.step.ensures.stands g h None at.stands record { pass = at.passes; may = (refl, some); room = tt; carries = refl }) in
          let urbs = c.step.ensures.counts.0 in let ends = c.step.ensures.counts.1 in
          let slot = take_slot old now g h at e u split.1 line near after urbs ends in let t = c.in-Some.ensures.line slot.row slot.at in let s = c.take_line.new.self in take_whole old now g h at e u split.1 line near after urbs ends s c.in-Some.ensures.same.0 c.in-Some.ensures.same.1 t.1;
      first = λ g h at. let old = c.args.self.now in let now = c.step.new.self in let e = c.args.ep in let u = c.urb_in-urb.result in
          let near : e < ends_of old.plain = let a = at.stands.ends in let b = ap (λ (l : Layout). length l.shapes) at.layout in omega (arith, c.requires.end) in
          let some : 0 < length (line_of g h e) = let a = c.waiting.ensures g h at.stands in omega (arith, c.if-waiting-eq0.false) in
          let split = first_split (line_of g h e) some in
          let clear : c.step.result ≡ Urb record { 0 = split.0 } = c.step.ensures.answer g h at.stands ∙ ap first_of split.2 in
          let is : u ≡ record { 0 = split.0 } = c.urb_in-urb.ensures ∙ ap answered_urb clear in
          let answered : c.step.result ≡ Urb u = clear ∙ ap Urb (sym is) in
          let line : line_of g h e ≡ u.0 ∷ split.1 = split.2 ∙ ap (λ (w : UrbId). w.0 ∷ split.1) (sym is) in
          let after = subst (λ (a : Answer). Stands now g (h ++ record { pass = SERVER; event = Take e; answer = a; carried = None } ∷ [])) answered (c.step.ensures.stands g h None at.stands record { pass = at.passes; may = (refl, some); room = tt; carries = refl }) in
          let urbs = c.step.ensures.counts.0 in let ends = c.step.ensures.counts.1 in (split.1, line);
      row = slot.row;
      at = slot.at;
      line = sym t.0;
      slots = t.1;
    }

pub returns-clause-pending : goal.returns-clause-pending
returns-clause-pending c d = let w = c.requires.whole in let g = w.0 in let h = w.1 in let at = w.2 in let old = c.args.self.now in let now = c.step.new.self in let e = c.args.ep in let u = c.urb_in-urb.result in
    let near : e < ends_of old.plain = let a = at.stands.ends in let b = ap (λ (l : Layout). length l.shapes) at.layout in omega (arith, c.requires.end) in
    let some : 0 < length (line_of g h e) = let a = c.waiting.ensures g h at.stands in omega (arith, c.if-waiting-eq0.false) in
    let split = first_split (line_of g h e) some in
    let clear : c.step.result ≡ Urb record { 0 = split.0 } = c.step.ensures.answer g h at.stands ∙ ap first_of split.2 in
    let is : u ≡ record { 0 = split.0 } = c.urb_in-urb.ensures ∙ ap answered_urb clear in
    let answered : c.step.result ≡ Urb u = clear ∙ ap Urb (sym is) in
    let line : line_of g h e ≡ u.0 ∷ split.1 = split.2 ∙ ap (λ (w : UrbId). w.0 ∷ split.1) (sym is) in
    let after = subst (λ (a : Answer). Stands now g (h ++ record { pass = SERVER; event = Take e; answer = a; carried = None } ∷ [])) answered (c.step.ensures.stands g h None at.stands record { pass = at.passes; may = (refl, some); room = tt; carries = refl }) in
    let urbs = c.step.ensures.counts.0 in let ends = c.step.ensures.counts.1 in
    let slot = take_slot old now g h at e u split.1 line near after urbs ends in let t = c.in-Some.ensures.line slot.row slot.at in let s = c.take_line.new.self in ap (λ p. pending_in (slice_get p.ends.items d)) c.in-Some.ensures.same.0 ∙ take_pending old now g h at e u split.1 line near after urbs ends d

pub returns-clause-taken : goal.returns-clause-taken
returns-clause-taken c = let w = c.requires.whole in let g = w.0 in let h = w.1 in let at = w.2 in let old = c.args.self.now in let now = c.step.new.self in let e = c.args.ep in let u = c.urb_in-urb.result in
    let near : e < ends_of old.plain = let a = at.stands.ends in let b = ap (λ (l : Layout). length l.shapes) at.layout in omega (arith, c.requires.end) in
    let some : 0 < length (line_of g h e) = let a = c.waiting.ensures g h at.stands in omega (arith, c.if-waiting-eq0.false) in
    let split = first_split (line_of g h e) some in
    let clear : c.step.result ≡ Urb record { 0 = split.0 } = c.step.ensures.answer g h at.stands ∙ ap first_of split.2 in
    let is : u ≡ record { 0 = split.0 } = c.urb_in-urb.ensures ∙ ap answered_urb clear in
    let answered : c.step.result ≡ Urb u = clear ∙ ap Urb (sym is) in
    let line : line_of g h e ≡ u.0 ∷ split.1 = split.2 ∙ ap (λ (w : UrbId). w.0 ∷ split.1) (sym is) in
    let after = subst (λ (a : Answer). Stands now g (h ++ record { pass = SERVER; event = Take e; answer = a; carried = None } ∷ [])) answered (c.step.ensures.stands g h None at.stands record { pass = at.passes; may = (refl, some); room = tt; carries = refl }) in
    let urbs = c.step.ensures.counts.0 in let ends = c.step.ensures.counts.1 in
    let slot = take_slot old now g h at e u split.1 line near after urbs ends in let t = c.in-Some.ensures.line slot.row slot.at in let s = c.take_line.new.self in let same = same_Some c.in-Some.t slot.transfer (t.0 ∙ slot.line) in let layout = at.layout ∙ ap (λ l. l.now) (sym c.in-Some.ensures.same.1) in record {
      window = subst HasWindow (sym same) slot.window;
      unmoved = ap (λ (t : Transfer). t.actual) same ∙ slot.unmoved;
      fits = subst (λ (l : Layout). Accepts (slice_get l.shapes e) c.in-Some.t) layout (subst (Accepts (slice_get g.layout.shapes e)) (sym same) slot.fits);
      sent = take_number old now g h at e u split.1 line near after urbs ends s c.in-Some.ensures.same.0 c.in-Some.ensures.same.1 t.1 u.0 ∙ (ap number_in slot.at ∙ (slot.number ∙ ap (λ (t : Transfer). t.number) (sym same)));
      unfinished = λ f. take_unfinished old now g h at e u split.1 line near after urbs ends (f.0, ap (λ p. mark_in (slice_get p.states.items u.0)) (sym c.in-Some.ensures.same.0) ∙ f.1);
      room = let r = take_room old now g h at e u split.1 line near after urbs ends in let a = ap (λ p. length (pending_in (slice_get p.ends.items e))) c.in-Some.ensures.same.0 in let b = ap (λ (l : Layout). homed_at l.homes e) layout in omega arith;
    }

pub returns-clause-keeps : goal.returns-clause-keeps
returns-clause-keeps c = let w = c.requires.whole in let g = w.0 in let h = w.1 in let at = w.2 in let old = c.args.self.now in let now = c.step.new.self in let e = c.args.ep in let u = c.urb_in-urb.result in
    let near : e < ends_of old.plain = let a = at.stands.ends in let b = ap (λ (l : Layout). length l.shapes) at.layout in omega (arith, c.requires.end) in
    let some : 0 < length (line_of g h e) = let a = c.waiting.ensures g h at.stands in omega (arith, c.if-waiting-eq0.false) in
    let split = first_split (line_of g h e) some in
    let clear : c.step.result ≡ Urb record { 0 = split.0 } = c.step.ensures.answer g h at.stands ∙ ap first_of split.2 in
    let is : u ≡ record { 0 = split.0 } = c.urb_in-urb.ensures ∙ ap answered_urb clear in
    let answered : c.step.result ≡ Urb u = clear ∙ ap Urb (sym is) in
    let line : line_of g h e ≡ u.0 ∷ split.1 = split.2 ∙ ap (λ (w : UrbId). w.0 ∷ split.1) (sym is) in
    let after = subst (λ (a : Answer). Stands now g (h ++ record { pass = SERVER; event = Take e; answer = a; carried = None } ∷ [])) answered (c.step.ensures.stands g h None at.stands record { pass = at.passes; may = (refl, some); room = tt; carries = refl }) in
    let urbs = c.step.ensures.counts.0 in let ends = c.step.ensures.counts.1 in
    let slot = take_slot old now g h at e u split.1 line near after urbs ends in let t = c.in-Some.ensures.line slot.row slot.at in let s = c.take_line.new.self in let slots = t.1 in record { layout = ap (λ l. l.now) c.in-Some.ensures.same.1; sent = λ d v tr was there sent. take_number old now g h at e u split.1 line near after urbs ends s c.in-Some.ensures.same.0 c.in-Some.ensures.same.1 t.1 v ∙ sent; marks = λ d v was there is. ap (λ p. is_clear (mark_in (slice_get p.states.items v))) c.in-Some.ensures.same.0 ∙ (ap (λ o. is_clear (mark_in o)) (take_state old now g h at e u split.1 line near after urbs ends v) ∙ is) }

pub returns-clause-none : goal.returns-clause-none
returns-clause-none c = let w = c.requires.whole in let g = w.0 in let h = w.1 in let at = w.2 in let old = c.args.self.now in let now = c.step.new.self in let e = c.args.ep in let u = c.urb_in-urb.result in
    let near : e < ends_of old.plain = let a = at.stands.ends in let b = ap (λ (l : Layout). length l.shapes) at.layout in omega (arith, c.requires.end) in
    let some : 0 < length (line_of g h e) = let a = c.waiting.ensures g h at.stands in omega (arith, c.if-waiting-eq0.false) in
    let split = first_split (line_of g h e) some in
    let clear : c.step.result ≡ Urb record { 0 = split.0 } = c.step.ensures.answer g h at.stands ∙ ap first_of split.2 in
    let is : u ≡ record { 0 = split.0 } = c.urb_in-urb.ensures ∙ ap answered_urb clear in
    let answered : c.step.result ≡ Urb u = clear ∙ ap Urb (sym is) in
    let line : line_of g h e ≡ u.0 ∷ split.1 = split.2 ∙ ap (λ (w : UrbId). w.0 ∷ split.1) (sym is) in
    let after = subst (λ (a : Answer). Stands now g (h ++ record { pass = SERVER; event = Take e; answer = a; carried = None } ∷ [])) answered (c.step.ensures.stands g h None at.stands record { pass = at.passes; may = (refl, some); room = tt; carries = refl }) in
    let urbs = c.step.ensures.counts.0 in let ends = c.step.ensures.counts.1 in
    let slot = take_slot old now g h at e u split.1 line near after urbs ends in let t = c.in-Some.ensures.line slot.row slot.at in let s = c.take_line.new.self in record { none = λ d v was there f. (f.0, ap mark_in (sym (take_state old now g h at e u split.1 line near after urbs ends v)) ∙ (ap (λ p. mark_in (slice_get p.states.items v)) (sym c.in-Some.ensures.same.0) ∙ f.1)) }

pub returns-clause-room : goal.returns-clause-room
returns-clause-room c few = let w = c.requires.whole in let g = w.0 in let h = w.1 in let at = w.2 in let old = c.args.self.now in let now = c.step.new.self in let e = c.args.ep in let u = c.urb_in-urb.result in
    let near : e < ends_of old.plain = let a = at.stands.ends in let b = ap (λ (l : Layout). length l.shapes) at.layout in omega (arith, c.requires.end) in
    let some : 0 < length (line_of g h e) = let a = c.waiting.ensures g h at.stands in omega (arith, c.if-waiting-eq0.false) in
    let split = first_split (line_of g h e) some in
    let clear : c.step.result ≡ Urb record { 0 = split.0 } = c.step.ensures.answer g h at.stands ∙ ap first_of split.2 in
    let is : u ≡ record { 0 = split.0 } = c.urb_in-urb.ensures ∙ ap answered_urb clear in
    let answered : c.step.result ≡ Urb u = clear ∙ ap Urb (sym is) in
    let line : line_of g h e ≡ u.0 ∷ split.1 = split.2 ∙ ap (λ (w : UrbId). w.0 ∷ split.1) (sym is) in
    let after = subst (λ (a : Answer). Stands now g (h ++ record { pass = SERVER; event = Take e; answer = a; carried = None } ∷ [])) answered (c.step.ensures.stands g h None at.stands record { pass = at.passes; may = (refl, some); room = tt; carries = refl }) in
    let urbs = c.step.ensures.counts.0 in let ends = c.step.ensures.counts.1 in
    let slot = take_slot old now g h at e u split.1 line near after urbs ends in let t = c.in-Some.ensures.line slot.row slot.at in let s = c.take_line.new.self in λ v st there. few v st (sym (take_state old now g h at e u split.1 line near after urbs ends v) ∙ (ap (λ p. slice_get p.states.items v) (sym c.in-Some.ensures.same.0) ∙ there))

pub returns-clause-no_room : goal.returns-clause-no_room
returns-clause-no_room c few = let w = c.requires.whole in let g = w.0 in let h = w.1 in let at = w.2 in let old = c.args.self.now in let now = c.step.new.self in let e = c.args.ep in let u = c.urb_in-urb.result in
    let near : e < ends_of old.plain = let a = at.stands.ends in let b = ap (λ (l : Layout). length l.shapes) at.layout in omega (arith, c.requires.end) in
    let some : 0 < length (line_of g h e) = let a = c.waiting.ensures g h at.stands in omega (arith, c.if-waiting-eq0.false) in
    let split = first_split (line_of g h e) some in
    let clear : c.step.result ≡ Urb record { 0 = split.0 } = c.step.ensures.answer g h at.stands ∙ ap first_of split.2 in
    let is : u ≡ record { 0 = split.0 } = c.urb_in-urb.ensures ∙ ap answered_urb clear in
    let answered : c.step.result ≡ Urb u = clear ∙ ap Urb (sym is) in
    let line : line_of g h e ≡ u.0 ∷ split.1 = split.2 ∙ ap (λ (w : UrbId). w.0 ∷ split.1) (sym is) in
    let after = subst (λ (a : Answer). Stands now g (h ++ record { pass = SERVER; event = Take e; answer = a; carried = None } ∷ [])) answered (c.step.ensures.stands g h None at.stands record { pass = at.passes; may = (refl, some); room = tt; carries = refl }) in
    let urbs = c.step.ensures.counts.0 in let ends = c.step.ensures.counts.1 in
    let slot = take_slot old now g h at e u split.1 line near after urbs ends in let t = c.in-Some.ensures.line slot.row slot.at in let s = c.take_line.new.self in λ v st there. few v st (ap (λ p. slice_get p.states.items v) c.in-Some.ensures.same.0 ∙ (take_state old now g h at e u split.1 line near after urbs ends v ∙ there))
