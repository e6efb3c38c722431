use Rattle.std.proofs.Common.{List, ◌≡◌, ◌<◌, ◌++◌, ◌∷◌, [], refl, sym, ap, ◌∙◌, subst, arith, Some, None, append_assoc}
use Rattle.usb_types.specs.declared.errno.Code.TheVariants.{Zero, Fault}
use Rattle.usb_machine.specs.declared.event.Event.TheVariants.{Submit, Link}
use Rattle.usb_machine.specs.declared.event.Answer.{Answer}
use Rattle.usb_machine.specs.declared.event.Answer.TheVariants.{Nothing, Code as Status}
use Rattle.usb_machine.specs.State.{refusal}
use Rattle.usb_machine.specs.History.{state_of}
use Rattle.usb_machine.specs.Calls.{entry, plain_entry}
use Rattle.usb_machine.specs.Plain.{Stands, urbs_of}
use Rattle.std.specs.Prelude.{slice_get}
use Rattle.usb_serve.specs.Plain.{answered_code, IsPlainAt}
use Rattle.usb_serve.specs.PlainHandlers.{handlers_in}
use Rattle.usb_serve.specs.declared.plain_side.Slots.{Slots}
use Rattle.usb_serve.proofs.Lookups.{there, set_there}
use Rattle.usb_serve.proofs.PlainHandling.{homed, asked_whole, asked_runs, linked_whole, linked_runs, owes_link, none_in_line}
use Rattle.usb_serve.proofs.plain_side.PlainSide.queue.Goals as goal

pub returns-in-Fault-clause-queued : goal.returns-in-Fault-clause-queued
returns-in-Fault-clause-queued c = (
  refl,
  record {
    entered = λ g h at. let old = c.args.self.now in let now = c.step-asked.new.self in let u = c.args.urb in let t = c.args.t in let n = homed old g h at u.0 c.requires.home.0 c.requires.home.1 in
        let clear : c.step-asked.result ≡ Status (refusal (state_of h u.0)) = c.step-asked.ensures.answer g h at.stands in
        let gate : c.code_in.result ≡ refusal (state_of h u.0) = c.code_in.ensures ∙ ap answered_code clear in
        let answered : c.step-asked.result ≡ Status (Fault c.in-Fault.errno) = clear ∙ ap Status (sym gate ∙ c.in-Fault.is) in
        let asked = subst (λ (a : Answer). Stands now g (h ++ record { pass = c.args.pass; event = Submit u t.number; answer = a; carried = Some t } ∷ [])) answered (c.step-asked.ensures.stands g h (Some t) at.stands record { pass = (let k = at.stands.passes in let l = c.requires.pass in omega arith); may = n.0; room = tt; carries = (refl, c.requires.transfer.0, c.requires.transfer.1, c.requires.fits g h at) }) in
        let urbs = c.step-asked.ensures.counts.0 in let ends = c.step-asked.ensures.counts.1 in
        asked_whole old now g h at c.args.pass u t (Fault c.in-Fault.errno) asked urbs;
    gate = λ g h at. sym c.in-Fault.is ∙ (c.code_in.ensures ∙ ap answered_code (c.step-asked.ensures.answer g h at.stands));
    others = λ v off. refl;
    refused_so = λ errno is. refl;
  },
)

pub returns-in-Fault-clause-still : goal.returns-in-Fault-clause-still
returns-in-Fault-clause-still c = let w = c.requires.whole in let g = w.0 in let h = w.1 in let at = w.2 in let old = c.args.self.now in let now = c.step-asked.new.self in let u = c.args.urb in let t = c.args.t in let n = homed old g h at u.0 c.requires.home.0 c.requires.home.1 in
    let clear : c.step-asked.result ≡ Status (refusal (state_of h u.0)) = c.step-asked.ensures.answer g h at.stands in
    let gate : c.code_in.result ≡ refusal (state_of h u.0) = c.code_in.ensures ∙ ap answered_code clear in
    let answered : c.step-asked.result ≡ Status (Fault c.in-Fault.errno) = clear ∙ ap Status (sym gate ∙ c.in-Fault.is) in
    let asked = subst (λ (a : Answer). Stands now g (h ++ record { pass = c.args.pass; event = Submit u t.number; answer = a; carried = Some t } ∷ [])) answered (c.step-asked.ensures.stands g h (Some t) at.stands record { pass = (let k = at.stands.passes in let l = c.requires.pass in omega arith); may = n.0; room = tt; carries = (refl, c.requires.transfer.0, c.requires.transfer.1, c.requires.fits g h at) }) in
    let urbs = c.step-asked.ensures.counts.0 in let ends = c.step-asked.ensures.counts.1 in
    let whole = asked_whole old now g h at c.args.pass u t (Fault c.in-Fault.errno) asked urbs in record {
      whole = (g, _, whole);
      handles = asked_runs old now g h at c.args.pass u t.number (Fault c.in-Fault.errno) (Some t) asked urbs ends;
      homes = λ v home. (home.0, ap (λ l. slice_get l v) (whole.stands.homes ∙ sym at.stands.homes) ∙ home.1);
    }

pub returns-in-Zero-clause-queued : goal.returns-in-Zero-clause-queued
returns-in-Zero-clause-queued c = record {
  entered = λ g h at. let old = c.args.self.now in let now = c.step-asked.new.self in let u = c.args.urb in let t = c.args.t in let n = homed old g h at u.0 c.requires.home.0 c.requires.home.1 in
      let clear : c.step-asked.result ≡ Status (refusal (state_of h u.0)) = c.step-asked.ensures.answer g h at.stands in
      let gate : c.code_in.result ≡ refusal (state_of h u.0) = c.code_in.ensures ∙ ap answered_code clear in
      let answered : c.step-asked.result ≡ Status Zero = clear ∙ ap Status (sym gate ∙ c.in-Zero.is) in
      let asked = subst (λ (a : Answer). Stands now g (h ++ record { pass = c.args.pass; event = Submit u t.number; answer = a; carried = Some t } ∷ [])) answered (c.step-asked.ensures.stands g h (Some t) at.stands record { pass = (let k = at.stands.passes in let l = c.requires.pass in omega arith); may = n.0; room = tt; carries = (refl, c.requires.transfer.0, c.requires.transfer.1, c.requires.fits g h at) }) in
      let urbs = c.step-asked.ensures.counts.0 in let ends = c.step-asked.ensures.counts.1 in let x = entry c.args.pass (Submit u t.number) (Status Zero) (Some t) in
      let mid = asked_whole old now g h at c.args.pass u t Zero asked urbs in
      let linked = c.step.ensures.stands g (h ++ x ∷ []) None mid.stands record { pass = (let k = at.stands.passes in let l = c.requires.pass in omega arith); may = owes_link g h c.args.pass u t.number (Some t); room = tt; carries = refl } in
      let link : c.step.result ≡ Nothing = c.step.ensures.answer g (h ++ x ∷ []) mid.stands in
      let s = c.put_line.new.self in
      let after = subst (λ p. Stands p g ((h ++ x ∷ []) ++ plain_entry c.args.pass (Link u) ∷ [])) (sym c.put_line.ensures.same.0) (subst (λ (a : Answer). Stands c.step.new.self g ((h ++ x ∷ []) ++ record { pass = c.args.pass; event = Link u; answer = a; carried = None } ∷ [])) link linked) in
      let row = there old.urbs.items u.0 (let k = at.slots in let l = n.1 in omega arith) in
      let more = ap urbs_of c.put_line.ensures.same.0 ∙ c.step.ensures.counts.0 in
      let whole = linked_whole (record old { plain = now }) s g (h ++ x ∷ []) mid c.args.pass u t row.0 row.1 (c.put_line.ensures.put row.0 row.1) c.requires.transfer.0 c.requires.transfer.1 (c.requires.fits g h at) (none_in_line g h c.args.pass u t.number (Some t) at.stands.legal (sym gate ∙ c.in-Zero.is)) after c.put_line.ensures.same.1 more in
      subst (IsPlainAt s g) (append_assoc h (x ∷ []) (plain_entry c.args.pass (Link u) ∷ [])) whole;
  gate = λ g h at. sym c.in-Zero.is ∙ (c.code_in.ensures ∙ ap answered_code (c.step-asked.ensures.answer g h at.stands));
  others = λ v off. (let w = c.requires.whole in let g = w.0 in let h = w.1 in let at = w.2 in let old = c.args.self.now in let u = c.args.urb in let t = c.args.t in let n = homed old g h at u.0 c.requires.home.0 c.requires.home.1 in
      let row = there old.urbs.items u.0 (let k = at.slots in let l = n.1 in omega arith) in
      ap (λ (l : List Slots). slice_get l v) (c.put_line.ensures.put row.0 row.1) ∙ set_there old.urbs.items u.0 v (record row.0 { line = Some t; number = t.number }) off);
  refused_so = λ errno is. cc;
}

pub returns-in-Zero-clause-still : goal.returns-in-Zero-clause-still
returns-in-Zero-clause-still c = let w = c.requires.whole in let g = w.0 in let h = w.1 in let at = w.2 in let old = c.args.self.now in let now = c.step-asked.new.self in let u = c.args.urb in let t = c.args.t in let n = homed old g h at u.0 c.requires.home.0 c.requires.home.1 in
    let clear : c.step-asked.result ≡ Status (refusal (state_of h u.0)) = c.step-asked.ensures.answer g h at.stands in
    let gate : c.code_in.result ≡ refusal (state_of h u.0) = c.code_in.ensures ∙ ap answered_code clear in
    let answered : c.step-asked.result ≡ Status Zero = clear ∙ ap Status (sym gate ∙ c.in-Zero.is) in
    let asked = subst (λ (a : Answer). Stands now g (h ++ record { pass = c.args.pass; event = Submit u t.number; answer = a; carried = Some t } ∷ [])) answered (c.step-asked.ensures.stands g h (Some t) at.stands record { pass = (let k = at.stands.passes in let l = c.requires.pass in omega arith); may = n.0; room = tt; carries = (refl, c.requires.transfer.0, c.requires.transfer.1, c.requires.fits g h at) }) in
    let urbs = c.step-asked.ensures.counts.0 in let ends = c.step-asked.ensures.counts.1 in let x = entry c.args.pass (Submit u t.number) (Status Zero) (Some t) in
    let mid = asked_whole old now g h at c.args.pass u t Zero asked urbs in
    let linked = c.step.ensures.stands g (h ++ x ∷ []) None mid.stands record { pass = (let k = at.stands.passes in let l = c.requires.pass in omega arith); may = owes_link g h c.args.pass u t.number (Some t); room = tt; carries = refl } in
    let link : c.step.result ≡ Nothing = c.step.ensures.answer g (h ++ x ∷ []) mid.stands in
    let s = c.put_line.new.self in
    let after = subst (λ p. Stands p g ((h ++ x ∷ []) ++ plain_entry c.args.pass (Link u) ∷ [])) (sym c.put_line.ensures.same.0) (subst (λ (a : Answer). Stands c.step.new.self g ((h ++ x ∷ []) ++ record { pass = c.args.pass; event = Link u; answer = a; carried = None } ∷ [])) link linked) in
    let row = there old.urbs.items u.0 (let k = at.slots in let l = n.1 in omega arith) in
    let more = ap urbs_of c.put_line.ensures.same.0 ∙ c.step.ensures.counts.0 in
    let whole = linked_whole (record old { plain = now }) s g (h ++ x ∷ []) mid c.args.pass u t row.0 row.1 (c.put_line.ensures.put row.0 row.1) c.requires.transfer.0 c.requires.transfer.1 (c.requires.fits g h at) (none_in_line g h c.args.pass u t.number (Some t) at.stands.legal (sym gate ∙ c.in-Zero.is)) after c.put_line.ensures.same.1 more in record {
      whole = (g, _, whole);
      handles = λ v l. subst (λ p. 0 < handlers_in (slice_get p.states.items v)) (sym c.put_line.ensures.same.0) (linked_runs (record old { plain = now }) c.step.new.self g (h ++ x ∷ []) mid c.args.pass u (subst (λ (a : Answer). Stands c.step.new.self g ((h ++ x ∷ []) ++ record { pass = c.args.pass; event = Link u; answer = a; carried = None } ∷ [])) link linked) c.step.ensures.counts.0 c.step.ensures.counts.1 v
          (asked_runs old now g h at c.args.pass u t.number Zero (Some t) asked urbs ends v l));
      homes = λ v home. (home.0, ap (λ l. slice_get l v) (whole.stands.homes ∙ sym at.stands.homes) ∙ home.1);
    }
