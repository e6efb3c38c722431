use Rattle.std.proofs.Common.{ℕ, ◌++◌, ◌∷◌, [], ◌∙◌, ◌+◌, take, get_or, List, length, ap, refl, sym, subst, arith, append-nil, length-append}
use Rattle.std.proofs.lemmas.List.{length-map}
use Rattle.usb_types.specs.declared.urb.UrbId.{UrbId}
use Rattle.usb_types.specs.declared.urb.Why.TheVariants.{Shutdown}
use Rattle.usb_machine.specs.declared.entry.TheConstants.{HUB}
use Rattle.usb_machine.specs.Calls.{marks_of}
use Rattle.usb_serve.specs.Solo.{IsSoloAt}
use Rattle.usb_serve.specs.Flushing.{ids}
use Rattle.usb_serve.proofs.Flushes.{marks_more, ids_more, ids_all}
use Rattle.usb_serve.proofs.solo.Solo.mark_all.Goals as goal

pub loop-urb-init : goal.loop-urb-init
loop-urb-init g c = record {
  marked = λ m h solo pass. ([], refl, subst (IsSoloAt g.H.Handler.asks_with c.args.self.now m) (sym (append-nil h)) solo);
  counts = refl;
}

pub mark-requires : goal.mark-requires
mark-requires g c = let l = c.requires c.loop-urb.urb-index record { 0 = 0 } c.loop-urb-test.true in let n = c.loop-urb.invariant.counts in omega arith

pub loop-urb-preserved : goal.loop-urb-preserved
loop-urb-preserved g c = record {
  marked = λ m h solo pass. (
      let us : List UrbId = c.args.urbs.now in let i : ℕ = c.loop-urb.urb-index in
      let u : UrbId = get_or us i record { 0 = 0 } in
      let was = c.loop-urb.invariant.marked m h solo pass in
      let a = c.mark.ensures.marked m (h ++ marks_of HUB Shutdown (ids (take i us)) was.0) was.2 pass in
      let more = ids_more us i record { 0 = 0 } c.loop-urb-test.true in
      let long = length-append was.0 (a.0 ∷ []) in let also = length-append (ids (take i us)) (u.0 ∷ []) in let before = was.1 in let same = ap length more in (
        was.0 ++ a.0 ∷ [],
        omega arith,
        subst (IsSoloAt g.H.Handler.asks_with c.mark.new.self m) (marks_more h (ids (take i us)) was.0 u.0 a.0 was.1 ∙ ap (λ l. h ++ marks_of HUB Shutdown l (was.0 ++ a.0 ∷ [])) (sym more)) a.1,
      ));
  counts = c.mark.ensures.counts ∙ c.loop-urb.invariant.counts;
}

pub returns-clause-marked : goal.returns-clause-marked
returns-clause-marked g c = λ m h solo pass.
    let us : List UrbId = c.args.urbs.now in
    let was = c.loop-urb.invariant.marked m h solo pass in
    let all = ids_all us c.loop-urb.urb-index c.loop-urb-test.false in
    (was.0, was.1 ∙ (ap length all ∙ length-map us (λ (u : UrbId). u.0)), subst (λ l. IsSoloAt g.H.Handler.asks_with c.loop-urb.self m (h ++ marks_of HUB Shutdown l was.0)) all was.2)
