use Rattle.std.proofs.Common.{ℕ, ◌++◌, ◌∷◌, [], ◌∙◌, ◌+◌, take, get_or, List, None, ap, refl, sym, subst, arith, append-nil}
use Rattle.usb_types.specs.declared.urb.UrbId.{UrbId}
use Rattle.usb_machine.specs.declared.entry.TheConstants.{HUB}
use Rattle.usb_machine.specs.declared.event.Answer.{Answer}
use Rattle.usb_machine.specs.declared.event.Event.TheVariants.{Flag}
use Rattle.usb_machine.specs.Calls.{entry}
use Rattle.usb_serve.specs.Solo.{IsSoloAt}
use Rattle.usb_serve.specs.Flushing.{ids, flags_of}
use Rattle.usb_serve.proofs.Flushes.{flags_more, ids_more, ids_all, still_unset}
use Rattle.usb_serve.proofs.solo.Solo.flag_all.Goals as goal

pub loop-urb-init : goal.loop-urb-init
loop-urb-init g c = record {
  flagged = λ m h solo may. subst (IsSoloAt g.H.Handler.asks_with c.args.self.now m) (sym (append-nil h)) solo;
  counts = refl;
}

pub call-requires-clause-inside : goal.call-requires-clause-inside
call-requires-clause-inside g c = let l = c.requires c.loop-urb.urb-index record { 0 = 0 } c.loop-urb-test.true in let n = c.loop-urb.invariant.counts in omega arith

pub loop-urb-preserved : goal.loop-urb-preserved
loop-urb-preserved g c = record {
  flagged = λ m h solo may. (
      let us : List UrbId = c.args.urbs.now in let i : ℕ = c.loop-urb.urb-index in let f = c.args.flag in
      let u : UrbId = get_or us i record { 0 = 0 } in
      let k = h ++ flags_of f (ids (take i us)) in
      let a = c.call.ensures.called m k (c.loop-urb.invariant.flagged m h solo may) record { pass = may.hub; may = (refl, still_unset m h f us i record { 0 = 0 } c.loop-urb-test.true may); room = tt; carries = refl } in
      subst (IsSoloAt g.H.Handler.asks_with c.call.new.self m) (flags_more h f (ids (take i us)) u.0 ∙ ap (λ l. h ++ flags_of f l) (sym (ids_more us i record { 0 = 0 } c.loop-urb-test.true)))
      (subst (λ (y : Answer). IsSoloAt g.H.Handler.asks_with c.call.new.self m (k ++ entry HUB (Flag u f) y None ∷ [])) a.0 a.1));
  counts = c.call.ensures.counts ∙ c.loop-urb.invariant.counts;
}

pub returns-clause-flagged : goal.returns-clause-flagged
returns-clause-flagged g c = λ m h solo may. subst (λ l. IsSoloAt g.H.Handler.asks_with c.loop-urb.self m (h ++ flags_of c.args.flag l)) (ids_all c.args.urbs.now c.loop-urb.urb-index c.loop-urb-test.false) (c.loop-urb.invariant.flagged m h solo may)
