use Rattle.std.proofs.Common.{[], ◌∷◌, ◌++◌, refl, sym, ◌∙◌, arith, length-append, true≢false}
use Rattle.usb_serve.specs.declared.controller.Held.{Held}
use Rattle.usb_serve.specs.Knows.{IsPending}
use Rattle.usb_serve.specs.Looking.{none}
use Rattle.usb_serve.proofs.Looks.{stays_at, stays_then, look_stays, all_at, still_unfinished, over_one, clean_one, clean_step}
use Rattle.usb_serve.proofs.look.look_through.Goals as goal

pub loop-place-init : goal.loop-place-init
loop-place-init g c = record {
  whole = c.requires.whole;
  stays = stays_at (g.S.Side.knows c.args.side.now);
  passed = ([], none, refl, refl);
  clean = λ h others is. absurd (true≢false (sym is));
}

pub look-look-requires-clause-unfinished : goal.look-look-requires-clause-unfinished
look-look-requires-clause-unfinished g c = let k = g.S.Side.knows in
    let p = all_at (λ (h : Held). IsPending (k c.args.side.now) h.urb.0 × ((k c.args.side.now).is_finished h.urb.0 → ⊥)) c.args.held.now.items c.loop-place.place c.in-Some.h.now (sym c.in-Some.ensures) c.requires.pending in
    still_unfinished (k c.args.side.now) (k c.loop-place.side) c.in-Some.h.now.urb.0 c.loop-place.invariant.stays p.0 p.1

pub returns-then-has_reason-clause-stays : goal.returns-then-has_reason-clause-stays
returns-then-has_reason-clause-stays g c = let k = g.S.Side.knows in let e = c.look-look.ensures in
    stays_then (k c.args.side.now) (k c.loop-place.side) (k c.look-look.new.self) c.loop-place.invariant.stays (look_stays (k c.loop-place.side) (k c.look-look.new.self) e.pending e.keeps e.none e.room)

pub loop-place-preserved : goal.loop-place-preserved
loop-place-preserved g c = let k = g.S.Side.knows in let e = c.look-look.ensures in let p = c.loop-place.invariant.passed in let a = c.look-look.result in record {
  whole = e.whole;
  stays = stays_then (k c.args.side.now) (k c.loop-place.side) (k c.look-look.new.self) c.loop-place.invariant.stays (look_stays (k c.loop-place.side) (k c.look-look.new.self) e.pending e.keeps e.none e.room);
  passed = (
    p.0 ++ a ∷ [],
    over_one g.S.Side.looks c.args.side.now c.args.held.now.items c.loop-place.place c.loop-place.side c.look-look.new.self c.in-Some.h.now a p.0 (sym c.in-Some.ensures) p.1 e.looks (sym c.has_reason.ensures ∙ c.if-has_reason.false),
    (let n = length-append p.0 (a ∷ []) in omega (arith, p.2)),
    c.clean_first-clean.ensures ∙ clean_one p.0 c.loop-place.place c.loop-place.clean a p.2 p.3,
  );
  clean = λ h others is. clean_step (k c.args.side.now) (k c.loop-place.side) c.loop-place.invariant.stays c.args.held.now.items c.loop-place.place c.loop-place.clean a c.in-Some.h.now (sym c.in-Some.ensures)
      (all_at (λ (h : Held). IsPending (k c.args.side.now) h.urb.0 × ((k c.args.side.now).is_finished h.urb.0 → ⊥)) c.args.held.now.items c.loop-place.place c.in-Some.h.now (sym c.in-Some.ensures) c.requires.pending).0
      e.clean c.loop-place.invariant.clean h others (sym c.clean_first-clean.ensures ∙ is);
}
