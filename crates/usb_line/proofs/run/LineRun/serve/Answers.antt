use Rattle.std.proofs.Common.{Bool, subst}
use Rattle.usb_line.specs.Line.{woken, none, one}
use Rattle.usb_line.specs.Shows.{Turned}
use Rattle.usb_line.proofs.run.LineRun.serve.Goals as goal

pub loop-init : goal.loop-init
loop-init c = let q = c.requires in record {
  shown = record { scene = q.scene; good = q.good; far = woken q.far; shows = c.wake.ensures.woken q.scene q.far q.shows };
  so_far = λ s f good shows. (woken f, none, c.wake.ensures.woken s f shows);
}

pub loop-preserved : goal.loop-preserved
loop-preserved c = record {
  shown = c.in_ok-turn.ensures.shown;
  so_far = λ s f good shows.
      let at = c.loop.invariant.so_far s f good shows in
      let t = subst (λ (b : Bool). Turned s at.0 b c.turn.new.self) c.if-not-branch.false (c.in_ok-turn.ensures.turned s at.0 good at.2) in
      (t.0, one at.0 t.0 at.1 t.1, t.2);
}
