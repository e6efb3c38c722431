use Rattle.std.proofs.Common.{◌<◌, Bool, refl, sym, ◌∙◌, subst}
use Rattle.usb_prepare.specs.Layout.{urb_count}
use Rattle.usb_line.specs.Line.{begins, goes_on}
use Rattle.usb_line.specs.Shows.{Turned}
use Rattle.usb_line.proofs.Stopping.{stop_gives}
use Rattle.usb_line.proofs.Waiting.{never_idle, turned_urbs}
use Rattle.usb_line.proofs.run.LineRun.turn_until.Goals as goal

pub loop-self-init : goal.loop-self-init
loop-self-init c = record { shown = c.requires.shown; urbs = refl; so_far = λ s f good shows loud stops. (f, begins loud, shows, stops) }

pub returns-then-not-branch-clause-waited : goal.returns-then-not-branch-clause-waited
returns-then-not-branch-clause-waited c s f good shows loud stops =
    let near : c.args.urb < urb_count s = subst (λ n. c.args.urb < n) shows.all_urbs c.requires.urb in
    let m = c.loop-self.invariant.so_far s f good shows loud stops in
    let idle = subst (λ (b : Bool). Turned s m.0 b c.turn.new.self) c.if-not-branch.true (c.in_ok-turn.ensures.turned s m.0 good m.2) in
    absurd (never_idle s good f m.0 c.args.urb c.loop-self.self near m.1 m.2 m.3 idle.0 idle.1)

pub loop-self-preserved : goal.loop-self-preserved
loop-self-preserved c = record {
  shown = c.in_ok-turn.ensures.shown;
  urbs = turned_urbs c.loop-self.self c.turn.new.self c.in_ok-turn.field-0 c.loop-self.invariant.shown c.in_ok-turn.ensures.turned ∙ c.loop-self.invariant.urbs;
  so_far = λ s f good shows loud stops.
      (let m = c.loop-self.invariant.so_far s f good shows loud stops in
      let gave = subst (λ (b : Bool). Turned s m.0 b c.turn.new.self) c.if-not-branch.false (c.in_ok-turn.ensures.turned s m.0 good m.2) in
      (gave.0, goes_on m.0 gave.0 m.1 gave.1 (sym (c.is_quiet.ensures s gave.0 gave.2) ∙ c.if-is_quiet.false), gave.2, stop_gives c.args.urb s good m.0 gave.0 gave.1 m.3));
}
