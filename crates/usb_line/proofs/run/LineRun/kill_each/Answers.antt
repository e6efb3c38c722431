use Rattle.std.proofs.Common.{◌<◌, sym, subst}
use Rattle.usb_line.specs.Line.{none}
use Rattle.usb_line.specs.Calls.{MayKill, Killed}
use Rattle.usb_line.proofs.Ending.{next_kill, one_killed}
use Rattle.usb_line.proofs.run.LineRun.kill_each.Goals as goal

pub loop-u-init : goal.loop-u-init
loop-u-init c s f is pass all = record { far = f; closes = none; shows = is.shows }

pub kill_urb-requires : goal.kill_urb-requires
kill_urb-requires c =
    let s = c.requires.scene in let f = c.requires.far in let u = c.loop-u.u in
    let at = c.loop-u.invariant s f c.requires.is c.requires.pass c.requires.all in
    record {
      scene = s;
      far = at.far;
      may = subst (λ p. MayKill s at.far c.loop-u.self p u) (sym c.requires.pass) (next_kill s f c.args.self.now c.requires.is u c.loop-u.self at (subst (λ n. u < n) c.requires.all c.loop-u-test.true));
    }

pub loop-u-preserved : goal.loop-u-preserved
loop-u-preserved c s f is pass all =
    let u = c.loop-u.u in
    let at = c.loop-u.invariant s f is pass all in
    let may = next_kill s f c.args.self.now is u c.loop-u.self at (subst (λ n. u < n) all c.loop-u-test.true) in
    let done = c.in_ok-kill_urb.ensures s at.far (subst (λ p. MayKill s at.far c.loop-u.self p u) (sym pass) may) in
    one_killed s f c.args.self.now is u c.loop-u.self at c.in_ok-kill_urb.field-0 c.kill_urb.new.self (subst (λ p. Killed s at.far p u c.in_ok-kill_urb.field-0 c.kill_urb.new.self) pass done)
