use Rattle.std.proofs.Common.{◌+◌, ◌<◌, drop, get_or, subst, sym}
use Rattle.usb_cancel.specs.Flushing.{ids}
use Rattle.usb_cancel.proofs.Flushes.{ids_at, ids_end, has_at}
use Rattle.usb_anchors.proofs.StopSteps.{Stopping, stop_start, stop_next, stop_end}
use Rattle.usb_anchors.proofs.stopping.stop_all.Goals as goal

pub loop-urb-init : goal.loop-urb-init
loop-urb-init g c = (c.requires.here, stop_start (g.H.Host.known c.args.pass.now) (ids c.args.urbs.now))

pub stop-requires-clause-room : goal.stop-requires-clause-room
stop-requires-clause-room g c κs within =
    let known = g.H.Host.known in let us = c.args.urbs.now in let p = known c.args.pass.now in let q = known c.loop-urb.pass in let i = c.loop-urb.urb-index in
    let u = (get_or us i record { 0 = 0 }).0 in
    subst (λ n. n < 255) (sym (c.loop-urb.invariant.1.same u)) (c.requires.room u (has_at us i record { 0 = 0 } c.loop-urb-test.true))

pub loop-urb-preserved : goal.loop-urb-preserved
loop-urb-preserved g c =
    let known = g.H.Host.known in let us = c.args.urbs.now in let p = known c.args.pass.now in let q = known c.loop-urb.pass in let i = c.loop-urb.urb-index in
    (c.stop.ensures.here, stop_next p q (known c.stop.new.pass) (ids us) (ids (drop (i + 1) us)) (get_or us i record { 0 = 0 }).0 c.stop.ensures.fresh.0 (subst (Stopping p q (ids us)) (ids_at us i record { 0 = 0 } c.loop-urb-test.true) c.loop-urb.invariant.1) c.stop.ensures.fresh.1.grown)

pub returns-clause-stopped : goal.returns-clause-stopped
returns-clause-stopped g c =
    let known = g.H.Host.known in let us = c.args.urbs.now in let p = known c.args.pass.now in let q = known c.loop-urb.pass in let i = c.loop-urb.urb-index in
    stop_end p q (ids us) (subst (Stopping p q (ids us)) (ids_end us i c.loop-urb-test.false) c.loop-urb.invariant.1)
