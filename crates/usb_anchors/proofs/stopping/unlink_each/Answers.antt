use Rattle.std.proofs.Common.{◌+◌, drop, subst}
use Rattle.usb_types.specs.declared.errno.Code.TheVariants.{Fault}
use Rattle.usb_types.specs.declared.urb.Why.TheVariants.{Unlink}
use Rattle.usb_cancel.specs.Flushing.{ids}
use Rattle.usb_cancel.proofs.Flushes.{Marking, mark_start, mark_next, mark_end, ids_at, ids_end}
use Rattle.usb_anchors.proofs.stopping.unlink_each.Goals as goal

pub loop-urb-init : goal.loop-urb-init
loop-urb-init g c = (c.requires.here, mark_start Unlink (g.H.Host.known c.args.pass.now) (ids c.args.urbs.now))

pub loop-urb-preserved : goal.loop-urb-preserved
loop-urb-preserved g c =
    let known = g.H.Host.known in let us = c.args.urbs.now in let p = known c.args.pass.now in let q = known c.loop-urb.pass in let i = c.loop-urb.urb-index in
    (c.unlink.ensures.here, mark_next Unlink p q (known c.unlink.new.pass) (ids us) (ids (drop (i + 1) us)) _ (Fault c.unlink.result) (subst (Marking Unlink p q (ids us)) (ids_at us i _ c.loop-urb-test.true) c.loop-urb.invariant.1) c.unlink.ensures.fresh.grown)

pub returns-clause-unlinked : goal.returns-clause-unlinked
returns-clause-unlinked g c =
    let known = g.H.Host.known in let us = c.args.urbs.now in let p = known c.args.pass.now in let q = known c.loop-urb.pass in let i = c.loop-urb.urb-index in
    mark_end Unlink p q (ids us) (subst (Marking Unlink p q (ids us)) (ids_end us i c.loop-urb-test.false) c.loop-urb.invariant.1)
