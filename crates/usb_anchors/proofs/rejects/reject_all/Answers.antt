use Rattle.std.proofs.Common.{◌+◌, inl, drop, subst, refl, get_or}
use Rattle.usb_cancel.specs.Flushing.{ids}
use Rattle.usb_cancel.proofs.Flushes.{ids_at, ids_end}
use Rattle.usb_cancel.proofs.Reopened.{Rejecting, reject_start, reject_next, reject_end}
use Rattle.usb_anchors.proofs.rejects.reject_all.Goals as goal

pub loop-urb-init : goal.loop-urb-init
loop-urb-init g c = (c.requires.here, reject_start (g.H.Host.known c.args.pass.now) (ids c.args.urbs.now) c.requires.room c.requires.apart)

pub reject-requires-clause-room : goal.reject-requires-clause-room
reject-requires-clause-room g c =
    let known = g.H.Host.known in let us = c.args.urbs.now in let p = known c.args.pass.now in let q = known c.loop-urb.pass in let i = c.loop-urb.urb-index in
    let here = subst (Rejecting p q (ids us)) (ids_at us i record { 0 = 0 } c.loop-urb-test.true) c.loop-urb.invariant.1 in
    here.room (get_or us i record { 0 = 0 }).0 (inl refl)

pub loop-urb-preserved : goal.loop-urb-preserved
loop-urb-preserved g c =
    let known = g.H.Host.known in let us = c.args.urbs.now in let p = known c.args.pass.now in let q = known c.loop-urb.pass in let i = c.loop-urb.urb-index in
    let here = subst (Rejecting p q (ids us)) (ids_at us i record { 0 = 0 } c.loop-urb-test.true) c.loop-urb.invariant.1 in
    (c.reject.ensures.here, reject_next p q (known c.reject.new.pass) (ids us) (ids (drop (i + 1) us)) (get_or us i record { 0 = 0 }).0 here c.reject.ensures.fresh.grown)

pub returns-clause-grown : goal.returns-clause-grown
returns-clause-grown g c =
    let known = g.H.Host.known in let us = c.args.urbs.now in let p = known c.args.pass.now in let q = known c.loop-urb.pass in
    (reject_end p q (ids us) (subst (Rejecting p q (ids us)) (ids_end us c.loop-urb.urb-index c.loop-urb-test.false) c.loop-urb.invariant.1)).0
