use Rattle.std.proofs.Common.{◌+◌, inl, drop, subst, refl, get_or}
use Rattle.usb_cancel.specs.Flushing.{ids}
use Rattle.usb_cancel.proofs.Flushes.{ids_at, ids_end}
use Rattle.usb_cancel.proofs.Reopened.{Withdrawing, withdraw_start, withdraw_next, withdraw_end}
use Rattle.usb_anchors.proofs.rejects.withdraw_all.Goals as goal

pub loop-urb-init : goal.loop-urb-init
loop-urb-init g c = (c.requires.here, withdraw_start (g.H.Host.machine c.args.host.now) (g.H.Host.known c.args.pass.now) (ids c.args.urbs.now) c.requires.rejected c.requires.apart)

pub withdraw-requires-clause-held : goal.withdraw-requires-clause-held
withdraw-requires-clause-held g c =
    let known = g.H.Host.known in let us = c.args.urbs.now in let p = known c.args.pass.now in let q = known c.loop-urb.pass in let i = c.loop-urb.urb-index in
    let here = subst (Withdrawing (g.H.Host.machine c.args.host.now) p q (ids us)) (ids_at us i record { 0 = 0 } c.loop-urb-test.true) c.loop-urb.invariant.1 in
    here.some (get_or us i record { 0 = 0 }).0 (inl refl)

pub loop-urb-preserved : goal.loop-urb-preserved
loop-urb-preserved g c =
    let known = g.H.Host.known in let us = c.args.urbs.now in let p = known c.args.pass.now in let q = known c.loop-urb.pass in let i = c.loop-urb.urb-index in
    let here = subst (Withdrawing (g.H.Host.machine c.args.host.now) p q (ids us)) (ids_at us i record { 0 = 0 } c.loop-urb-test.true) c.loop-urb.invariant.1 in
    (c.withdraw.ensures.here, withdraw_next (g.H.Host.machine c.args.host.now) p q (known c.withdraw.new.pass) (ids us) (ids (drop (i + 1) us)) (get_or us i record { 0 = 0 }).0 here c.withdraw.ensures.fresh)

pub returns-clause-grown : goal.returns-clause-grown
returns-clause-grown g c =
    let known = g.H.Host.known in let us = c.args.urbs.now in let p = known c.args.pass.now in let q = known c.loop-urb.pass in
    (withdraw_end (g.H.Host.machine c.args.host.now) p q (ids us) (subst (Withdrawing (g.H.Host.machine c.args.host.now) p q (ids us)) (ids_end us c.loop-urb.urb-index c.loop-urb-test.false) c.loop-urb.invariant.1)).0
