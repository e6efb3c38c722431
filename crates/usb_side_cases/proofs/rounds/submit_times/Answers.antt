use Rattle.usb_side_cases.specs.Rounds.{IsSubmit}
use Rattle.usb_side_cases.proofs.Counting.{made_none, submit_more}
use Rattle.usb_side_cases.proofs.rounds.submit_times.Goals as goal

pub loop-n-init : goal.loop-n-init
loop-n-init g c = let p = g.H.Host.known c.args.pass in (c.requires.here, made_none (IsSubmit p.number c.args.urb.0) p)

pub loop-n-preserved : goal.loop-n-preserved
loop-n-preserved g c =
    let known = g.H.Host.known in
    (c.submit-answer.ensures.here, submit_more (g.H.Host.machine c.args.host.now) c.loop-n.n c.args.urb.0 (known c.args.pass) (known c.loop-n.pass) (known c.submit-answer.new.pass) _ c.submit-answer.result c.requires.takes c.loop-n.invariant.1 c.submit-answer.ensures.fresh)
