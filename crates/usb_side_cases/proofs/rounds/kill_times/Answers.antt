use Rattle.usb_machine.specs.HostCalls.{number_of}
use Rattle.usb_side_cases.specs.Rounds.{IsKill}
use Rattle.usb_side_cases.proofs.Counting.{made_none, kill_more, may_reject}
use Rattle.usb_side_cases.proofs.rounds.kill_times.Goals as goal

pub loop-n-init : goal.loop-n-init
loop-n-init g c = let p = g.H.Host.known c.args.pass in (c.requires.here, made_none (IsKill p.number c.args.urb.0) p, c.requires.room)

pub loop-n-preserved : goal.loop-n-preserved
loop-n-preserved g c =
    let machine = g.H.Host.machine c.args.host.now in
    let known = g.H.Host.known in
    let u = c.args.urb.0 in
    let q = known c.loop-n.pass in
    let r = known c.kill-rest.new.pass in
    let rest = number_of c.kill-rest.result in
    (c.kill-rest.ensures.here, kill_more machine c.loop-n._n u (known c.args.pass) q r rest c.loop-n.invariant.1 c.kill-rest.ensures.fresh, may_reject machine u q r rest c.kill-rest.ensures.fresh c.loop-n.invariant.2)
