use Rattle.usb_host_cases.specs.Ran.{MayReject}
use Rattle.usb_side_cases.specs.Rounds.{IsKill, Times, Made}
use Rattle.usb_side_cases.proofs.rounds.kill_times.Given as goal

abbrev pub invariant-loop-n : goal.invariant-loop-n
invariant-loop-n g l =
    let h = g.H.Host in
    h.is_of l.host l.pass × Made (Times (IsKill (h.known l.initial.pass).number l.urb.0) l._n) (h.known l.initial.pass) (h.known l.pass) × MayReject (h.known l.pass) l.urb.0
