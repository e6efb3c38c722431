use Rattle.usb_side_cases.specs.Rounds.{IsSubmit, Times, Made}
use Rattle.usb_side_cases.proofs.rounds.submit_times.Given as goal

abbrev pub invariant-loop-n : goal.invariant-loop-n
invariant-loop-n g l =
    let h = g.H.Host in h.is_of l.host l.pass × Made (Times (IsSubmit (h.known l.initial.pass).number l.urb.0) l.n) (h.known l.initial.pass) (h.known l.pass)
