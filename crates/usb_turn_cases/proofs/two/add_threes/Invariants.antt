use Rattle.usb_turn_cases.specs.Ran.{Ran}
use Rattle.usb_turn_cases.proofs.two.add_threes.Given as goal

abbrev pub invariant-loop-n : goal.invariant-loop-n
invariant-loop-n g l = Ran l._n l.initial.pass l.pass
