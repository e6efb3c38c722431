use Rattle.usb_line.proofs.Telling.{AreTold}
use Rattle.usb_line.proofs.line.told.Given as goal

abbrev pub invariant-loop-core : goal.invariant-loop-core
invariant-loop-core l = AreTold l.yielded l.list
