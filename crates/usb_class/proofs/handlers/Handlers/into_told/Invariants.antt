use Rattle.usb_class.specs.Handlers.{AreTold}
use Rattle.usb_class.proofs.handlers.Handlers.into_told.Given as goal

abbrev pub invariant-loop-core : goal.invariant-loop-core
invariant-loop-core l = AreTold l.yielded l.list
