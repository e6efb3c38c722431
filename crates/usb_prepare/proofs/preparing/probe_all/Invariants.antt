use Rattle.usb_prepare.specs.Bindings.{AreProbed}
use Rattle.usb_prepare.proofs.preparing.probe_all.Given as goal

abbrev pub invariant-loop-i : goal.invariant-loop-i
invariant-loop-i l = AreProbed l.scene l.i l.bindings l.devices l.probes
