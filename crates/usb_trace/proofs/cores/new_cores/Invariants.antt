use Rattle.std.proofs.Common.{take}
use Rattle.usb_trace.specs.NewCores.{AreNewCores}
use Rattle.usb_trace.proofs.cores.new_cores.Given as goal

abbrev pub invariant-loop-place : goal.invariant-loop-place
invariant-loop-place l = AreNewCores l.owners (take l.place l.bindings) l.ids l.cores.items
