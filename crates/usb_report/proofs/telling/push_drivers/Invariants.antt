use Rattle.std.proofs.Common.{◌≡◌, ◌++◌, length}
use Rattle.usb_report.specs.Telling.{drivers_section}
use Rattle.usb_report.proofs.telling.push_drivers.Given as goal

abbrev pub invariant-loop-left : goal.invariant-loop-left
invariant-loop-left l = l.report ++ drivers_section l.scene l.left l.untold ≡ l.initial.report ++ drivers_section l.scene l.bindings l.told

abbrev pub decreases-loop-left : goal.decreases-loop-left
decreases-loop-left l = length l.left
