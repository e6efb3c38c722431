use Rattle.std.proofs.Common.{◌≡◌, ◌++◌, take}
use Rattle.std.specs.List.{flat_map}
use Rattle.usb_report.specs.Report.{given_text}
use Rattle.usb_report.proofs.report.push_all_given.Given as goal

abbrev pub invariant-loop-g : goal.invariant-loop-g
invariant-loop-g l = l.report ≡ l.initial.report ++ flat_map (given_text l.scene l.bindings) (take l.g-index l.given)
