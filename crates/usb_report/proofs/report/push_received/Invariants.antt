use Rattle.std.proofs.Common.{◌≡◌, ◌++◌, take}
use Rattle.std.specs.List.{flat_map}
use Rattle.usb_report.specs.Report.{end_text}
use Rattle.usb_report.proofs.report.push_received.Given as goal

abbrev pub invariant-loop-end : goal.invariant-loop-end
invariant-loop-end l = l.report ≡ l.initial.report ++ flat_map (end_text l.scene) (take l.end-index l.ends)
