use Rattle.std.proofs.Common.{◌≡◌, ◌++◌, take}
use Rattle.std.specs.List.{flat_map}
use Rattle.usb_report.specs.Calls.{made_by}
use Rattle.usb_report.specs.Calls.{made_text}
use Rattle.usb_report.proofs.calls.push_calls.Given as goal

abbrev pub invariant-loop-m : goal.invariant-loop-m
invariant-loop-m l = l.report ≡ l.initial.report ++ flat_map (made_text l.scene) (made_by l.thread (take l.m-index l.made))
