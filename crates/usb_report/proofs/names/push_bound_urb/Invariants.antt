use Rattle.std.proofs.Common.{◌≡◌, drop}
use Rattle.usb_report.specs.Names.{bound_name}
use Rattle.usb_report.proofs.names.push_bound_urb.Given as goal

abbrev pub invariant-loop-bound : goal.invariant-loop-bound
invariant-loop-bound l = record {
  report : l.report ≡ l.initial.report;
  name : bound_name l.scene l.urb (drop l.bound-index l.bindings) ≡ bound_name l.scene l.urb l.bindings;
}
