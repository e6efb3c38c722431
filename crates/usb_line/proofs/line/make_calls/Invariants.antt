use Rattle.std.proofs.Common.{take}
use Rattle.usb_trace.specs.Plan.{calls_from}
use Rattle.usb_line.specs.Calls.{IsUnderway}
use Rattle.usb_line.proofs.line.make_calls.Given as goal

abbrev pub invariant-loop-i : goal.invariant-loop-i
invariant-loop-i l = IsUnderway l.scene (calls_from 0 (take l.i l.scene.threads)) l.run l.made
