use Rattle.std.proofs.Common.{◌++◌, map, take}
use Rattle.usb_scene.specs.declared.scene.Call.{Call}
use Rattle.usb_trace.specs.Plan.{calls_from}
use Rattle.usb_line.specs.Calls.{IsUnderway}
use Rattle.usb_line.proofs.run.LineRun.make_all.Given as goal

abbrev pub invariant-loop-call : goal.invariant-loop-call
invariant-loop-call l = IsUnderway l.scene (calls_from 0 (take l.thread l.scene.threads) ++ map (λ (c : Call). (l.thread, c)) (take l.call-index l.calls)) l.self l.made
