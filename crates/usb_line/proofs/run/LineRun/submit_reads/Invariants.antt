use Rattle.std.proofs.Common.{◌≡◌}
use Rattle.usb_scene.specs.declared.scene.Scene.{Scene}
use Rattle.usb_trace.specs.Plan.{number_of}
use Rattle.usb_line.specs.Shows.{Shows}
use Rattle.usb_line.specs.Reads.{MayBegin, read_below}
use Rattle.usb_line.proofs.run.LineRun.submit_reads.Given as goal

abbrev pub invariant-loop-urb : goal.invariant-loop-urb
invariant-loop-urb l = (s : Scene) → MayBegin s l.fn.self l.pass → Shows s (read_below s l.urb) l.self × (l.number ≡ number_of s l.urb)
