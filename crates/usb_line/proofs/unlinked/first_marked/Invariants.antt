use Rattle.std.proofs.Common.{◌≡◌, List, []}
use Rattle.usb_machine.specs.declared.entry.Entry.{Entry}
use Rattle.usb_machine.specs.Plain.{Stands}
use Rattle.usb_scene.specs.declared.scene.Scene.{Scene}
use Rattle.usb_trace.specs.Plan.{machine_of}
use Rattle.usb_line.specs.Line.{marked_below}
use Rattle.usb_line.proofs.unlinked.first_marked.Given as goal

abbrev pub invariant-loop-ep : goal.invariant-loop-ep
invariant-loop-ep l = (s : Scene) (h : List Entry) → Stands l.plain (machine_of s) h → marked_below s h l.ep ≡ []
