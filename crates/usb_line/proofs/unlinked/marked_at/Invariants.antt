use Rattle.std.proofs.Common.{List}
use Rattle.usb_machine.specs.declared.entry.Entry.{Entry}
use Rattle.usb_machine.specs.History.{state_of, pending_of}
use Rattle.usb_machine.specs.Plain.{Stands}
use Rattle.usb_scene.specs.declared.scene.Scene.{Scene}
use Rattle.usb_trace.specs.Plan.{machine_of}
use Rattle.usb_line.specs.Line.{is_unlinked}
use Rattle.usb_line.proofs.Scanning.{NoneBefore}
use Rattle.usb_line.proofs.unlinked.marked_at.Given as goal

abbrev pub invariant-loop-place : goal.invariant-loop-place
invariant-loop-place l = (s : Scene) (h : List Entry) → Stands l.plain (machine_of s) h → NoneBefore (λ u. is_unlinked (state_of h u).mark) (pending_of (machine_of s) h l.ep) l.place
