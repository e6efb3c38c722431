use Rattle.std.proofs.Common.{List}
use Rattle.usb_machine.specs.declared.entry.Entry.{Entry}
use Rattle.usb_machine.specs.Plain.{Stands}
use Rattle.usb_scene.specs.declared.scene.Scene.{Scene}
use Rattle.usb_trace.specs.Plan.{machine_of}
use Rattle.usb_line.specs.Steps.{AsMany}
use Rattle.usb_line.proofs.Taking.{HasTaken}
use Rattle.usb_line.proofs.take.take_line.Given as goal

abbrev pub invariant-loop : goal.invariant-loop
invariant-loop l = record {
  counts : AsMany l.fn.plain l.plain;
  taken : (s : Scene) (h : List Entry) → Stands l.fn.plain (machine_of s) h → HasTaken s h l.ep l.counter l.plain;
}
