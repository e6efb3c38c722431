use Rattle.std.proofs.Common.{◌++◌, List, map}
use Rattle.usb_types.specs.declared.urb.Why.TheVariants.{Shutdown}
use Rattle.usb_machine.specs.declared.entry.TheConstants.{HUB}
use Rattle.usb_machine.specs.State.{unlinking}
use Rattle.usb_machine.specs.declared.entry.Entry.{Entry}
use Rattle.usb_machine.specs.History.{state_of}
use Rattle.usb_machine.specs.Plain.{Stands}
use Rattle.usb_machine.specs.Calls.{mark_entry}
use Rattle.usb_scene.specs.declared.scene.Scene.{Scene}
use Rattle.usb_trace.specs.Plan.{machine_of}
use Rattle.usb_prepare.specs.Below.{below}
use Rattle.usb_line.specs.Steps.{AsMany}
use Rattle.usb_line.proofs.every.mark_each.Given as goal

abbrev pub invariant-loop-u : goal.invariant-loop-u
invariant-loop-u l = record {
  counts : AsMany l.fn.plain l.plain;
  so_far : (s : Scene) (h : List Entry) → Stands l.fn.plain (machine_of s) h
      → Stands l.plain (machine_of s) (h ++ map (λ u. mark_entry HUB Shutdown u (unlinking (state_of h u))) (below l.u));
}
