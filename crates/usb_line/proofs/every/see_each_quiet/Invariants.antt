use Rattle.std.proofs.Common.{ℕ, ◌≡◌, ◌<◌, ◌++◌, List, false}
use Rattle.std.specs.List.{flat_map}
use Rattle.usb_machine.specs.declared.entry.Entry.{Entry}
use Rattle.usb_machine.specs.History.{state_of}
use Rattle.usb_machine.specs.Parts.{part_of, held_of}
use Rattle.usb_machine.specs.Plain.{Stands}
use Rattle.usb_scene.specs.declared.scene.Scene.{Scene}
use Rattle.usb_trace.specs.Plan.{machine_of}
use Rattle.usb_prepare.specs.Below.{below}
use Rattle.usb_trace.specs.Run.{seen_quiet}
use Rattle.usb_line.specs.Steps.{AsMany, passes_of}
use Rattle.usb_line.proofs.every.see_each_quiet.Given as goal

abbrev pub invariant-loop-u : goal.invariant-loop-u
invariant-loop-u l = record {
  counts : AsMany l.fn.plain l.plain;
  so_far : (s : Scene) (h : List Entry) → Stands l.fn.plain (machine_of s) h → l.pass < passes_of s
      → ((u : ℕ) → u < l.urbs → ((state_of h u).queued ≡ false) × ((state_of h u).handlers ≡ 0) × ((held_of (part_of h l.pass) u).rejects < 255))
      → Stands l.plain (machine_of s) (h ++ flat_map (seen_quiet l.pass) (below l.u));
}
