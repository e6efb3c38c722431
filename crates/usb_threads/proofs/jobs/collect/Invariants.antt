use Rattle.std.proofs.Common.{◌≡◌, ◌+◌, length}
use Rattle.usb_machine.specs.Fresh.{Looked}
use Rattle.usb_trace.specs.Plan.{machine_of}
use Rattle.usb_threads.specs.Jobs.{Each, IsWork, Collected}
use Rattle.usb_threads.proofs.jobs.collect.Given as goal

abbrev pub invariant-loop-told : goal.invariant-loop-told
invariant-loop-told g l =
    let h = g.H.SceneHost in
    h.is_of l.host l.main
    × Looked (machine_of (h.scene l.host)) (h.known l.initial.main) (h.known l.main)
    × (length l.works.items + length l.seats.items ≡ length l.initial.works.items)
    × Each (IsWork (h.is_of l.host) h.known (h.scene l.host) (h.known l.read.value) (length l.initial.works.items)) l.works.items
    × Collected (h.is_of l.host) h.known (h.scene l.host) (h.known l.read.value) (h.known l.main) l.seats.items l.made

abbrev pub decreases-loop-told : goal.decreases-loop-told
decreases-loop-told g l = length l.works.items
