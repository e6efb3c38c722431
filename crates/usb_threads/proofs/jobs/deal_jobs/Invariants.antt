use Rattle.std.proofs.Common.{◌≡◌, ◌+◌, length}
use Rattle.usb_machine.specs.Fresh.{Looked}
use Rattle.usb_trace.specs.Plan.{machine_of}
use Rattle.usb_threads.specs.Jobs.{Each, IsSeatFor, IsJob}
use Rattle.usb_threads.proofs.jobs.deal_jobs.Given as goal

abbrev pub invariant-loop-seat : goal.invariant-loop-seat
invariant-loop-seat g l =
    let h = g.H.SceneHost in
    h.is_of l.host l.main
    × Looked (machine_of (h.scene l.host)) (h.known l.initial.main) (h.known l.main)
    × (length l.jobs.items + length l.seats.items ≡ length l.initial.seats.items)
    × Each (IsSeatFor (h.is_of l.host) h.known (h.scene l.host)) l.seats.items
    × Each (IsJob (h.is_of l.host) h.known (h.scene l.host) (h.known l.initial.main) (length l.initial.seats.items)) l.jobs.items

abbrev pub decreases-loop-seat : goal.decreases-loop-seat
decreases-loop-seat g l = length l.seats.items
