use Rattle.std.proofs.Common.{List}
use Rattle.usb_machine.specs.declared.entry.Entry.{Entry}
use Rattle.usb_trace.specs.Plan.{machine_of}
use Rattle.usb_threads.specs.Passes.{WentOn}
use Rattle.usb_threads.proofs.Calming.{HoldsNone, HoldsNoneFrom}
use Rattle.usb_threads.proofs.ClosingDown.{HasKilled, seen_below}
use Rattle.usb_threads.proofs.ending.close_down.Given as goal

abbrev pub invariant-loop-u : goal.invariant-loop-u
invariant-loop-u g l =
    let h = g.H.SceneHost in
    let s = h.scene l.host in
    h.is_of l.host l.main
    × ((xs : List Entry) × WentOn (machine_of s) (h.known l.initial.main) (h.known l.main) xs × HasKilled s l.u (h.known l.main).seen xs)
    × HoldsNone s (h.known l.main)

abbrev pub invariant-loop-v : goal.invariant-loop-v
invariant-loop-v g l =
    let h = g.H.SceneHost in
    let s = h.scene l.host in h.is_of l.host l.main × WentOn (machine_of s) (h.known l.initial.main) (h.known l.main) (seen_below s l.v) × HoldsNoneFrom s l.v (h.known l.main)
