use Rattle.std.proofs.Common.{List}
use Rattle.usb_machine.specs.declared.entry.Entry.{Entry}
use Rattle.usb_trace.specs.Plan.{machine_of}
use Rattle.usb_threads.specs.Passes.{WentOn}
use Rattle.usb_threads.specs.MainPass.{HasRead}
use Rattle.usb_threads.proofs.whole.read_all.Given as goal

abbrev pub invariant-loop-u : goal.invariant-loop-u
invariant-loop-u g l =
    let h = g.H.SceneHost in
    let s = h.scene l.host in h.is_of l.host l.main × ((xs : List Entry) × WentOn (machine_of s) (h.known l.initial.main) (h.known l.main) xs × HasRead s l.u xs)
