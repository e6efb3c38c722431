use Rattle.usb_threads.proofs.Making.{Making}
use Rattle.usb_threads.proofs.worker.make_all.Given as goal

abbrev pub invariant-loop-call : goal.invariant-loop-call
invariant-loop-call g l =
    let h = g.H.SceneHost in h.is_of l.host l.seat × Making (h.scene l.host) l.thread l.calls (h.known l.initial.seat) (h.known l.seat) l.call-index l.made l.down
