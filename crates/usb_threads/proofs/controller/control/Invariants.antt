use Rattle.std.proofs.Common.{IfOk}
use Rattle.usb_threads.specs.Controlling.{HasControlled}
use Rattle.usb_threads.proofs.controller.control.Given as goal

abbrev pub invariant-loop-turn : goal.invariant-loop-turn
invariant-loop-turn g l =
    let h = g.H.SceneHost in
    (goal.iterator-loop-turn g).can_next l._turn-iterator
    × (goal.iterator-loop-turn g).is_finite l._turn-iterator
    × h.serves l.host l.server
    × IfOk l.given (HasControlled (h.scene l.host) (h.after l.host l.server) (h.own l.initial.server) (h.own l.server))
