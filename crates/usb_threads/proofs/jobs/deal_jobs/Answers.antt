use Rattle.std.proofs.Common.{◌≡◌, ℕ, sym, ap, subst, length, List, arith, length-append, [], ◌∷◌}
use Rattle.usb_trace.specs.Plan.{machine_of}
use Rattle.usb_threads.specs.Jobs.{IsSeatFor, IsJob}
use Rattle.usb_threads.proofs.Ongoing.{looked_self, looked_more}
use Rattle.usb_threads.proofs.Dealing.{each_none, each_push, each_pop, dealt}
use Rattle.usb_threads.proofs.jobs.deal_jobs.Goals as goal

pub meet-requires-clause-here : goal.meet-requires-clause-here
meet-requires-clause-here g c =
    let h = g.H.SceneHost in let host = c.args.host.now in
    (each_pop (IsSeatFor (h.is_of host) h.known (h.scene host)) c.loop-seat.seats.items c.pop.new.self.items c.in-Some.seat c.in-Some.ensures.items c.loop-seat.invariant.3).1.here

pub loop-seat-preserved : goal.loop-seat-preserved
loop-seat-preserved g c =
    let h = g.H.SceneHost in let host = c.args.host.now in let inv = c.loop-seat.invariant in
    let popped = each_pop (IsSeatFor (h.is_of host) h.known (h.scene host)) c.loop-seat.seats.items c.pop.new.self.items c.in-Some.seat c.in-Some.ensures.items inv.3 in
    let shorter = ap (λ (l : List _). length l) c.in-Some.ensures.items in
    let two = length-append c.pop.new.self.items (c.in-Some.seat ∷ []) in
    let longer = ap (λ (l : List _). length l) c.in-Ok.ensures.items in
    let at : c.len-thread.result ≡ length c.pop.new.self.items = omega arith in
    let one = length-append c.loop-seat.jobs.items (record { thread = c.len-thread.result; seat = c.meet.new.seat } ∷ []) in (
      c.meet.ensures.there,
      looked_more (machine_of (h.scene host)) (h.known c.args.main.now) (h.known c.loop-seat.main) (h.known c.meet.new.other) inv.1 c.meet.ensures.other,
      omega arith,
      popped.0,
      each_push (IsJob (h.is_of host) h.known (h.scene host) (h.known c.args.main.now) (length c.args.seats.items)) c.loop-seat.jobs.items c.push.new.self.items (record { thread = c.len-thread.result; seat = c.meet.new.seat }) c.in-Ok.ensures.items inv.4
          (dealt (h.is_of host) h.known (h.scene host) (h.known c.args.main.now) (length c.args.seats.items) (length c.loop-seat.jobs.items) c.len-thread.result c.in-Some.seat c.meet.new.seat (h.known c.loop-seat.main)
          (omega arith) (subst (λ (k : ℕ). IsSeatFor (h.is_of host) h.known (h.scene host) k c.in-Some.seat) (sym at) popped.1) c.meet.ensures.here c.meet.ensures.seat c.meet.ensures.met inv.1.grown.begins),
    )

pub loop-seat-init : goal.loop-seat-init
loop-seat-init g c =
    let h = g.H.SceneHost in let host = c.args.host.now in let empty = c.new-jobs.ensures.len in (
      c.requires.main,
      looked_self (machine_of (h.scene host)) (h.known c.args.main.now) c.requires.sound,
      omega arith,
      c.requires.seats,
      each_none (IsJob (h.is_of host) h.known (h.scene host) (h.known c.args.main.now) (length c.args.seats.items)) c.new-jobs.result.items c.new-jobs.ensures.items,
    )
