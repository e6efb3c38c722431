use Rattle.std.proofs.Common.{ℕ, ◌≡◌, ◌∙◌, [], subst, arith}
use Rattle.usb_trace.specs.Plan.{machine_of}
use Rattle.usb_threads.specs.Passes.{WentOn}
use Rattle.usb_threads.proofs.Ongoing.{went_nothing}
use Rattle.usb_threads.proofs.Calming.{calm_kill, calm_seen}
use Rattle.usb_threads.proofs.ClosingDown.{HasKilled, seen_below, killed_none, killed_more, seen_more, all_closed}
use Rattle.usb_threads.proofs.ending.close_down.Goals as goal

pub kill-requires-clause-few : goal.kill-requires-clause-few
kill-requires-clause-few g c = let none = c.loop-u.invariant.2 c.loop-u.u in omega arith

pub see_quiet-requires-clause-few : goal.see_quiet-requires-clause-few
see_quiet-requires-clause-few g c = let none = c.loop-v.invariant.2 c.loop-v.v (omega arith) in omega arith

pub loop-u-init : goal.loop-u-init
loop-u-init g c =
    let h = g.H.SceneHost in let s = h.scene c.args.host.now in let p = h.known c.args.main.now in
    (c.requires.here, ([], went_nothing (machine_of s) p c.requires.sound, killed_none s p c.requires.number c.requires.calm.claims), c.requires.calm.holds)

pub loop-u-preserved : goal.loop-u-preserved
loop-u-preserved g c =
    let h = g.H.SceneHost in let s = h.scene c.args.host.now in let inv = c.loop-u.invariant.1 in let k = c.kill.ensures.killed in (
      c.kill.ensures.here,
      killed_more s (h.known c.args.main.now) (h.known c.loop-u.main) (h.known c.kill.new.seat) c.loop-u.u inv.0 k.0 k.1 c.kill.result c.requires.number inv.1 inv.2 k.2 k.3 k.4,
      calm_kill s (h.known c.loop-u.main) (h.known c.kill.new.seat) c.loop-u.u k.0 c.kill.result c.loop-u.invariant.2 k.3,
    )

pub loop-v-init : goal.loop-v-init
loop-v-init g c =
    let h = g.H.SceneHost in let s = h.scene c.args.host.now in
    (c.loop-u.invariant.0, went_nothing (machine_of s) (h.known c.loop-u.main) c.loop-u.invariant.1.1.sound, λ u l. c.loop-u.invariant.2 u)

pub loop-v-preserved : goal.loop-v-preserved
loop-v-preserved g c =
    let h = g.H.SceneHost in let s = h.scene c.args.host.now in (
      c.see_quiet.ensures.here,
      seen_more s (h.known c.loop-u.main) (h.known c.loop-v.main) (h.known c.see_quiet.new.seat) c.loop-v.v (c.loop-u.invariant.1.1.grown.number ∙ c.requires.number) c.loop-v.invariant.1 c.see_quiet.ensures.seen,
      calm_seen s (h.known c.loop-v.main) (h.known c.see_quiet.new.seat) c.loop-v.v c.loop-v.invariant.2 c.see_quiet.ensures.seen,
    )

pub returns-clause-closed : goal.returns-clause-closed
returns-clause-closed g c =
    let h = g.H.SceneHost in let s = h.scene c.args.host.now in let inv = c.loop-u.invariant.1 in let n = c.urbs-urbs.result in
    let u : c.loop-u.u ≡ n = omega arith in
    let v : c.loop-v.v ≡ n = omega arith in
    all_closed s (h.known c.args.main.now) (h.known c.loop-u.main) (h.known c.loop-v.main) n inv.0 c.urbs-urbs.ensures c.requires.number inv.1 (subst (λ (k : ℕ). HasKilled s k (h.known c.loop-u.main).seen inv.0) u inv.2)
    (subst (λ (k : ℕ). WentOn (machine_of s) (h.known c.loop-u.main) (h.known c.loop-v.main) (seen_below s k)) v c.loop-v.invariant.1)
