use Rattle.std.proofs.Common.{ℕ, suc, ◌≡◌, ◌+◌, ◌∙◌, [], ◌++◌, subst, arith}
use Rattle.usb_trace.specs.Plan.{machine_of, read_of}
use Rattle.usb_threads.specs.MainPass.{read_answered, HasRead, none, one}
use Rattle.usb_threads.proofs.Ongoing.{went_nothing, went_more}
use Rattle.usb_threads.proofs.whole.read_all.Goals as goal

pub read-requires-clause-main : goal.read-requires-clause-main
read-requires-clause-main g c = c.loop-u.invariant.1.1.grown.number ∙ c.requires.main.number

pub loop-u-init : goal.loop-u-init
loop-u-init g c =
    let h = g.H.SceneHost in let s = h.scene c.args.host.now in
    (c.requires.here, ([], went_nothing (machine_of s) (h.known c.args.main.now) c.requires.main.sound, none))

pub loop-u-preserved : goal.loop-u-preserved
loop-u-preserved g c =
    let h = g.H.SceneHost in let s = h.scene c.args.host.now in let inv = c.loop-u.invariant.1 in let read = c.in_ok-read.ensures.read in let u = c.loop-u.u in
    let more = read_answered s u (read_of s u) read.0 in
    let next : suc u ≡ u + 1 = omega arith in (
      c.read.ensures.here,
      (inv.0 ++ more, went_more (machine_of s) (h.known c.args.main.now) (h.known c.loop-u.main) (h.known c.read.new.seat) inv.0 more inv.1 read.1, subst (λ (n : ℕ). HasRead s n (inv.0 ++ more)) next (one u inv.0 read.0 inv.2)),
    )
