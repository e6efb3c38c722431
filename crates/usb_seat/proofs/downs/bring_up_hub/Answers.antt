use Rattle.std.proofs.Common.{◌≡◌, ◌∙◌, ap, subst, arith}
use Rattle.std.specs.List.{range_with_len}
use Rattle.usb_types.specs.declared.urb.Flag.TheVariants as flag
use Rattle.usb_machine.specs.State.{has_flag}
use Rattle.usb_machine.specs.Calls.{unflag_entries}
use Rattle.usb_machine.specs.Fresh.{Grown}
use Rattle.usb_machine.proofs.Growing.{grown_none}
use Rattle.usb_seat.proofs.Flagging.{unflag_next, still_down}
use Rattle.usb_seat.proofs.downs.bring_up_hub.Goals as goal

pub loop-u-init : goal.loop-u-init
loop-u-init g c = (c.requires.here, c.requires.whole, grown_none (g.H.Host.known (g.H.Hub.Token.own c.args.hub.now)), λ v low l. c.requires.down v l)

pub unflag-requires-clause-here : goal.unflag-requires-clause-here
unflag-requires-clause-here g c = c.loop-u.invariant.0

pub unflag-requires-clause-whole : goal.unflag-requires-clause-whole
unflag-requires-clause-whole g c = c.loop-u.invariant.1

pub unflag-requires-clause-set : goal.unflag-requires-clause-set
unflag-requires-clause-set g c = let u = c.loop-u.u in let l = c.loop-u-test.true in
    ap (has_flag flag.Down) (c.loop-u.invariant.1.flags_are u (c.requires.urbs u l)) ∙ c.loop-u.invariant.3 u (omega arith) l

pub loop-u-preserved : goal.loop-u-preserved
loop-u-preserved g c =
    let known = g.H.Host.known in let own = g.H.Hub.Token.own in let u = c.loop-u.u in let step = c.unflag.ensures.fresh in
    let p = known (own c.args.hub.now) in let q = known (own c.loop-u.hub) in let r = known (own c.unflag.new.hub) in (
      c.unflag.ensures.here,
      c.unflag.ensures.whole,
      unflag_next p q r u c.loop-u.invariant.2 step.grown,
      λ v low l. still_down q r u v low step.grown (c.loop-u.invariant.3 v (omega arith) l),
    )

pub returns-clause-here : goal.returns-clause-here
returns-clause-here g c = c.loop-u.invariant.0

pub returns-clause-whole : goal.returns-clause-whole
returns-clause-whole g c = c.loop-u.invariant.1

pub returns-clause-up : goal.returns-clause-up
returns-clause-up g c =
    let known = g.H.Host.known in let own = g.H.Hub.Token.own in
    let p = known (own c.args.hub.now) in let q = known (own c.loop-u.hub) in
    let l = c.loop-u.auto.u-end in let m = c.loop-u-test.false in let same : c.loop-u.u ≡ c.args.urbs = omega arith in
    subst (λ n. Grown p q (unflag_entries p.number flag.Down (range_with_len 0 n))) same c.loop-u.invariant.2
