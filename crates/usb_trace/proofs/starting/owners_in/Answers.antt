use Rattle.std.proofs.Common.{◌≡◌, ◌<◌, ◌++◌, ◌∷◌, [], length, map, ap, ◌∙◌, arith}
use Rattle.usb_bind.specs.Board.{BoardValue}
use Rattle.usb_prepare.specs.Below.{below}
use Rattle.usb_prepare.specs.Prepared.{bindings_of}
use Rattle.usb_prepare.proofs.Below.{map_below-suc}
use Rattle.usb_prepare.proofs.Facts.{bindings_few}
use Rattle.usb_trace.specs.Plan.{owner_of}
use Rattle.usb_trace.proofs.starting.owners_in.Goals as goal

pub owner_in-requires : goal.owner_in-requires
owner_in-requires c =
    let few = bindings_few c.args.scene.now c.requires.good in
    let all : length c.args.board.now.bindings ≡ length (bindings_of c.args.scene.now) = ap (λ (b : BoardValue). length b.bindings) c.requires.bound in
    record { few = omega arith }

pub loop-u-preserved : goal.loop-u-preserved
loop-u-preserved c =
    let s = c.args.scene.now in
    c.in_ok-push.ensures.items ∙ ((λ j. c.loop-u.invariant j ++ c.owner_in.ensures s c.requires.bound j ∷ []) ∙ map_below-suc (owner_of s) c.loop-u.u)

pub returns : goal.returns
returns c =
    let l = c.loop-u.auto.u-end in let m = c.loop-u-test.false in let same : c.loop-u.u ≡ c.args.urbs = omega arith in
    c.loop-u.invariant ∙ ap (λ n. map (owner_of c.args.scene.now) (below n)) (same ∙ c.requires.count)
