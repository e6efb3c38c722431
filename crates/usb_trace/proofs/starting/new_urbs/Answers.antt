use Rattle.std.proofs.Common.{◌≡◌, ◌<◌, ◌++◌, ◌∷◌, [], Option, None, List, length, get_or, map, ap, ◌∙◌, subst, arith}
use Rattle.std.specs.Prelude.{slice_get}
use Rattle.usb_class.specs.declared.owner.Owner.{Owner}
use Rattle.usb_prepare.specs.Below.{below}
use Rattle.usb_prepare.specs.Layout.{urb_count}
use Rattle.usb_prepare.proofs.Below.{map_below-suc, length-map_below, get-map_below}
use Rattle.usb_trace.specs.Plan.{owner_of, again_in}
use Rattle.usb_trace.specs.Handlers.{new_handled}
use Rattle.usb_trace.proofs.starting.new_urbs.Goals as goal

pub loop-u-preserved : goal.loop-u-preserved
loop-u-preserved c =
    let s = c.args.scene.now in let u = c.loop-u.u in
    let long = ap (λ (l : List (Option Owner)). length l) c.requires ∙ length-map_below (owner_of s) (urb_count s) in
    let near : u < urb_count s = subst (λ n. u < n) long c.loop-u-test.true in
    let owner : get_or c.args.owners.now u None ≡ owner_of s u = ap (λ (l : List (Option Owner)). get_or l u None) c.requires ∙ get-map_below (owner_of s) (urb_count s) u None near in
    let again = c.again_said.ensures ∙ ap (λ l. again_in (slice_get l u)) c.items.ensures in
    c.in_ok-push.ensures.items ∙ ((λ j. c.loop-u.invariant j ++ record { owner = owner j; again = again j } ∷ []) ∙ map_below-suc (new_handled s) u)

pub returns : goal.returns
returns c =
    let s = c.args.scene.now in
    let long = ap (λ (l : List (Option Owner)). length l) c.requires ∙ length-map_below (owner_of s) (urb_count s) in
    let l = c.loop-u.auto.u-end in let m = c.loop-u-test.false in
    let same : c.loop-u.u ≡ urb_count s = omega arith in
    c.loop-u.invariant ∙ ap (λ n. map (new_handled s) (below n)) same
