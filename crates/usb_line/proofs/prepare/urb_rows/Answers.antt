use Rattle.std.proofs.Common.{◌≡◌, ◌<◌, ℕ, Option, None, List, length, get_or, sym, ap, ◌∙◌, subst, arith}
use Rattle.usb_machine.specs.History.{or_zero}
use Rattle.usb_class.specs.declared.owner.Owner.{Owner}
use Rattle.usb_prepare.specs.Layout.{urb_count}
use Rattle.usb_prepare.proofs.Below.{length-map_below}
use Rattle.usb_prepare.proofs.Facts.{few_urbs}
use Rattle.usb_trace.specs.Plan.{owner_of}
use Rattle.usb_line.proofs.Opening.{urbs_longer}
use Rattle.usb_line.proofs.prepare.urb_rows.Goals as goal

pub bounds-owners-u : goal.bounds-owners-u
bounds-owners-u c =
    let s = c.args.scene.now in
    let all : length c.args.owners.now ≡ urb_count s = ap (λ (l : List (Option Owner)). length l) c.requires.owned ∙ length-map_below (owner_of s) (urb_count s) in
    let homes : length c.args.homes.now ≡ urb_count s = ap (λ (l : List (Option ℕ)). length l) c.requires.homes in
    subst (λ n. c.loop-u.u < n) (homes ∙ sym all) c.loop-u-test.true

pub offset_bounds-owners-u : goal.offset_bounds-owners-u
offset_bounds-owners-u c =
    let few = few_urbs c.args.scene.now c.requires.good in
    let homes : length c.args.homes.now ≡ urb_count c.args.scene.now = ap (λ (l : List (Option ℕ)). length l) c.requires.homes in
    let near = c.loop-u-test.true in
    omega arith

pub loop-u-preserved : goal.loop-u-preserved
loop-u-preserved c = urbs_longer c.args.scene.now c.loop-u.u c.items.result.now c.args.homes.now c.args.owners.now c.loop-u.urbs.items c.push.new.self.items c.urb_row.result c.loop-u-test.true c.items.ensures c.requires.homes c.requires.owned
    (c.urb_row.ensures ∙ (λ j. record { home = or_zero (get_or {A = Option ℕ} c.args.homes.now c.loop-u.u None); owner = get_or {A = Option Owner} c.args.owners.now c.loop-u.u None; again = c.again_said.ensures j; transfer = None })) c.loop-u.invariant c.in_ok-push.ensures.items
