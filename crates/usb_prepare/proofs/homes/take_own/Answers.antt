use Rattle.std.proofs.Common.{ℕ, ◌≡◌, ◌∙◌, Option, Some, None, refl, ap}
use Rattle.std.specs.Prelude.{unwrap_or, position}
use Rattle.usb_machine.specs.History.{or_zero}
use Rattle.usb_bind.specs.Pool.{taken}
use Rattle.usb_prepare.specs.Ends.{is_at, shapes_of}
use Rattle.usb_prepare.proofs.Taking.{own_longer}
use Rattle.usb_prepare.proofs.Numbering.{device_known, start_within, none_earlier, few_shapes}
use Rattle.usb_prepare.proofs.homes.take_own.Goals as goal

pub bounds-firsts-urb : goal.bounds-firsts-urb
unfolding shapes_of
bounds-firsts-urb c = device_known c.args.scene.now c.requires.good c.items-urb-items.result.now c.loop-urb.urb-index c.urb-item.result c.items-shapes.result.now c.items-firsts.result.now c.items-urb-items.ensures c.loop-urb-test.true
    c.urb-item.is (c.items-shapes.ensures ∙ c.requires.shapes) (c.items-firsts.ensures ∙ c.requires.firsts)

pub home-requires-clause-few : goal.home-requires-clause-few
unfolding shapes_of
home-requires-clause-few c = few_shapes c.args.scene.now c.requires.good c.items-urb-items.result.now c.loop-urb.urb-index c.urb-item.result c.items-shapes.result.now c.items-firsts.result.now c.items-urb-items.ensures c.loop-urb-test.true
    c.urb-item.is (c.items-shapes.ensures ∙ c.requires.shapes) (c.items-firsts.ensures ∙ c.requires.firsts)

pub home-requires-clause-start : goal.home-requires-clause-start
unfolding shapes_of
home-requires-clause-start c = start_within c.args.scene.now c.requires.good c.items-urb-items.result.now c.loop-urb.urb-index c.urb-item.result c.items-shapes.result.now c.items-firsts.result.now c.items-urb-items.ensures c.loop-urb-test.true
    c.urb-item.is (c.items-shapes.ensures ∙ c.requires.shapes) (c.items-firsts.ensures ∙ c.requires.firsts)

pub home-requires-clause-behind : goal.home-requires-clause-behind
unfolding shapes_of
home-requires-clause-behind c = none_earlier c.args.scene.now c.requires.good c.items-urb-items.result.now c.loop-urb.urb-index c.urb-item.result c.items-shapes.result.now c.items-firsts.result.now c.items-urb-items.ensures c.loop-urb-test.true
    c.urb-item.is (c.items-shapes.ensures ∙ c.requires.shapes) (c.items-firsts.ensures ∙ c.requires.firsts)

or_is : (o : Option ℕ) → unwrap_or o 0 ≡ or_zero o
or_is None = refl
or_is (Some n) = refl

pub loop-urb-preserved : goal.loop-urb-preserved
unfolding shapes_of
loop-urb-preserved c = own_longer c.args.scene.now c.loop-urb.urb-index c.urb-item.result c.items-urb-items.result.now c.args.pool.now c.loop-urb.pool c.take.new.self c.items-urb-items.ensures c.loop-urb-test.true c.urb-item.is c.loop-urb.invariant
    (c.take.ensures.pool ∙ ap (taken c.loop-urb.pool) (c.unwrap_or.ensures ∙ (or_is c.home.result ∙ ap or_zero (c.home.ensures ∙ ap (position (is_at c.urb-item.result.device c.urb-item.result.address)) (c.items-shapes.ensures ∙ c.requires.shapes)))))
