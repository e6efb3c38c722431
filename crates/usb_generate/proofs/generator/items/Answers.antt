use Rattle.std.proofs.Common.{◌∙◌}
use Rattle.usb_generate.proofs.Streams.{items_none, item_place_none, items_more, item_place_more}
use Rattle.usb_generate.proofs.generator.items.Goals as goal

pub loop-byte-init : goal.loop-byte-init
loop-byte-init c = record { said = c.of-items.ensures ∙ c.new.ensures.items ∙ items_none c.args.draws.now; stands = item_place_none c.args.draws.now }

pub loop-byte-preserved : goal.loop-byte-preserved
loop-byte-preserved c = record {
  said = c.in_ok-push.ensures.ok
      ∙ items_more c.args.draws.now c.loop-byte.byte c.loop-byte.draws c.loop-byte.items c.in_ok-item.field-0 c.loop-byte.invariant.said c.loop-byte.invariant.stands c.in_ok-item.ensures.item;
  stands = item_place_more c.args.draws.now c.loop-byte.byte c.loop-byte.draws c.item.new.draws c.loop-byte.invariant.stands c.in_ok-item.ensures.draws;
}
