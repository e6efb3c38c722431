use Rattle.std.proofs.Common.{◌∙◌}
use Rattle.usb_generate.proofs.Streams.{calls_none, call_place_none, calls_more, call_place_more}
use Rattle.usb_generate.proofs.generator.calls.Goals as goal

pub loop-number-init : goal.loop-number-init
loop-number-init c = record { said = c.of-calls.ensures ∙ c.new.ensures.items ∙ calls_none c.args.draws.now; stands = call_place_none c.args.draws.now }

pub loop-number-preserved : goal.loop-number-preserved
loop-number-preserved c = record {
  said = c.in_ok-push.ensures.ok
      ∙ calls_more c.args.draws.now c.loop-number.number c.loop-number.draws c.loop-number.calls c.call.result c.loop-number.invariant.said c.loop-number.invariant.stands c.call.ensures.call;
  stands = call_place_more c.args.draws.now c.loop-number.number c.loop-number.draws c.call.new.draws c.loop-number.invariant.stands c.call.ensures.draws;
}
