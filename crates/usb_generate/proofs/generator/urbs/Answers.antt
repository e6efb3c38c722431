use Rattle.std.proofs.Common.{◌∙◌}
use Rattle.usb_generate.proofs.Streams.{urbs_none, urbs_more}
use Rattle.usb_generate.proofs.generator.urbs.Goals as goal

pub loop-number-init : goal.loop-number-init
loop-number-init c = c.of-urbs.ensures ∙ c.new.ensures.items ∙ urbs_none

pub loop-number-preserved : goal.loop-number-preserved
loop-number-preserved c = c.in_ok-push.ensures.ok ∙ urbs_more c.loop-number.number c.loop-number.urbs c.in_ok-urb.field-0 c.loop-number.invariant c.in_ok-urb.ensures
