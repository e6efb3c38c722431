use Rattle.std.proofs.Common.{◌≡◌, ◌∙◌, ap, arith}
use Rattle.std.specs.List.{range_with_len}
use Rattle.usb_cancel.specs.Flushing.{ids}
use Rattle.usb_seat.proofs.Flagging.{ids_next}
use Rattle.usb_seat.proofs.downs.urbs_below.Goals as goal

pub loop-u-init : goal.loop-u-init
loop-u-init c = ap ids c.new-below.ensures.items

pub loop-u-preserved : goal.loop-u-preserved
loop-u-preserved c = ids_next c.loop-u.below.items c.push.new.self.items c.loop-u.u c.loop-u.invariant c.in_ok-push.ensures.items

pub returns : goal.returns
returns c = let l = c.loop-u.auto.u-end in let m = c.loop-u-test.false in let same : c.loop-u.u ≡ c.args.urbs = omega arith in c.loop-u.invariant ∙ ap (range_with_len 0) same
