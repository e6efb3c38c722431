use Rattle.usb_line.proofs.Awake.{one_awake}
use Rattle.usb_line.proofs.wake.wake_all.Goals as goal

pub loop-end-preserved : goal.loop-end-preserved
loop-end-preserved c = one_awake c.args.ends.now c.loop-end.ends c.loop-end.end-index c.end-item.result c.loop-end-test.true c.loop-end.invariant
