use Rattle.std.proofs.Common.{refl}
use Rattle.usb_hid.proofs.Lost.{lost_told}
use Rattle.usb_hid.proofs.changes.push_lost.Goals as goal

pub loop-i-preserved : goal.loop-i-preserved
loop-i-preserved c =
    lost_told c.args.down c.args.codes.now c.args.others.now c.loop-i.i _ c.args.events.now.items c.loop-i.events.items c.push_if.new.events.items
    c.is_released-lost.result c.turned.result c.loop-i-test.true refl c.loop-i.invariant c.is_released-lost.ensures c.turned.ensures c.in_ok-push_if.ensures.ok
