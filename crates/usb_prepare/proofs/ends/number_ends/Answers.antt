use Rattle.std.proofs.Common.{◌∙◌, ap, sym, List, ◌++◌, length, get_or, arith}
use Rattle.usb_machine.specs.declared.layout.Shape.{Shape}
use Rattle.usb_prepare.specs.Ends.{device_ends}
use Rattle.usb_prepare.proofs.Numbering.{shapes_longer, firsts_longer}
use Rattle.usb_prepare.proofs.Taking.{attached_long, attached_is, front_few}
use Rattle.usb_prepare.proofs.ends.number_ends.Goals as goal

pub overflow_cast-items : goal.overflow_cast-items
overflow_cast-items c = let few = front_few c.args.scene.now c.requires.good c.loop-i.i c.items.result.now (c.items.ensures ∙ c.loop-i.invariant.shapes_so) in omega arith

pub bounds-attached-i : goal.bounds-attached-i
bounds-attached-i c = let long = ap length c.requires.attached ∙ (attached_long 0 c.args.scene.now.devices ∙ ap length (sym c.items-device-items.ensures)) in let near = c.loop-i-test.true in omega arith

pub add_device-requires : goal.add_device-requires
add_device-requires c = attached_is c.args.scene.now c.loop-i.i c.items-device-items.result.now c.device-item.result c.args.attached.now c.index-attached-i.result c.items-device-items.ensures c.loop-i-test.true c.device-item.is c.requires.attached c.index-attached-i.is

pub loop-i-preserved : goal.loop-i-preserved
loop-i-preserved c = record {
  shapes_so = shapes_longer c.args.scene.now.devices c.loop-i.i c.device-item.result c.loop-i.shapes c.add_device.new.shapes (let near = c.loop-i-test.true in let long = ap length c.items-device-items.ensures in omega arith) c.loop-i.invariant.shapes_so
      (c.in_ok-add_device.ensures ∙ ap (λ d. c.loop-i.shapes ++ device_ends c.loop-i.i d) (c.device-item.is ∙ ap (λ l. get_or l c.loop-i.i c.device-item.result) c.items-device-items.ensures));
  firsts_so = firsts_longer c.args.scene.now.devices c.loop-i.i _ c.loop-i.shapes c.loop-i.firsts c.push.new.self c.loop-i.invariant.shapes_so c.loop-i.invariant.firsts_so
      (ap (λ (l : List Shape). length l) c.items.ensures) c.in_ok-push.ensures.ok;
}
