use Rattle.usb_prepare.proofs.Whole.{few_attached, firsts_long, firsts_low}
use Rattle.usb_prepare.proofs.preparing.open.Goals as goal

pub new-requires-2-clause-few : goal.new-requires-2-clause-few
new-requires-2-clause-few c = few_attached c.args.scene.now c.args.attached c.requires.good c.requires.attached

pub new-requires-2-clause-firsts : goal.new-requires-2-clause-firsts
new-requires-2-clause-firsts c = firsts_long c.args.scene.now c.in_ok-ends.ends.firsts c.args.attached c.in_ok-ends.ensures.firsts c.requires.attached

pub new-requires-2-clause-low : goal.new-requires-2-clause-low
new-requires-2-clause-low c = firsts_low c.args.scene.now c.requires.good c.in_ok-ends.ends.firsts c.in_ok-ends.ensures.firsts
