use Rattle.std.proofs.Common.{Some, None}
use Rattle.usb_scene.proofs.Counting.{count_found}
use Rattle.usb_scene.proofs.rejects.Rejects.held.Goals as goal

pub returns-in-Some : goal.returns-in-Some
returns-in-Some c = count_found c.args.self.now.counts c.args.urb (Some c.in-Some.count.now) c.in-Some.ensures.value

pub returns-in-None : goal.returns-in-None
returns-in-None c = count_found c.args.self.now.counts c.args.urb None c.in-None.ensures.value
