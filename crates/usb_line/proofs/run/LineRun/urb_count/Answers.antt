use Rattle.std.proofs.Common.{arith}
use Rattle.usb_prepare.proofs.Facts.{few_urbs}
use Rattle.usb_line.proofs.run.LineRun.urb_count.Goals as goal

pub overflow_cast-result : goal.overflow_cast-result
overflow_cast-result c = let few = few_urbs c.requires.scene c.requires.good in let all = c.requires.shows.all_urbs in let is = c.len.ensures in omega arith
