use Rattle.std.proofs.Common.{rules}
use Rattle.usb_xfer.proofs.packet.move_in.Goals as goal

pub returns-then-t-3 : goal.returns-then-t-3
returns-then-t-3 g c = search rules

pub returns-else-t : goal.returns-else-t
returns-else-t g c = search rules
