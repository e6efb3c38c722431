use Rattle.std.proofs.Common.{rules}
use Rattle.usb_xfer.proofs.control.move_control_in.Goals as goal

pub returns-else-t : goal.returns-else-t
returns-else-t g c = search rules
