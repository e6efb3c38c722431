use Rattle.std.proofs.Common.{rules}
use Rattle.usb_xfer.proofs.packet.send.Goals as goal

pub returns : goal.returns
returns g c = search rules
