use Rattle.std.proofs.Common.{rules}
use Rattle.usb_bind.proofs.board.release_slot.Goals as goal

pub returns-in-Some : goal.returns-in-Some
returns-in-Some c = search rules
