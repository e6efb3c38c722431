use Rattle.std.proofs.Common.{rules}
use Rattle.usb_hid.proofs.keyboard.Keyboard.note.Goals as goal

pub returns-in-In-Zero-clause-ok : goal.returns-in-In-Zero-clause-ok
returns-in-In-Zero-clause-ok c = search rules
