use Rattle.std.proofs.Common.{rules}
use Rattle.usb_acm.proofs.acm.Acm.take_note.Goals as goal

pub returns-in-Read0-Zero-clause-ok : goal.returns-in-Read0-Zero-clause-ok
returns-in-Read0-Zero-clause-ok c = search rules
