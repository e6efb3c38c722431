use Rattle.usb_acm.proofs.Standing.{after_more}
use Rattle.usb_acm.proofs.acm.Acm.complete.Goals as goal

pub returns-clause-stands : goal.returns-clause-stands
returns-clause-stands c done s =
    after_more c.args.self.now c.take_note.new.self done (record { role = c.args.role; status = c.args.code; transfer = c.args.t.now }) s c.in_ok-take_note.ensures.ok
