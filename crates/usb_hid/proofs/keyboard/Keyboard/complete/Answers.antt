use Rattle.usb_hid.proofs.Standing.{after_more}
use Rattle.usb_hid.proofs.keyboard.Keyboard.complete.Goals as goal

pub returns-clause-stands : goal.returns-clause-stands
returns-clause-stands c done s =
    after_more c.args.self.now c.note.new.self done (record { role = c.args.role; status = c.args.code; transfer = c.args.t.now }) s c.in_ok-note.ensures.ok
