use Rattle.usb_acm.proofs.Standing.{serial_events-append}
use Rattle.usb_acm.proofs.laws.events_only_grow.Goals as goal

pub returns : goal.returns
returns c = serial_events-append
