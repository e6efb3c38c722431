use Rattle.usb_hid.proofs.Standing.{key_events-append}
use Rattle.usb_hid.proofs.laws.events_only_grow.Goals as goal

pub returns : goal.returns
returns c = key_events-append
