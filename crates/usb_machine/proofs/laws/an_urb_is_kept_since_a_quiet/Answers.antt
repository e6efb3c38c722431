use Rattle.usb_machine.proofs.SinceQuiet.{keeps_since_quiet}
use Rattle.usb_machine.proofs.laws.an_urb_is_kept_since_a_quiet.Goals as goal

pub returns : goal.returns
returns c = keeps_since_quiet
