use Rattle.usb_printer.proofs.Whole.{nothing_follows}
use Rattle.usb_printer.proofs.laws.no_window_follows_a_fault.Goals as goal

pub returns : goal.returns
returns c = nothing_follows
