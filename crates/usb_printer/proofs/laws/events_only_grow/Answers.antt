use Rattle.usb_printer.proofs.Whole.{print_events-append}
use Rattle.usb_printer.proofs.laws.events_only_grow.Goals as goal

pub returns : goal.returns
returns c = print_events-append
