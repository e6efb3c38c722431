use Rattle.std.proofs.Common.{rules}
use Rattle.usb_printer.proofs.jobs.next_window.Goals as goal

pub returns-in-0 : goal.returns-in-0
returns-in-0 c = search rules
