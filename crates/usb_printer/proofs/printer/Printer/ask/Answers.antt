use Rattle.std.proofs.Common.{rules}
use Rattle.usb_printer.proofs.printer.Printer.ask.Goals as goal

pub returns-clause-question : goal.returns-clause-question
returns-clause-question c = search rules
