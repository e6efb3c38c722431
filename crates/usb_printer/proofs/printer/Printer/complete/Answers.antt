use Rattle.std.proofs.Common.{ap}
use Rattle.usb_printer.specs.Printer.{PrinterState}
use Rattle.usb_printer.proofs.Whole.{print_events-snoc}
use Rattle.usb_printer.proofs.printer.Printer.complete.Goals as goal

pub returns-clause-stands : goal.returns-clause-stands
returns-clause-stands c id done s =
    print_events-snoc id done (record { role = c.args.role; status = c.args.code; transfer = c.args.t.now }) c.args.self.now.events c.note.new.self.events s
    (ap (λ (k : PrinterState). k.events) c.in_ok-note.ensures.ok)
