-- What a driver reports of all that came back to it.
use Rattle.std.specs.Prelude.{List}
use Rattle.usb_bind.specs.declared.row.Driver.{Driver}
use Rattle.usb_bind.specs.declared.row.Driver.TheVariants.{Keyboard, Acm, Printer}
use Rattle.usb_machine.specs.Completion.{Completion}
use Rattle.usb_hid.specs.Keys.{key_events}
use Rattle.usb_printer.specs.Jobs.{print_events}
use Rattle.usb_acm.specs.Serial.{serial_events, lost, capped}
use Rattle.usb_class.specs.declared.class_core.Told.{Told}
use Rattle.usb_class.specs.declared.class_core.Told.TheVariants.{Keys, Serial, Jobs}
use Rattle.usb_class.specs.Origin.{Origin}

abbrev pub told_of : Driver → Origin → List Completion → Told
told_of Keyboard o done = Keys (key_events done)
told_of Acm o done = Serial (serial_events done) (capped (lost done))
told_of Printer o done = Jobs (print_events o.id done)
