-- What a driver reports, as lines.
use Rattle.std.specs.Prelude.{ℕ, List}
use Rattle.usb_class.specs.declared.class_core.Told.{Told}
use Rattle.usb_class.specs.declared.class_core.Told.TheVariants.{Keys, Serial, Jobs}
use Rattle.usb_telling.specs.Keys.{keys_text}
use Rattle.usb_telling.specs.Serial.{serial_text}
use Rattle.usb_telling.specs.Jobs.{jobs_text}

abbrev pub told_text : Told → List ℕ
told_text (Keys events) = keys_text events
told_text (Serial events dropped) = serial_text events dropped
told_text (Jobs events) = jobs_text events
