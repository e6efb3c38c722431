-- An endpoint that was woken.
use Rattle.std.specs.Prelude.{false}
use Rattle.usb_line.specs.declared.run.EndRow.{EndRow}

abbrev pub awake : EndRow → EndRow
awake end = record end { asleep = false }
