-- The number of a status, with which a process ends.
use Rattle.std.specs.Prelude.{ℕ}
use Rattle.usb_run.specs.declared.status.Status.{Status}
use Rattle.usb_run.specs.declared.status.Status.TheVariants.{Done, ReadFault, WriteFault, BadWords, BadScene, TooLong, Memory}

-- the number of a status
abbrev pub number_of : Status → ℕ
number_of Done = 0
number_of ReadFault = 1
number_of WriteFault = 2
number_of BadWords = 3
number_of (BadScene line cause) = 4
number_of TooLong = 5
number_of Memory = 6
