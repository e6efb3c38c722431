-- An URB that came back to its driver, and what its transfer moved.
use Rattle.std.specs.Prelude.{ℕ, ◌+◌, ◌-◌, List, take, drop, length}
use Rattle.usb_types.specs.declared.errno.Errno.TheVariants.{EPROTO, EOVERFLOW}
use Rattle.usb_types.specs.declared.errno.Code.{Code}
use Rattle.usb_types.specs.declared.errno.Code.TheVariants.{Zero, Fault}
use Rattle.usb_types.specs.declared.urb.Role.{Role}
use Rattle.usb_types.specs.declared.urb.Action.{Action}
use Rattle.usb_types.specs.declared.urb.Action.TheVariants.{Rest, Again}
use Rattle.usb_machine.specs.declared.transfer.Transfer.{Transfer}

-- what a driver's completion handler sees of an URB: what its binding has it for, the status it came back with, and its
-- transfer as it came back
pub record Completion : Type 0 where
  pub role : Role
  pub status : Code
  pub transfer : Transfer

-- the bytes that were moved: the first `actual` of the window, as `urb->actual_length` counts them
abbrev pub moved_bytes : Transfer → List ℕ
moved_bytes t = take t.actual (drop t.from t.buf)

-- how many bytes of the buffer come after the window
abbrev pub after_window : Transfer → ℕ
after_window t = length t.buf - (t.from + t.len)

-- a read that a driver keeps goes on with its whole buffer where it succeeded, or failed in a way that may pass
abbrev pub read_again : Code → Transfer → Action
read_again Zero t = Again 0 (length t.buf)
read_again (Fault EPROTO) t = Again 0 (length t.buf)
read_again (Fault EOVERFLOW) t = Again 0 (length t.buf)
read_again status t = Rest
