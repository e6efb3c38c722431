-- What becomes of a transfer that came back to a driver.
use Rattle.std.specs.Prelude.{Bool, true, false}
use Rattle.usb_types.specs.declared.errno.Errno.TheVariants.{EPROTO, EOVERFLOW}
use Rattle.usb_types.specs.declared.errno.Code.{Code}
use Rattle.usb_types.specs.declared.errno.Code.TheVariants.{Zero, Fault}
use Rattle.usb_types.specs.declared.urb.Role.{Role}
use Rattle.usb_types.specs.declared.urb.Role.TheVariants.{Ctl}
use Rattle.usb_types.specs.declared.urb.Action.{Action}
use Rattle.usb_types.specs.declared.urb.Action.TheVariants.{Again, Ask}
use Rattle.usb_machine.specs.declared.transfer.Transfer.{Transfer}
use Rattle.usb_bind.specs.declared.row.Driver.{Driver}
use Rattle.usb_bind.specs.declared.row.Driver.TheVariants.{Keyboard, Acm, Printer}
use Rattle.usb_hid.specs.Keyboard.{action_of as keyboard_action}
use Rattle.usb_acm.specs.Acm.{action_of as port_action}
use Rattle.usb_printer.specs.Jobs.{action_of as printer_action}

-- a transfer goes on, or rests, as the core of its driver says
abbrev pub action_of : Driver → Role → Code → Transfer → Action
action_of Keyboard role status t = keyboard_action role status t
action_of Acm role status t = port_action role status t
action_of Printer role status t = printer_action role status t

abbrev pub goes_again : Action → Bool
goes_again (Again from len) = true
goes_again action = false

abbrev pub asks : Action → Bool
asks Ask = true
asks action = false

-- no byte of the window is moved; a transfer that goes again has the window that its driver asks for
abbrev pub window_by : Action → Transfer → Transfer
window_by (Again from len) t = record t { from = from; len = len; actual = 0 }
window_by action t = record t { actual = 0 }

-- the statuses after which a driver goes on: it succeeded, or failed in a way that may pass
abbrev pub goes_on : Code → Bool
goes_on Zero = true
goes_on (Fault EPROTO) = true
goes_on (Fault EOVERFLOW) = true
goes_on status = false

abbrev pub is_ctl : Role → Bool
is_ctl Ctl = true
is_ctl role = false
