-- What the core of a driver has seen, and what may come to it.
use Rattle.std.specs.Prelude.{◌≡◌, Bool, true, false, if◌then◌else◌, List, Option, Some, None}
use Rattle.usb_types.specs.declared.urb.Role.{Role}
use Rattle.usb_bind.specs.declared.row.Driver.{Driver}
use Rattle.usb_bind.specs.declared.row.Driver.TheVariants.{Keyboard, Acm, Printer}
use Rattle.usb_hid.specs.Keyboard.{IsAfter as IsKeyboardAfter, IsOfKeyboard}
use Rattle.usb_acm.specs.Acm.{IsAfter as IsAcmAfter, IsOfAcm}
use Rattle.usb_printer.specs.Printer.{PrinterState, IsAfter as IsPrinterAfter, IsOfPrinter}
use Rattle.usb_printer.specs.Requests.{question_of}
use Rattle.usb_machine.specs.declared.transfer.Transfer.{Transfer}
use Rattle.usb_machine.specs.Completion.{Completion}
use Rattle.usb_class.specs.declared.class_core.Core.{Core}
use Rattle.usb_class.specs.declared.class_core.Core.TheVariants.{Keyboard as KeyboardCore, Acm as AcmCore, Printer as PrinterCore}
use Rattle.usb_class.specs.Origin.{Origin}

-- a printer's core began so, and has seen these completions and no other
pub record IsPrinter (o : Origin) (done : List Completion) (kept : PrinterState) : Type 0 where
  pub number : kept.number ≡ o.number
  pub interface : kept.interface ≡ o.interface
  pub stands : IsPrinterAfter kept o.id done

-- the core is this driver's, began so, and has seen these completions and no other
abbrev pub IsCore : Driver → Origin → List Completion → Core → Type 0
IsCore Keyboard o done (KeyboardCore kept) = IsKeyboardAfter kept done
IsCore Acm o done (AcmCore kept) = IsAcmAfter kept done
IsCore Printer o done (PrinterCore kept) = IsPrinter o done kept
IsCore driver o done core = ⊥

-- which driver's core it is
abbrev pub driver_in : Core → Driver
driver_in (KeyboardCore kept) = Keyboard
driver_in (AcmCore kept) = Acm
driver_in (PrinterCore kept) = Printer

-- whether its question is out
abbrev pub is_asking : Core → Bool
is_asking (PrinterCore kept) = kept.out
is_asking core = false

-- its question, where it is out
abbrev pub open_question : Core → Option Transfer
open_question (PrinterCore kept) = if kept.out then Some (question_of kept.number kept.interface) else None
open_question core = None

-- the transfer is its question, which is out
abbrev pub CanUnask : Core → Transfer → Type 0
CanUnask (PrinterCore kept) t = (kept.out ≡ true) × (t ≡ question_of kept.number kept.interface)
CanUnask core t = ⊥

-- the driver has an URB for the purpose
abbrev pub IsOfDriver : Driver → Role → Type 0
IsOfDriver Keyboard role = IsOfKeyboard role
IsOfDriver Acm role = IsOfAcm role
IsOfDriver Printer role = IsOfPrinter role

-- an URB for this purpose may come back to the core
abbrev pub CanComplete : Core → Role → Type 0
CanComplete (KeyboardCore kept) role = IsOfKeyboard role
CanComplete (AcmCore kept) role = IsOfAcm role
CanComplete (PrinterCore kept) role = IsOfPrinter role
