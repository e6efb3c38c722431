-- The question that a driver asks by itself: of a printer, what its port's status is.
use Rattle.std.specs.Prelude.{Bool, false, if◌then◌else◌, Option, Some, None}
use Rattle.usb_types.specs.declared.urb.Role.{Role}
use Rattle.usb_machine.specs.declared.transfer.Transfer.{Transfer}
use Rattle.usb_bind.specs.declared.row.Driver.{Driver}
use Rattle.usb_bind.specs.declared.row.Driver.TheVariants.{Printer}
use Rattle.usb_printer.specs.Requests.{question_of}
use Rattle.usb_printer.specs.Printer.{is_question}
use Rattle.usb_class.specs.Origin.{Origin}

abbrev pub question_by : Driver → Origin → Option Transfer
question_by Printer o = Some (question_of o.number o.interface)
question_by driver o = None

-- the transfer that came back is the question
abbrev pub is_answer : Driver → Origin → Role → Transfer → Bool
is_answer Printer o role t = is_question o.number role t
is_answer driver o role t = false

-- whether the question is out after a transfer that came back: where it is that one, it no longer is
abbrev pub still_out : Driver → Origin → Role → Transfer → Bool → Bool
still_out driver o role t out = if is_answer driver o role t then false else out
