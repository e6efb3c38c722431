use Rattle.usb_statement.proofs.SaidLines.{said_sayable}
use Rattle.usb_statement.proofs.statement_laws.a_read_line_can_be_printed.Goals as goal

pub returns : goal.returns
returns c = said_sayable
