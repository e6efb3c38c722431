use Rattle.usb_printer.proofs.Whole.{one_line}
use Rattle.usb_printer.proofs.laws.a_job_has_one_line.Goals as goal

pub returns : goal.returns
returns c = one_line
