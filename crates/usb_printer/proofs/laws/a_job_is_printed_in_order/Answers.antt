use Rattle.usb_printer.proofs.Whole.{printed_in_order}
use Rattle.usb_printer.proofs.laws.a_job_is_printed_in_order.Goals as goal

pub returns : goal.returns
returns c = printed_in_order
