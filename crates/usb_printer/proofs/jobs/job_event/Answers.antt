use Rattle.std.proofs.Common.{rules}
use Rattle.usb_printer.proofs.jobs.job_event.Goals as goal

pub returns : goal.returns
returns c = search rules
