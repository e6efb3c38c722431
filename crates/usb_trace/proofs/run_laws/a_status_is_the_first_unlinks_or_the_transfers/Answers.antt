use Rattle.usb_trace.proofs.OneStatus.{status_of_first}
use Rattle.usb_trace.proofs.run_laws.a_status_is_the_first_unlinks_or_the_transfers.Goals as goal

pub returns : goal.returns
returns c = status_of_first
