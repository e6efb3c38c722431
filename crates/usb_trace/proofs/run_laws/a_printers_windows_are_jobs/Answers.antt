use Rattle.usb_trace.proofs.Jobs.{are_jobs}
use Rattle.usb_trace.proofs.Heard.{are_heard}
use Rattle.usb_trace.proofs.run_laws.a_printers_windows_are_jobs.Goals as goal

pub returns-clause-heard : goal.returns-clause-heard
returns-clause-heard c = λ s h call_records rounds run u writer. are_heard s u writer rounds

pub returns-clause-jobs : goal.returns-clause-jobs
returns-clause-jobs c = are_jobs
