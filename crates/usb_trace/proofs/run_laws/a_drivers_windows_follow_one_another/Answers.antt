use Rattle.usb_trace.proofs.Windows.{windows_follow}
use Rattle.usb_trace.proofs.run_laws.a_drivers_windows_follow_one_another.Goals as goal

pub returns : goal.returns
returns c = windows_follow
