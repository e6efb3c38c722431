use Rattle.usb_trace.proofs.GivenBack.{back_as_often}
use Rattle.usb_trace.proofs.run_laws.each_accepted_urb_is_given_back_once.Goals as goal

pub returns : goal.returns
returns c = back_as_often
