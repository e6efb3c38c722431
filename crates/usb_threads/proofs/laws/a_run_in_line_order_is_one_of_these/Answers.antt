use Rattle.usb_threads.proofs.Back.{line_is_together}
use Rattle.usb_threads.proofs.laws.a_run_in_line_order_is_one_of_these.Goals as goal

pub returns : goal.returns
returns c = λ s f good line. line_is_together s good f line
