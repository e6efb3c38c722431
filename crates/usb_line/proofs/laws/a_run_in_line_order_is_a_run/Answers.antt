use Rattle.usb_line.proofs.Lines.{line_is_run}
use Rattle.usb_line.proofs.laws.a_run_in_line_order_is_a_run.Goals as goal

pub returns : goal.returns
returns c = λ s f good line. line_is_run s good f line
