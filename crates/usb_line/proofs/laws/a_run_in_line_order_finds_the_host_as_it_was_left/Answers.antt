use Rattle.usb_line.proofs.Lines.{line_downs}
use Rattle.usb_line.proofs.laws.a_run_in_line_order_finds_the_host_as_it_was_left.Goals as goal

pub returns : goal.returns
returns c = λ s f good line. line_downs s good f line
