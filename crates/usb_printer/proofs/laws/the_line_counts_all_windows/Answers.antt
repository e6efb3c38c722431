use Rattle.usb_printer.proofs.Whole.{all_counted}
use Rattle.usb_printer.proofs.laws.the_line_counts_all_windows.Goals as goal

pub returns : goal.returns
returns c = all_counted
