use Rattle.std.proofs.lemmas.List.{take_rest}
use Rattle.usb_text.proofs.Splits.{raw_lines_next}
use Rattle.usb_text.proofs.lines.next_line.Goals as goal

pub returns-clause-lines : goal.returns-clause-lines
returns-clause-lines c = simp take_rest (raw_lines_next _ _ _ c.requires c.line_len-len.ensures.exact c.min-behind.ensures)
