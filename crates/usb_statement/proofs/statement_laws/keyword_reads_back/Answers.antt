use Rattle.usb_statement.proofs.BackLines.{back_keyword}
use Rattle.usb_statement.proofs.statement_laws.keyword_reads_back.Goals as goal

pub returns : goal.returns
returns c = back_keyword
