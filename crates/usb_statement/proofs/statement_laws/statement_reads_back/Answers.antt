use Rattle.usb_statement.proofs.BackLines.{back_words}
use Rattle.usb_statement.proofs.statement_laws.statement_reads_back.Goals as goal

pub returns : goal.returns
returns c = back_words
