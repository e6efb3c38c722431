use Rattle.usb_statement.proofs.Ink.{line_is_words, line_is_plain}
use Rattle.usb_statement.proofs.statement_laws.a_printed_line_is_words.Goals as goal

pub returns-clause-words : goal.returns-clause-words
returns-clause-words c = line_is_words

pub returns-clause-plain : goal.returns-clause-plain
returns-clause-plain c = line_is_plain
