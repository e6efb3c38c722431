use Rattle.usb_acm.proofs.Streams.{notes-whole, notes-none, unfinished-whole, unfinished-none, unfinished-short}
use Rattle.usb_acm.proofs.laws.notes_come_one_after_another.Goals as goal

pub returns-clause-whole : goal.returns-clause-whole
returns-clause-whole c = notes-whole

pub returns-clause-none : goal.returns-clause-none
returns-clause-none c = notes-none

pub returns-clause-behind : goal.returns-clause-behind
returns-clause-behind c = unfinished-whole

pub returns-clause-left : goal.returns-clause-left
returns-clause-left c = unfinished-none

pub returns-clause-short : goal.returns-clause-short
returns-clause-short c = unfinished-short
