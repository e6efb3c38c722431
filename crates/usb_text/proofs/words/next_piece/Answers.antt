use Rattle.std.proofs.Common.{arith}
use Rattle.std.proofs.lemmas.List.{take_rest}
use Rattle.usb_text.proofs.Splits.{all_words_none, all_words_next}
use Rattle.usb_text.proofs.words.next_piece.Goals as goal

pub returns-then-gap-line-clause-none : goal.returns-then-gap-line-clause-none
returns-then-gap-line-clause-none c = all_words_none _ _ c.gap_len-gap.ensures.exact (omega arith)

pub returns-clause-word : goal.returns-clause-word
returns-clause-word c =
    simp take_rest (all_words_next _ _ _ c.gap_len-gap.ensures.exact (omega arith) (simp take_rest at c.word_len-len.ensures.exact))
