use Rattle.usb_text.proofs.Back.{words-spaced}
use Rattle.usb_text.proofs.laws.words_read_back.Goals as goal

pub returns : goal.returns
returns c = words-spaced
