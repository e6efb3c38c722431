use Rattle.usb_threads.proofs.Together.{together_is_run}
use Rattle.usb_threads.proofs.laws.promises_make_a_run.Goals as goal

pub returns : goal.returns
returns c = λ s h made rounds good all. together_is_run s h made rounds good all
