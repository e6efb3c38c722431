use Rattle.usb_threads.proofs.TurnDue.{parts_due}
use Rattle.usb_threads.proofs.laws.a_turn_keeps_what_is_due.Goals as goal

pub returns : goal.returns
returns c = λ s seen rounds p q before after so mid now given first start later good apt due starts went ends left.
    parts_due s seen rounds p q before after so mid now given first start later good apt due starts went ends left
