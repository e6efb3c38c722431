use Rattle.usb_threads.proofs.Giving.{gives_more, gives_none}
use Rattle.usb_threads.proofs.laws.a_turn_keeps_the_promise.Goals as goal

pub returns-clause-more : goal.returns-clause-more
returns-clause-more c = λ s rounds p q r number sound old gave. gives_more s rounds p q number sound old r gave

pub returns-clause-none : goal.returns-clause-none
returns-clause-none c = λ s rounds p q number sound old nothing. gives_none s rounds p q number sound old nothing
