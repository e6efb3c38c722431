use Rattle.usb_threads.proofs.WentDue.{went_due}
use Rattle.usb_threads.proofs.DueSoFar.{due_on, due_gave, due_started}
use Rattle.usb_threads.proofs.laws.replies_stay_due.Goals as goal

pub returns-clause-chain : goal.returns-clause-chain
returns-clause-chain c = λ s seen start asked devices after so now good apt shown went. went_due s good seen apt start asked so devices after now shown went

pub returns-clause-on : goal.returns-clause-on
returns-clause-on c = λ s seen rounds start devices after so now good apt old went. due_on s rounds start so devices old good seen apt after now went

pub returns-clause-gave : goal.returns-clause-gave
returns-clause-gave c = λ s rounds start devices so now r old stood. due_gave s rounds start so devices old r now stood

pub returns-clause-started : goal.returns-clause-started
returns-clause-started c = λ s rounds start others devices so old same. due_started s rounds start so devices old others same
