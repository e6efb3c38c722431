use Rattle.std.proofs.Common.{refl}
use Rattle.usb_threads.proofs.Going.{may_go_on}
use Rattle.usb_threads.proofs.laws.a_script_may_go_on.Goals as goal

pub returns : goal.returns
returns c = λ s p i c down good may. may_go_on s good i may.thread may.at p c down may refl
