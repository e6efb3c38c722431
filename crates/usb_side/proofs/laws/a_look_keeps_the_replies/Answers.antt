use Rattle.usb_side.proofs.Learning.{learned}
use Rattle.usb_side.proofs.laws.a_look_keeps_the_replies.Goals as goal

pub returns : goal.returns
returns g c = λ h s t so x look whole a so_x. learned _ _ _ a.whole.whole.number a.whole.sound x _ _ _ a look _ _ _ whole so so_x
