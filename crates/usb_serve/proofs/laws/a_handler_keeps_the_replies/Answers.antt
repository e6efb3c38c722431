use Rattle.usb_serve.proofs.Handled.{completed_so}
use Rattle.usb_serve.proofs.laws.a_handler_keeps_the_replies.Goals as goal

pub returns : goal.returns
returns g c = λ x y u code t r h i d so whole done a s. completed_so g.H.Handler.completes g.H.Handler.asks g.H.Handler.unasks whole.0 d so whole.1 u code t x y h i r whole.2 done a s
