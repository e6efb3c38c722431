use Rattle.usb_serve.proofs.Awake.{so_awake}
use Rattle.usb_side.proofs.Learning.{first_awake}
use Rattle.usb_side.proofs.laws.a_wake_keeps_the_replies.Goals as goal

pub returns : goal.returns
returns g c = λ h s so x y is so_x. (so_awake _ so x.ends.items y.ends.items is so_x, first_awake (g.H.Host.known (g.H.Server.Token.own s)).seen x.ends.items y.ends.items is)
