use Rattle.usb_serve.proofs.Awake.{so_awake}
use Rattle.usb_serve.proofs.laws.a_wake_keeps_the_replies.Goals as goal

pub returns : goal.returns
returns g c = λ s so x y is a. so_awake (g.S.Side.knows s) so x.ends.items y.ends.items is a
