use Rattle.usb_side.proofs.Handling.{came_replies}
use Rattle.usb_side.proofs.Learning.{came_first}
use Rattle.usb_side.proofs.laws.a_completion_keeps_the_replies.Goals as goal

pub returns : goal.returns
returns g c = λ x s z u code t h k r d so came a is.
    let own = g.H.Server.Token.own in
    let p = g.H.Host.known (own s) in
    let q = g.H.Host.known (own z) in (
      came_replies (g.H.Host.machine x) g.K.Handler.completes g.K.Handler.asks g.K.Handler.unasks p q u code t h r k d a.whole.whole.number a.whole.sound came
          _ (g.H.Server.ServerToken.given z) _ _ _ (λ v. g.H.Serves.is_settled x z v) so a is,
      came_first (g.H.Host.machine x) g.K.Handler.completes g.K.Handler.asks g.K.Handler.unasks p q u code t h r k d a.whole.whole.number a.whole.sound came _ _ _ a,
    )
