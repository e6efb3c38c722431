use Rattle.usb_side.proofs.Over.{rest_still}
use Rattle.usb_side.proofs.handlers.ServerSideHandlerSide.rest.Goals as goal

pub returns-clause-still : goal.returns-clause-still
returns-clause-still g c = rest_still (g.H.Host.machine c.args.self.now.host.now) (g.H.Host.known (g.H.Server.Token.own c.args.self.now.server.now)) (g.H.Host.known (g.H.Server.Token.own c.rest.new.server)) _ _ c.requires.whole.whole.number c.requires.whole.whole.bottom c.requires.whole.sound
    (record { here = c.rest.ensures.here; whole = c.rest.ensures.whole; sound = c.rest.ensures.fresh.sound }) _ _ _ _ c.rest.ensures.fresh
