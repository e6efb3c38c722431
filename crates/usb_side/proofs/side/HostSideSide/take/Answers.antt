use Rattle.usb_side.proofs.Calls.{take_keeps, take_none, take_taken}
use Rattle.usb_side.proofs.side.HostSideSide.take.Goals as goal

pub returns-clause-taken : goal.returns-clause-taken
returns-clause-taken g c = take_taken (g.H.Host.machine c.args.self.now.host.now) (g.H.Host.known (g.H.Server.Token.own c.args.self.now.server)) (g.H.Host.known (g.H.Server.Token.own c.take.new.server)) c.requires.whole.whole.number c.requires.whole.sound c.args.ep c.take.result _ c.take.ensures.took _ _ _

pub returns-clause-keeps : goal.returns-clause-keeps
returns-clause-keeps g c = take_keeps (g.H.Host.machine c.args.self.now.host.now) (g.H.Host.known (g.H.Server.Token.own c.args.self.now.server)) (g.H.Host.known (g.H.Server.Token.own c.take.new.server)) c.requires.whole.whole.number c.requires.whole.sound c.args.ep c.take.result _ c.take.ensures.took _ _ _ _ _ _

pub returns-clause-none : goal.returns-clause-none
returns-clause-none g c = take_none (g.H.Host.machine c.args.self.now.host.now) (g.H.Host.known (g.H.Server.Token.own c.args.self.now.server)) (g.H.Host.known (g.H.Server.Token.own c.take.new.server)) c.requires.whole.whole.number c.requires.whole.sound c.args.ep c.take.result _ c.take.ensures.took _ _ _ _ _ _
