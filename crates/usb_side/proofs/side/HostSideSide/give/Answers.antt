use Rattle.usb_side.proofs.Knowing.{is_urb, is_pending}
use Rattle.usb_side.proofs.Calls.{give_leaves, give_keeps, give_none}
use Rattle.usb_side.proofs.side.HostSideSide.give.Goals as goal

pub give-requires-clause-urb : goal.give-requires-clause-urb
give-requires-clause-urb g c = is_urb (g.H.Host.machine c.args.self.now.host.now) (g.H.Host.known (g.H.Server.Token.own c.args.self.now.server)) c.requires.whole.whole.number c.requires.whole.sound c.args.urb.0 c.requires.pending

pub give-requires-clause-pending : goal.give-requires-clause-pending
give-requires-clause-pending g c = is_pending (g.H.Host.machine c.args.self.now.host.now) (g.H.Host.known (g.H.Server.Token.own c.args.self.now.server)) c.requires.whole.whole.number c.requires.whole.sound c.args.urb.0 c.requires.pending

pub returns-clause-leaves : goal.returns-clause-leaves
returns-clause-leaves g c = give_leaves (g.H.Host.machine c.args.self.now.host.now) (g.H.Host.known (g.H.Server.Token.own c.args.self.now.server)) (g.H.Host.known (g.H.Server.Token.own c.give.new.server)) c.requires.whole.whole.number c.requires.whole.sound c.args.urb _ c.give.ensures.fresh c.requires.pending _ _ _ _ _ _

pub returns-clause-keeps : goal.returns-clause-keeps
returns-clause-keeps g c = give_keeps (g.H.Host.machine c.args.self.now.host.now) (g.H.Host.known (g.H.Server.Token.own c.args.self.now.server)) (g.H.Host.known (g.H.Server.Token.own c.give.new.server)) c.requires.whole.whole.number c.requires.whole.sound c.args.urb _ c.give.ensures.fresh c.requires.pending _ _ _ _ _ _

pub returns-clause-none : goal.returns-clause-none
returns-clause-none g c = give_none (g.H.Host.machine c.args.self.now.host.now) (g.H.Host.known (g.H.Server.Token.own c.args.self.now.server)) (g.H.Host.known (g.H.Server.Token.own c.give.new.server)) c.requires.whole.whole.number c.requires.whole.sound c.args.urb _ c.give.ensures.fresh c.requires.pending _ _ _ _ _ _
