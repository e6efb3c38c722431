use Rattle.usb_side.proofs.Knowing.{is_urb, is_pending}
use Rattle.usb_side.proofs.Calls.{look_keeps, look_none, look_clean, found_clean, found_marked}
use Rattle.usb_side.proofs.side.HostSideSide.look.Goals as goal

pub look-requires-clause-urb : goal.look-requires-clause-urb
look-requires-clause-urb g c = is_urb (g.H.Host.machine c.args.self.now.host.now) (g.H.Host.known (g.H.Server.Token.own c.args.self.now.server)) c.requires.whole.whole.number c.requires.whole.sound c.args.urb.0 c.requires.pending

pub look-requires-clause-pending : goal.look-requires-clause-pending
look-requires-clause-pending g c = is_pending (g.H.Host.machine c.args.self.now.host.now) (g.H.Host.known (g.H.Server.Token.own c.args.self.now.server)) c.requires.whole.whole.number c.requires.whole.sound c.args.urb.0 c.requires.pending

pub returns-clause-clean : goal.returns-clause-clean
returns-clause-clean g c = λ is marked. look_clean (g.H.Host.machine c.args.self.now.host.now) (g.H.Host.known (g.H.Server.Token.own c.args.self.now.server)) (g.H.Host.known (g.H.Server.Token.own c.look.new.server)) c.requires.whole.whole.number c.requires.whole.sound c.look.ensures.looked c.args.urb.0 (found_clean _ _ _ is c.look.ensures.finds) marked

pub returns-clause-keeps : goal.returns-clause-keeps
returns-clause-keeps g c = look_keeps (g.H.Host.machine c.args.self.now.host.now) (g.H.Host.known (g.H.Server.Token.own c.args.self.now.server)) (g.H.Host.known (g.H.Server.Token.own c.look.new.server)) c.requires.whole.whole.number c.requires.whole.sound c.look.ensures.looked _ _ _ _ _ _

pub returns-clause-none : goal.returns-clause-none
returns-clause-none g c = look_none (g.H.Host.machine c.args.self.now.host.now) (g.H.Host.known (g.H.Server.Token.own c.args.self.now.server)) (g.H.Host.known (g.H.Server.Token.own c.look.new.server)) c.requires.whole.whole.number c.requires.whole.sound c.look.ensures.looked _ _ _ _ _ _

pub returns-clause-marked : goal.returns-clause-marked
returns-clause-marked g c = λ why is. found_marked _ _ why is c.look.ensures.settled
