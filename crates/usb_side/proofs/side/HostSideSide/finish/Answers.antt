use Rattle.usb_side.proofs.Knowing.{is_urb, is_first, first_there}
use Rattle.usb_side.proofs.Calls.{finish_keeps, finish_only, finish_late, finish_unmarked}
use Rattle.usb_side.proofs.side.HostSideSide.finish.Goals as goal

pub finish-requires-clause-urb : goal.finish-requires-clause-urb
finish-requires-clause-urb g c = is_urb (g.H.Host.machine c.args.self.now.host.now) (g.H.Host.known (g.H.Server.Token.own c.args.self.now.server)) c.requires.whole.whole.number c.requires.whole.sound c.args.urb.0 (first_there (g.H.Host.machine c.args.self.now.host.now) (g.H.Host.known (g.H.Server.Token.own c.args.self.now.server)) c.requires.whole.whole.number c.requires.whole.sound c.args.urb.0 c.requires.first)

pub finish-requires-clause-first : goal.finish-requires-clause-first
finish-requires-clause-first g c = is_first (g.H.Host.machine c.args.self.now.host.now) (g.H.Host.known (g.H.Server.Token.own c.args.self.now.server)) c.requires.whole.whole.number c.requires.whole.sound c.args.urb.0 c.requires.first

pub returns-clause-late : goal.returns-clause-late
returns-clause-late g c = λ late. finish_late (g.H.Host.machine c.args.self.now.host.now) (g.H.Host.known (g.H.Server.Token.own c.args.self.now.server)) (g.H.Host.known (g.H.Server.Token.own c.finish.new.server)) c.requires.whole.whole.number c.requires.whole.sound c.args.urb c.args.code c.finish.result c.finish.ensures.fresh late _ _ _ _ _ _

pub returns-clause-keeps : goal.returns-clause-keeps
returns-clause-keeps g c = finish_keeps (g.H.Host.machine c.args.self.now.host.now) (g.H.Host.known (g.H.Server.Token.own c.args.self.now.server)) (g.H.Host.known (g.H.Server.Token.own c.finish.new.server)) c.requires.whole.whole.number c.requires.whole.sound c.args.urb c.args.code c.finish.result c.finish.ensures.fresh _ _ _ _ _ _

pub returns-clause-only : goal.returns-clause-only
returns-clause-only g c = finish_only (g.H.Host.machine c.args.self.now.host.now) (g.H.Host.known (g.H.Server.Token.own c.args.self.now.server)) (g.H.Host.known (g.H.Server.Token.own c.finish.new.server)) c.requires.whole.whole.number c.requires.whole.sound c.args.urb c.args.code c.finish.result c.finish.ensures.fresh _ _ _ _ _ _

pub returns-clause-unmarked : goal.returns-clause-unmarked
returns-clause-unmarked g c = finish_unmarked (g.H.Host.machine c.args.self.now.host.now) (g.H.Host.known (g.H.Server.Token.own c.args.self.now.server)) (g.H.Host.known (g.H.Server.Token.own c.finish.new.server)) c.requires.whole.whole.number c.requires.whole.sound c.args.urb c.args.code c.finish.result c.finish.ensures.fresh
