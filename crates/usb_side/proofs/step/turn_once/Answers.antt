use Rattle.std.proofs.Common.{refl}
use Rattle.usb_side.proofs.Turned.{turn_gives, turn_went, turn_same}
use Rattle.usb_side.proofs.step.turn_once.Goals as goal

pub returns-clause-gave : goal.returns-clause-gave
returns-clause-gave g c = turn_gives g.H.Host.machine c.args.side.now.host.now (λ s. s.host.now) (λ s. g.H.Host.known (g.H.Server.Token.own s.server)) _ _ _
    (λ s z e. g.H.Serves.has_none s.host.now (g.H.Server.Token.own s.server) (g.H.Server.Token.own z.server) e) (λ s z u. g.H.Serves.is_marked_soon s.host.now (g.H.Server.Token.own s.server) (g.H.Server.Token.own z.server) u)
    (λ s e r t k. k) (λ s u l t k. k) (λ s u a b t k. k) _ (λ y. g.H.Given.GivenBack.told y) _ _ _ (λ s u b y t k. k) _ _ _ c.turn.result.given _ _ refl c.requires.agrees.whole.whole.number c.requires.agrees.whole.sound (λ e row at. (c.requires.agrees.layout.each e row at).0) c.turn.ensures.turned

pub returns-clause-went : goal.returns-clause-went
returns-clause-went g c = turn_went g.H.Host.machine c.args.side.now.host.now (λ s. s.host.now) (λ s. g.H.Host.known (g.H.Server.Token.own s.server)) _ _ _
    (λ s z e. g.H.Serves.has_none s.host.now (g.H.Server.Token.own s.server) (g.H.Server.Token.own z.server) e) (λ s z u. g.H.Serves.is_marked_soon s.host.now (g.H.Server.Token.own s.server) (g.H.Server.Token.own z.server) u)
    (λ s e r t k. k) (λ s u l t k. k) (λ s u a b t k. k) _ (λ y. g.H.Given.GivenBack.told y) _ _ _ (λ s u b y t k. k) _ _ _ c.turn.result.given _ _ refl c.requires.agrees.whole.whole.number c.requires.agrees.whole.sound
    (λ e row at. (c.requires.agrees.layout.each e row at).0) c.requires.agrees.holds c.turn.ensures.agrees.holds c.turn.ensures.turned_on

pub returns-clause-same : goal.returns-clause-same
returns-clause-same g c = turn_same g.H.Host.machine c.args.side.now.host.now (λ s. s.host.now) (λ s. g.H.Host.known (g.H.Server.Token.own s.server)) _ _ _
    (λ s z e. g.H.Serves.has_none s.host.now (g.H.Server.Token.own s.server) (g.H.Server.Token.own z.server) e) (λ s z u. g.H.Serves.is_marked_soon s.host.now (g.H.Server.Token.own s.server) (g.H.Server.Token.own z.server) u)
    (λ s e r t k. k) (λ s u l t k. k) (λ s u a b t k. k) _ (λ y. g.H.Given.GivenBack.told y) _ _ _ (λ s u b y t k. k) _ _ _ c.turn.result.given _ _ refl c.requires.agrees.whole.whole.number c.requires.agrees.whole.sound c.turn.ensures.turned
