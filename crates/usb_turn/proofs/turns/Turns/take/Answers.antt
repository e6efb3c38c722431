use Rattle.std.proofs.Common.{◌≡◌, arith, ◌∙◌, ne_eqb}
use Rattle.usb_turn.specs.Held.{keyed}
use Rattle.usb_turn.proofs.Turning.{takes_seat, takes_told}
use Rattle.usb_turn.proofs.turns.Turns.take.Goals as goal

pub compare_exchange-requires : goal.compare_exchange-requires
compare_exchange-requires g c =
    let h = c.args.self.now.sized in
    let same = c.loop.invariant.2 in
    let idle = c.requires.idle in (
      same.0 ∙ c.requires.here,
      omega arith,
      takes_told g.V.Kept.stands g.V.Kept.key g.N.Told.is_key (g.V.Kept.key c.args.self.now.table.shared.key.first.value) c.requires.key g.V.Kept.by c.args.self.now.table.shared.key.passes c.args.self.now.table.shared.table_id.slots c.loop.seat.id c.loop.seat.me (takes_seat (keyed g.V.Kept.stands g.V.Kept.key (λ k. k ≡ g.V.Kept.key c.args.self.now.table.shared.key.first.value)) g.V.Kept.by c.args.self.now.table.shared.key.passes c.args.self.now.table.shared.table_id.slots c.loop.seat.id c.loop.seat.me (rw same.2 idle.0) (rw same.2 idle.1) (rw same.2 idle.2)),
    )

pub loop-preserved : goal.loop-preserved
loop-preserved g c =
    let e = c.compare_exchange.ensures in
    let miss = rw (ne_eqb c.compare_exchange.result 0 c.if-compare_exchange-eq0.false) at e.2 in
    let same = c.loop.invariant.2 in
    (tt, tt, (e.0 ∙ same.0, e.1 ∙ same.1, miss ∙ same.2))
