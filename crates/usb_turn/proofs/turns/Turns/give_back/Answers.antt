use Rattle.std.proofs.Common.{◌≡◌, ◌++◌, true, ap, ◌∙◌, sym, subst, arith}
use Rattle.usb_turn.specs.Held.{keyed}
use Rattle.usb_turn.specs.Pass.{AtMostOne}
use Rattle.usb_turn.proofs.Turning.{leaves_seat}
use Rattle.usb_turn.proofs.Sitting.{sits_left, number_left}
use Rattle.usb_turn.proofs.turns.Turns.give_back.Goals as goal

pub store-requires : goal.store-requires
store-requires g c =
    let h = c.args.self.now.sized in
    let r = c.requires.1.1.1 in
    let e = c.exchange.ensures in
    let a = c.count.ensures in
    let was = c.pass.inside.seat in
    let has : was.me.0.has ≡ true = ap (λ p. p.has) c.pass.view_is ∙ r.0.1 in (
      e.0 ∙ (a.same.0 ∙ (ap (λ p. p.table) c.pass.view_is ∙ r.0.0)),
      omega arith,
      leaves_seat (keyed g.V.Kept.stands g.V.Kept.key (λ k. k ≡ g.V.Kept.key c.args.self.now.table.shared.key.first.value)) g.V.Kept.by c.args.self.now.table.shared.key.passes c.args.self.now.table.shared.table_id.slots c.exchange.new.seat.id was.me c.count.new.seat.me c.exchange.new.seat.me
          c.args.value g.more (c.pass.invariant.0.busy has).0 has a.added e.3 (subst (λ l. g.V.Kept.stands c.args.value (l ++ g.more)) (sym (ap (λ p. p.seen) c.pass.view_is)) r.1.0, r.1.1.0),
    )

pub invariant_of-pass : goal.invariant_of-pass
invariant_of-pass g c =
    let r = c.requires.1.1.1 in
    let was = c.pass.inside.seat in (
      sits_left g.V.Kept.stands g.V.Kept.by c.pass.inside.rows was.me c.count.new.seat.me c.exchange.new.seat.me c.store.new.seat.me _ c.args.value g.more c.pass.invariant.0
          (subst (λ k. AtMostOne g.V.Kept.by k g.more) (sym (ap (λ p. p.number) c.pass.view_is)) r.1.1.1)
          (subst (λ l. g.V.Kept.stands c.args.value (l ++ g.more)) (sym (ap (λ p. p.seen) c.pass.view_is)) r.1.0)
          c.count.ensures.added c.exchange.ensures.3 c.store.ensures.2,
      c.pass.invariant.1 ∙ sym (number_left was.me c.count.new.seat.me c.exchange.new.seat.me c.store.new.seat.me _ g.more c.count.ensures.added c.exchange.ensures.3 c.store.ensures.2),
    )
