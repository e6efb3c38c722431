use Rattle.std.proofs.Common.{◌≡◌, ap, ◌∙◌, arith}
use Rattle.usb_turn.specs.Held.{keyed}
use Rattle.usb_turn.proofs.Telling.{joins, compares}
use Rattle.usb_turn.proofs.turns.Turns.hear.Goals as goal

pub join_seat-requires : goal.join_seat-requires
join_seat-requires g c =
    let h = c.args.self.now.sized in
    let shared = c.args.self.now.table.shared in
    let r = c.requires in
    let seat = c.args.seat.now in (
      r.here.0,
      r.here.1,
      r.idle.0,
      omega arith,
      joins (keyed g.V.Kept.stands g.V.Kept.key (λ k. k ≡ g.V.Kept.key shared.key.first.value)) g.V.Kept.by shared.key.passes shared.table_id.slots seat.id seat.me.0 c.args.other.me.0 c.args.other.id r.pass.0 r.pass.1 r.idle.2 r.idle.1 r.pass.2 r.plain,
    )

pub load-requires : goal.load-requires
load-requires g c =
    let h = c.args.self.now.sized in
    let shared = c.args.self.now.table.shared in
    let seat = c.join_seat.new.seat in (
      c.join_seat.ensures.0 ∙ c.requires.here.0,
      omega arith,
      compares (keyed g.V.Kept.stands g.V.Kept.key (λ k. k ≡ g.V.Kept.key shared.key.first.value)) g.V.Kept.by shared.key.passes shared.table_id.slots seat.id seat.me (ap (λ m. m.0.has) c.join_seat.ensures.2 ∙ c.requires.idle.2),
    )
