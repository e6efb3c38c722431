use Rattle.std.proofs.Common.{◌≡◌, arith}
use Rattle.usb_turn.specs.Held.{keyed}
use Rattle.usb_turn.proofs.Turning.{counts}
use Rattle.usb_turn.proofs.turns.Turns.add.Goals as goal

pub fetch_add-requires : goal.fetch_add-requires
fetch_add-requires g c =
    let h = c.args.self.now.sized in
    let one = c.requires.one in
    let seat = c.args.seat.now in (
      c.requires.here,
      omega arith,
      rw one.1 (counts (keyed g.V.Kept.stands g.V.Kept.key (λ k. k ≡ g.V.Kept.key c.args.self.now.table.shared.key.first.value)) g.V.Kept.by c.args.self.now.table.shared.key.passes c.args.self.now.table.shared.table_id.slots seat.id seat.me.0 seat.me.1 one.0 c.requires.has.0 c.requires.has.1 one.2),
    )
