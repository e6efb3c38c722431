use Rattle.std.proofs.Common.{arith}
use Rattle.usb_turn.proofs.Telling.{fills}
use Rattle.usb_turn.proofs.turns.Turns.fill.Goals as goal

pub load-requires : goal.load-requires
load-requires g c =
    let h = c.args.self.now.sized in
    let shared = c.args.self.now.table.shared in
    let seat = c.args.seat.now in (
      c.requires.here,
      omega arith,
      fills g.V.Kept.stands g.V.Kept.key g.N.Told.is_key (g.V.Kept.key shared.key.first.value) c.requires.key g.V.Kept.by shared.key.passes g.N.Told.passes shared.table_id.slots seat.id seat.me c.requires.passes c.requires.idle c.requires.all,
    )
