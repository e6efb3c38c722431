use Rattle.std.proofs.Common.{◌≡◌, arith}
use Rattle.usb_turn.specs.Held.{keyed}
use Rattle.usb_turn.proofs.Dealing.{deals_seat}
use Rattle.usb_turn.proofs.turns.Turns.deal.Goals as goal

pub split_seat-pass-requires : goal.split_seat-pass-requires
split_seat-pass-requires g c =
    let h = c.args.self.now.sized in
    let d = c.requires.dealer in
    let shared = c.args.self.now.table.shared in
    let seat = c.args.seat.now in
    (c.requires.here, omega arith, deals_seat (keyed g.V.Kept.stands g.V.Kept.key (λ k. k ≡ g.V.Kept.key shared.key.first.value)) g.V.Kept.by shared.key.passes shared.table_id.slots seat.id seat.me d.0 d.1 d.2)
