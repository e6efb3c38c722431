use Rattle.std.proofs.Common.{◌≡◌, [], ◌∷◌, ◌++◌}
use Rattle.usb_turn.specs.Held.{keyed}
use Rattle.usb_turn.proofs.Gathering.{ends_all}
use Rattle.usb_turn.proofs.turns.Turns.end.Goals as goal

pub returns-clause-closes : goal.returns-clause-closes
returns-clause-closes g c =
    let shared = c.args.self.table.shared in
    ends_all (keyed g.V.Kept.stands g.V.Kept.key (λ k. k ≡ g.V.Kept.key shared.key.first.value)) g.V.Kept.by shared.table_id shared.key.passes c.gather_beside-seat.result.me c.fill_all.new.seat.me ((c.args.passes.items ++ c.args.b ∷ []) ++ c.args.a ∷ [])
    c.fill_all.ensures.filled c.requires c.gather_beside-seat.ensures.gathered
