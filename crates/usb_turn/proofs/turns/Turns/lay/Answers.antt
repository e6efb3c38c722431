use Rattle.std.proofs.Common.{◌≡◌, ap, sym}
use Rattle.usb_turn.specs.Held.{keyed}
use Rattle.usb_turn.proofs.Dealing.{opens}
use Rattle.usb_turn.proofs.turns.Turns.lay.Goals as goal

pub new-requires : goal.new-requires
new-requires g c =
    let first = c.of-first.result.value in
    opens (keyed g.V.Kept.stands g.V.Kept.key (λ k. k ≡ g.V.Kept.key first)) g.V.Kept.by c.args.passes c.args.value c.in_ok-slots.slots.items
    (c.requires.stands, ap g.V.Kept.key (sym c.of-first.ensures)) c.in_ok-slots.ensures
