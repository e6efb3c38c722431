use Rattle.std.proofs.Common.{◌≡◌, Some, None, ap, ◌∙◌, sym, subst}
use mathlib.Core.Option.{some, some-injective}
use Rattle.std.specs.Slots.{slots_items}
use Rattle.usb_turn.specs.Held.{keyed}
use Rattle.usb_turn.proofs.Gathering.{closes}
use Rattle.usb_turn.proofs.turns.Turns.close.Goals as goal

pub unreachable-requires : goal.unreachable-requires
unreachable-requires g c =
    let shared = c.args.self.table.shared in
    let seat = c.gather-seat.result in
    let closed = c.close_with-closed.result in
    let found = closes shared.table_id shared.key.passes (keyed g.V.Kept.stands g.V.Kept.key (λ k. k ≡ g.V.Kept.key shared.key.first.value)) g.V.Kept.by seat.id seat.me.0 (slots_items closed.words) (slots_items closed.slots) c.args.passes.items
    c.close_with-closed.ensures.values.2 c.requires c.gather-seat.ensures.gathered c.gather-seat.ensures.seat.1 c.gather-seat.ensures.all in
    let same : None ≡ Some found.0 = some-injective None (Some found.0) (ap some (sym c.in_default.is) ∙ (sym c.take.ensures.value ∙ found.1)) in
    absurd (cc)

pub returns : goal.returns
returns g c =
    let shared = c.args.self.table.shared in
    let seat = c.gather-seat.result in
    let closed = c.close_with-closed.result in
    let found = closes shared.table_id shared.key.passes (keyed g.V.Kept.stands g.V.Kept.key (λ k. k ≡ g.V.Kept.key shared.key.first.value)) g.V.Kept.by seat.id seat.me.0 (slots_items closed.words) (slots_items closed.slots) c.args.passes.items
    c.close_with-closed.ensures.values.2 c.requires c.gather-seat.ensures.gathered c.gather-seat.ensures.seat.1 c.gather-seat.ensures.all in
    let same : Some c.in-Some.value ≡ Some found.0 = some-injective (Some c.in-Some.value) (Some found.0) (ap some (sym c.in-Some.is) ∙ (sym c.take.ensures.value ∙ found.1)) in
    let value : c.in-Some.value ≡ found.0 = cc in
    (found.2.0, subst (λ x. g.V.Kept.stands x found.2.0) (sym value) found.2.1.0, ap g.V.Kept.key value ∙ found.2.1.1, found.2.2)
