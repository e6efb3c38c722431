use Rattle.std.proofs.Common.{◌≡◌, ap, ◌∙◌, sym, arith}
use Rattle.usb_turn.specs.Held.{keyed}
use Rattle.usb_turn.specs.Rows.{number_of, mine_of}
use Rattle.usb_turn.proofs.Telling.{tells}
use Rattle.usb_turn.proofs.Sitting.{has_number, sits_met, number_met}
use Rattle.usb_turn.proofs.turns.Turns.meet.Goals as goal
use Rattle.usb_turn.proofs.turns.Turns.meet.Goals.{After-hear}

pub split_seat-note-requires : goal.split_seat-note-requires
split_seat-note-requires g c =
    let h = c.args.self.now.sized in
    let shared = c.args.self.now.table.shared in
    let seat = c.other.inside.seat in
    (ap (λ p. p.table) c.other.view_is ∙ c.requires.other.0, omega arith, tells (keyed g.V.Kept.stands g.V.Kept.key (λ k. k ≡ g.V.Kept.key shared.key.first.value)) g.V.Kept.by shared.key.passes shared.table_id.slots seat.id seat.me.0)

pub hear-requires-clause-pass : goal.hear-requires-clause-pass
hear-requires-clause-pass g c =
    let m = c.pass.inside.seat.me in
    (number_of m.0.parts, mine_of m.0.parts, has_number g.V.Kept.stands g.V.Kept.by c.pass.inside.rows m c.pass.invariant.0)

pub invariant_of-pass : goal.invariant_of-pass
invariant_of-pass g c = (
  sits_met g.V.Kept.stands g.V.Kept.by c.pass.inside.rows c.pass.inside.seat.me c.hear.new.seat.me c.split_seat-note.result.me.0 c.other.inside.seat.me.0.seen c.pass.invariant.0 c.other.invariant.0.stood
      (ap (λ p. p.has) c.pass.view_is ∙ c.requires.pass.1) (ap (λ m. m.0) c.split_seat-note.ensures.4) c.hear.ensures.compared c.hear.ensures.heard,
  c.pass.invariant.1 ∙ sym (number_met c.pass.inside.seat.me c.hear.new.seat.me c.split_seat-note.result.me.0 c.other.inside.seat.me.0.seen (ap (λ m. m.0) c.split_seat-note.ensures.4) c.hear.ensures.heard),
)

pub returns-clause-own : goal.returns-clause-own
returns-clause-own g c =
    let s = sits_met g.V.Kept.stands g.V.Kept.by c.pass.inside.rows c.pass.inside.seat.me c.hear.new.seat.me c.split_seat-note.result.me.0 c.other.inside.seat.me.0.seen c.pass.invariant.0 c.other.invariant.0.stood
    (ap (λ p. p.has) c.pass.view_is ∙ c.requires.pass.1) (ap (λ m. m.0) c.split_seat-note.ensures.4) c.hear.ensures.compared c.hear.ensures.heard in
    s.own
