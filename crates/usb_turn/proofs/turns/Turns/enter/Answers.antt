use Rattle.std.proofs.Common.{ap, ◌∙◌, Some}
use Rattle.usb_turn.proofs.Turning.{one_rest}
use Rattle.usb_turn.proofs.turns.Turns.enter.Goals as goal

pub exchange-requires : goal.exchange-requires
exchange-requires g c =
    let t = c.take.ensures.took in (
      c.take.ensures.same.0 ∙ (ap (λ p. p.table) c.pass.view_is ∙ c.requires.here.0),
      (Some t.value, one_rest c.take.new.seat.me.1 (Some t.value) (ap (λ w. w.1) t.view)),
    )
