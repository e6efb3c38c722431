use Rattle.std.proofs.Common.{◌<◌, sym, ap, ◌∙◌, subst, length, arith, get_or, drop}
use Rattle.usb_turn.specs.Shown.{id_of}
use Rattle.usb_turn_host.specs.Stock.{IsSetup}
use Rattle.usb_turn_host.specs.declared.stock.Stock.{Stock}
use Rattle.usb_turn_host.proofs.Beginning.{dealt_two}
use Rattle.usb_turn_host.proofs.opens.turns.Goals as goal

pub returns-clause-key : goal.returns-clause-key
returns-clause-key c = subst (λ (s : Stock). IsSetup c.args.layout.now c.args.passes s.setup) (sym c.in-Ok.ensures.1) c.in_ok-stock.ensures.setup

pub remove-first-requires : goal.remove-first-requires
remove-first-requires c =
    let two = c.in-Ok.ensures.2 ∙ dealt_two (id_of c.in-Ok.turns) c.args.passes in
    subst (λ n. 0 < n) (sym (c.in-Ok.all.ok.0 ∙ ap length two)) (omega arith)

pub returns-clause-first : goal.returns-clause-first
returns-clause-first c =
    let two = c.in-Ok.ensures.2 ∙ dealt_two (id_of c.in-Ok.turns) c.args.passes in (
      c.remove-first.ensures.value ∙ ap (λ l. get_or l 0 c.remove-first.result) two,
      c.remove-second.ensures.value ∙ ap (λ l. get_or l 0 c.remove-second.result) (c.remove-first.ensures.items ∙ ap (drop 1) two),
    )

pub returns-clause-others : goal.returns-clause-others
returns-clause-others c =
    let two = c.in-Ok.ensures.2 ∙ dealt_two (id_of c.in-Ok.turns) c.args.passes in
    c.remove-second.ensures.items ∙ (ap (drop 1) c.remove-first.ensures.items ∙ ap (λ l. drop 1 (drop 1 l)) two)
