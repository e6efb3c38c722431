use Rattle.std.proofs.Common.{◌≡◌, true, get_or, take, Some, sym, ap, ◌∙◌, arith}
use Rattle.std.specs.Prelude.{fold}
use Rattle.usb_desc.specs.declared.tree.End.{End}
use Rattle.usb_bind.specs.Interfaces.{joins, joined}
use Rattle.usb_bind.proofs.EndWalk.{placed_first}
use Rattle.usb_bind.proofs.ends.place_among.Goals as goal

pub returns-then-end-address-clause-place : goal.returns-then-end-address-clause-place
returns-then-end-address-clause-place c so_far knows lacks =
    let i = c.loop-end.end-index in
    let ends = c.args.ends.now in
    let e = c.end-item.result in
    let before = fold joined so_far (take i ends) in
    let inv = c.loop-end.invariant so_far knows lacks in
    let next = c.joins.ensures.next before inv.0 in
    let is : get_or ends i e ≡ e = sym c.end-item.is in
    let new : joins before (get_or ends i e) ≡ true = ap (joins before) is ∙ sym next.0 ∙ c.if-joins.true in
    let here : (get_or ends i e).address ≡ c.args.address = ap (λ (f : End). f.address) is ∙ c.if-end-address.true in
    placed_first so_far ends i e c.args.address (omega arith) inv.1 new here ∙ ap Some (sym inv.0.counted)
