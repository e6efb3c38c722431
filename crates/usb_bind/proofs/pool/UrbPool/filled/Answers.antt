use Rattle.std.proofs.Common.{◌≡◌, ◌^◌, ◌<◌, None, replicate, ap, ◌∙◌, rules, arith}
use Rattle.std.specs.Prelude.{nat_lt}
use Rattle.std.specs.BinaryHeap.{heap_items, heap_capacity}
use Rattle.usb_bind.proofs.Spare.{one_if, holds_next, held_at_first}
use Rattle.usb_bind.proofs.pool.UrbPool.filled.Goals as goal

pub loop-number-preserved : goal.loop-number-preserved
loop-number-preserved c =
    holds_next c.loop-number.number c.args.limit (heap_items c.loop-number.spare) (heap_items c.push.new.self) (heap_capacity c.loop-number.spare) (heap_capacity c.push.new.self)
    c.loop-number.invariant c.in_ok-push.ensures.permutation c.in_ok-push.ensures.capacity (c.in_ok-push.ensures.heap_order c.loop-number.invariant.ordered)

pub invariant_of-result : goal.invariant_of-result
invariant_of-result c =
    let inv = c.loop-number.invariant in
    let limit = c.args.limit in
    let all : c.loop-number.number ≡ limit = omega arith in
    let few : limit < 2 ^ 32 = omega arith in
    let items : c.in_ok-vec.field-0.items ≡ replicate limit None = search rules in
    rw items
    (held_at_first limit (heap_capacity c.loop-number.spare) (heap_items c.loop-number.spare) few inv.room (inv.count ∙ all)
    (λ n. inv.each n ∙ ap (λ m. one_if (nat_lt n m)) all) inv.ordered)
