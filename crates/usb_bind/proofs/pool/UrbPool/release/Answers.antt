use Rattle.std.proofs.Common.{◌≡◌, true, sym, ap, ◌∙◌, arith}
use Rattle.std.specs.BinaryHeap.{heap_items, heap_capacity}
use Rattle.usb_bind.specs.Pool.{is_out}
use Rattle.usb_bind.proofs.Spare.{room_to_release, held_released, held_wider, from_ok}
use Rattle.usb_bind.proofs.pool.UrbPool.release.Goals as goal

pub invariant_of-self : goal.invariant_of-self
invariant_of-self c =
    let n = c.args.urb.0 in
    let pool = c.self.inside.homes.items in
    let heap = heap_items c.self.inside.spare in
    let capacity = heap_capacity c.self.inside.spare in
    let out : is_out pool n ≡ true = ap (λ p. is_out p n) c.self.view_is ∙ sym c.if-not-is_out.ensures in
    let room = room_to_release pool capacity n heap c.self.invariant out in
    let ok = c.push.ensures.succeeds (omega (arith, room)) in
    let order = from_ok c.push.result ok c.push.ensures.heap_order c.self.invariant.ordered in
    let moved = from_ok c.push.result ok c.push.ensures.permutation in
    held_wider _ _ capacity _ c.push.ensures.capacity (held_released pool capacity (record { 0 = n }) heap (heap_items c.push.new.self) c.self.invariant out moved order)

pub returns-clause-out : goal.returns-clause-out
returns-clause-out c =
    let out : is_out c.self.inside.homes.items c.args.urb.0 ≡ true = ap (λ p. is_out p c.args.urb.0) c.self.view_is ∙ sym c.if-not-is_out.ensures in
    let room = room_to_release c.self.inside.homes.items (heap_capacity c.self.inside.spare) c.args.urb.0 (heap_items c.self.inside.spare) c.self.invariant out in
    let ok = c.push.ensures.succeeds (omega (arith, room)) in
    c.is_ok.ensures.value ∙ ok ∙ c.if-not-is_out.ensures
