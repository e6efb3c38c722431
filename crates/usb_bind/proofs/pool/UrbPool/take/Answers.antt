use Rattle.std.proofs.Common.{arith}
use Rattle.std.specs.BinaryHeap.{heap_items, heap_capacity}
use Rattle.usb_bind.proofs.Spare.{popped_below, popped_least, held_taken, next_is, taken_is}
use Rattle.usb_bind.proofs.pool.UrbPool.take.Goals as goal

pub index_mut-requires : goal.index_mut-requires
index_mut-requires c =
    let below = popped_below _ _ c.in_ok-number.field-0 _ _ c.self.invariant c.in_ok-number.ensures.permutation in
    omega arith

pub invariant_of-self-2 : goal.invariant_of-self-2
invariant_of-self-2 c =
    let held = held_taken c.self.inside.homes.items c.args.home (heap_capacity c.self.inside.spare) c.in_ok-number.field-0 (heap_items c.self.inside.spare) (heap_items c.pop.new.self)
    c.self.invariant c.in_ok-number.ensures.permutation (c.in_ok-number.ensures.heap_order c.self.invariant.ordered).0 in
    rw c.pop.ensures.capacity held

pub returns-clause-urb : goal.returns-clause-urb
returns-clause-urb c =
    let least = popped_least c.self.inside.homes.items (heap_capacity c.self.inside.spare) c.in_ok-number.field-0 (heap_items c.self.inside.spare) (heap_items c.pop.new.self)
    c.self.invariant c.in_ok-number.ensures.permutation (c.in_ok-number.ensures.below_top c.self.invariant.ordered) in
    next_is c.self.inside.homes.items c.args.self.now c.in_ok-number.field-0.0 c.self.view_is least

pub returns-clause-pool : goal.returns-clause-pool
returns-clause-pool c =
    let least = popped_least c.self.inside.homes.items (heap_capacity c.self.inside.spare) c.in_ok-number.field-0 (heap_items c.self.inside.spare) (heap_items c.pop.new.self)
    c.self.invariant c.in_ok-number.ensures.permutation (c.in_ok-number.ensures.below_top c.self.invariant.ordered) in
    taken_is c.self.inside.homes.items c.args.self.now c.in_ok-number.field-0.0 c.args.home c.self.view_is least
