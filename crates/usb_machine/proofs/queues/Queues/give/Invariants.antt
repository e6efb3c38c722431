use Rattle.std.proofs.Common.{◌≡◌, ◌++◌, take, drop}
use Rattle.circular_buffer.specs.Buffer.{buffer}
use Rattle.usb_machine.specs.History.{without}
use Rattle.usb_machine.proofs.queues.Queues.give.Given as goal

-- the URBs that are not looked at yet, and after them those that stay
abbrev pub invariant-loop : goal.invariant-loop
invariant-loop l =
    let all = l.initial.self.pending.items in
    l.self ≡ record l.initial.self { pending = buffer (drop l.counter all ++ without l.urb (take l.counter all)) l.initial.self.pending.capacity }
