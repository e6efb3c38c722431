use Rattle.std.proofs.Common.{◌≡◌, map, take}
use Rattle.usb_machine.specs.Queues.{no_urbs}
use Rattle.usb_machine.proofs.queues.all_empty.Given as goal

abbrev pub invariant-loop-room : goal.invariant-loop-room
invariant-loop-room l = l.ends.items ≡ map no_urbs (take l.room-index l.rooms)
