use Rattle.std.proofs.Common.{◌≡◌, ◌+◌, take}
use Rattle.usb_scene.specs.WellFormed.{replies_of}
use Rattle.usb_scene.proofs.room.room_behind.Given as goal

abbrev pub invariant-loop-item : goal.invariant-loop-item
invariant-loop-item l = l.left + replies_of (take l.item-index l.items) ≡ l.room
