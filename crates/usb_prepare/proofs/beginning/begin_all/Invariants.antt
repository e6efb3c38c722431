use Rattle.std.proofs.Common.{◌≡◌, take, length}
use Rattle.usb_prepare.specs.Bindings.{AreEnumerated}
use Rattle.usb_prepare.proofs.beginning.begin_all.Given as goal

abbrev pub invariant-loop-i : goal.invariant-loop-i
invariant-loop-i l = record {
  room_so : length l.room ≡ length l.fn.room;
  begun_so : AreEnumerated (take l.i l.scene.devices) l.begun;
}
