use Rattle.std.proofs.Common.{◌≡◌, List, [], take, length}
use Rattle.usb_xfer.specs.declared.script.DeviceScript.{DeviceScript}
use Rattle.usb_device.specs.Device.{Call, Stands}
use Rattle.usb_prepare.specs.Probing.{FitsRoom}
use Rattle.usb_prepare.specs.Bindings.{IsProbing}
use Rattle.usb_prepare.proofs.Probed.{numbers_probed}
use Rattle.usb_prepare.proofs.probing.Bindings.probe_all.Given as goal

abbrev pub invariant-loop-interface : goal.invariant-loop-interface
invariant-loop-interface l = record {
  room_so : length l.room ≡ length l.initial.room;
  far : (script : DeviceScript) (calls : List Call) → Stands l.initial.device script calls → FitsRoom script
      → IsProbing (numbers_probed script l.number record { board = l.initial.self.board; pool = l.initial.self.pool; calls = calls; probes = []; ids = l.initial.self.ids } (take l.interface-index l.interface-items)) script l.self l.device l.probes;
}
