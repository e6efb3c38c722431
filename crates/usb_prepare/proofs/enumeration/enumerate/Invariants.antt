use Rattle.std.proofs.Common.{ℕ, ◌≡◌, false, List, [], length}
use Rattle.usb_xfer.specs.declared.script.DeviceScript.{DeviceScript}
use Rattle.usb_device.specs.Device.{Call, Stands}
use Rattle.usb_prepare.specs.Requests.{left_of, is_failed, IsOwn, IsAt}
use Rattle.usb_prepare.proofs.enumeration.enumerate.Given as goal

abbrev pub invariant-loop-setup : goal.invariant-loop-setup
invariant-loop-setup l = record {
  address_so : l.enumerator.address ≡ l.address;
  room_so : length l.room ≡ length l.fn.room;
  live_so : is_failed l.enumerator.stage ≡ false;
  at : (script : DeviceScript) → Stands l.fn.device script [] → IsOwn script → (k : ℕ) × (calls : List Call) × Stands l.device script calls × IsAt script l.address k l.enumerator.stage calls;
}

abbrev pub decreases-loop-setup : goal.decreases-loop-setup
decreases-loop-setup l = left_of l.enumerator.stage
