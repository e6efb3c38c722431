use Rattle.std.proofs.Common.{◌≡◌, take}
use Rattle.usb_prepare.specs.Prepared.{found_from}
use Rattle.usb_prepare.proofs.preparing.find_all.Given as goal

abbrev pub invariant-loop-i : goal.invariant-loop-i
invariant-loop-i l = l.found ≡ found_from l.board 0 (take l.i l.scene.devices) (take l.i l.probes)
