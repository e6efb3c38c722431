use Rattle.std.proofs.Common.{◌≡◌, take}
use Rattle.usb_bind.specs.Interfaces.{interfaces_of}
use Rattle.usb_prepare.specs.Prepared.{faces_of}
use Rattle.usb_prepare.proofs.faces.faces.Given as goal

abbrev pub invariant-loop-i : goal.invariant-loop-i
invariant-loop-i l = l.faces ≡ faces_of l.board l.device (take l.i (interfaces_of l.config)) (take l.i l.probes)
