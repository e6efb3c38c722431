-- What a turn of the controller leaves of the replies that are due so far.
use Rattle.std.specs.Prelude.{ℕ, ◌≡◌, List, Option, Some, None}
use Rattle.usb_machine.specs.declared.transfer.Transfer.{Transfer}
use Rattle.usb_machine.specs.Fresh.{Known}
use Rattle.usb_machine.specs.Tokens.{Told}
use Rattle.usb_xfer.specs.Replies.{Reply}
use Rattle.usb_device.specs.declared.scripted.Scripted.{Scripted}
use Rattle.usb_scene.specs.declared.scene.Scene.{Scene}
use Rattle.usb_side.specs.Went.{TurnLeft}
use Rattle.usb_trace.specs.Plan.{machine_of}
use Rattle.usb_trace.specs.Run.{Giveback}
use Rattle.usb_threads.specs.DueSoFar.{AreDueSoFar, GaveDue}

-- what a turn leaves where it gave this back, if it did: the same, or one giveback more, of the URB that came back with the transfer
-- that was sent and the replies that moved it
abbrev pub LeftDue : (s : Scene) → List Giveback → (ℕ → Transfer) → List Scripted → (p q : Known) (start : ℕ → Transfer) (mid now : ℕ → List Reply) (given : Option Told)
    → TurnLeft (machine_of s) p q start mid now given → Type 0
LeftDue s rounds first devices p q start mid now None left = AreDueSoFar s rounds first now devices
LeftDue s rounds first devices p q start mid now (Some t) left =
    (r : Giveback) → r.urb ≡ t.urb → r.sent ≡ left.0.sent → r.replies ≡ left.0.replies → GaveDue s rounds r first now devices
