-- Whether each transfer that a history sends is one that its URB may have.
use Rattle.std.specs.Prelude.{ℕ, List, Option, Some, None, All}
use Rattle.usb_machine.specs.declared.event.Event.{Event}
use Rattle.usb_machine.specs.declared.event.Event.TheVariants.{Submit}
use Rattle.usb_machine.specs.declared.transfer.Transfer.{Transfer}
use Rattle.usb_machine.specs.declared.entry.Entry.{Entry}
use Rattle.usb_scene.specs.declared.scene.Scene.{Scene}
use Rattle.usb_trace.specs.Devices.{IsApt}

-- URB u may have this transfer, if there is one
abbrev pub MayHave : Scene → ℕ → Option Transfer → Type 0
MayHave s u None = Unit {0}
MayHave s u (Some t) = IsApt s u t

-- what an event sends, whether the gate accepts it or refuses it, its URB may have
abbrev pub SendsApt : Scene → Event → Option Transfer → Type 0
SendsApt s (Submit u n) carried = MayHave s u.0 carried
SendsApt s _ carried = Unit {0}

-- each transfer that was sent in the history is one that its URB may have
pub record AreApt (s : Scene) (history : List Entry) : Type 0 where
  pub each : All (λ x. SendsApt s x.event x.carried) history
