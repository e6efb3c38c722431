-- A server that was told why a mark stands knows that one stands.
use Rattle.std.proofs.Common.{◌≡◌, false, Some, refl}
use Rattle.usb_types.specs.declared.urb.Why.{Why}
use Rattle.usb_machine.specs.declared.state.Mark.{Mark as MarkState}
use Rattle.usb_machine.specs.declared.state.Mark.TheVariants.{Clear, Unlinked, Finished}
use Rattle.usb_machine.specs.State.{is_clear, why_of}

pub why_settles : (m : MarkState) (w : Why) → why_of m ≡ Some w → is_clear m ≡ false
why_settles Clear w e = absurd (cc)
why_settles (Unlinked v) w e = refl
why_settles (Finished c) w e = absurd (cc)
