-- What a reason says of an URB.
use Rattle.std.specs.Prelude.{◌≡◌, ◌<◌, true, false}
use Rattle.usb_types.specs.declared.errno.Code.TheVariants.{Fault}
use Rattle.usb_machine.specs.declared.event.Event.{Event}
use Rattle.usb_machine.specs.declared.event.Event.TheVariants.{Submit, Mark, Finish}
use Rattle.usb_machine.specs.declared.event.Answer.{Answer}
use Rattle.usb_machine.specs.declared.event.Answer.TheVariants.{Code as Status, Truth}
use Rattle.usb_machine.specs.declared.state.UrbState.{UrbState}
use Rattle.usb_machine.specs.State.{is_clear}
use Rattle.example_urb.specs.declared.words.Reason.{Reason}
use Rattle.example_urb.specs.declared.words.Reason.TheVariants.{Queued, NotQueued, Gone, Rejected, Unbound, Down, Marked, Unmarked}

-- the reason is true of the URB in this state
abbrev pub Explains : Reason → UrbState → Type 0
Explains Queued s = s.queued ≡ true
Explains NotQueued s = s.queued ≡ false
Explains Gone s = s.flags.gone ≡ true
Explains Rejected s = 0 < s.rejects
Explains Unbound s = s.flags.off ≡ true
Explains Down s = s.flags.down ≡ true
Explains Marked s = is_clear s.mark ≡ false
Explains Unmarked s = (s.queued ≡ true) × (is_clear s.mark ≡ true)

-- the event is refused, or is a Mark, which never answers zero
abbrev pub IsRefusal : Event → Answer → Type 0
IsRefusal (Submit u n) (Status (Fault e)) = Unit {0}
IsRefusal (Mark u w) (Status (Fault e)) = Unit {0}
IsRefusal (Finish u c) (Truth false) = Unit {0}
IsRefusal event answer = ⊥
