-- What calls find and leave of the machine.
use Rattle.std.specs.Prelude.{ℕ, ◌≡◌, ◌+◌, true, false, length, Option, None}
use Rattle.usb_machine.specs.declared.plain.Plain.{Plain}
use Rattle.usb_machine.specs.Plain.{urbs_of, ends_of}
use Rattle.usb_types.specs.declared.errno.Code.{Code}
use Rattle.usb_types.specs.declared.errno.Code.TheVariants.{Zero}
use Rattle.usb_machine.specs.declared.event.Answer.{Answer}
use Rattle.usb_machine.specs.declared.event.Answer.TheVariants.{Code as Status, Number}
use Rattle.usb_machine.specs.declared.state.UrbState.{UrbState}
use Rattle.usb_machine.specs.State.{refusal, is_zero}
use Rattle.usb_scene.specs.declared.scene.Scene.{Scene}
use Rattle.usb_line.specs.Line.{is_unlinked}

-- as many URBs and endpoints as before
pub record AsMany (old new : Plain) : Type 0 where
  pub urbs : urbs_of new ≡ urbs_of old
  pub ends : ends_of new ≡ ends_of old

-- how many passes a scene has
abbrev pub passes_of : Scene → ℕ
passes_of s = 2 + (length s.threads + 3)

-- the code in the answer of a Submit, a Mark or a Give
abbrev pub told_code : Answer → Code
told_code (Status c) = c
told_code _ = Zero

-- the number in the answer of a Claim
abbrev pub told_number : Answer → Option ℕ
told_number (Number n) = n
told_number _ = None

-- the gate refuses the URB once it is given back, and where it is queued it was unlinked
pub record IsStopping (t : UrbState) : Type 0 where
  pub refused : is_zero (refusal (record t { queued = false })) ≡ false
  pub unlinked : t.queued ≡ true → is_unlinked t.mark ≡ true
