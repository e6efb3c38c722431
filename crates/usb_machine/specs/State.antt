-- The state of an URB: what an event answers there, and what an event with its answer changes.
-- After `struct urb` and `urb.c`, `hcd.c` of the kernel: `use_count`, `reject`, `unlinked`.
use Rattle.std.specs.Prelude.{ℕ, ◌+◌, ◌-◌, Bool, true, false, ◌==◌, if◌then◌else◌, List, [], ◌∷◌, Option, Some, None}
use Rattle.usb_types.specs.declared.errno.Errno.TheVariants.{EBUSY, ENODEV, EPERM, ENOENT, ESHUTDOWN, EIDRM, EINPROGRESS}
use Rattle.usb_types.specs.declared.errno.Code.{Code}
use Rattle.usb_types.specs.declared.errno.Code.TheVariants.{Zero, Fault}
use Rattle.usb_types.specs.declared.urb.Why.{Why}
use Rattle.usb_types.specs.declared.urb.Flag.{Flag as FlagName}
use Rattle.usb_types.specs.declared.urb.Flag.TheVariants.{Gone, Off, Down}
use Rattle.usb_types.specs.Codes.{errno_of}
use Rattle.usb_machine.specs.declared.event.Event.{Event}
use Rattle.usb_machine.specs.declared.event.Event.TheVariants.{Submit, Link, Take, Mark, Finish, Give, Rest, End, Reject, Withdraw, Quiet, Claim, Flag, Unflag}
use Rattle.usb_machine.specs.declared.event.Answer.{Answer}
use Rattle.usb_machine.specs.declared.event.Answer.TheVariants.{Nothing, Code as Status, Truth, Urb, Number}
use Rattle.usb_machine.specs.declared.state.Mark.{Mark as MarkState}
use Rattle.usb_machine.specs.declared.state.Mark.TheVariants.{Clear, Unlinked, Finished}
use Rattle.usb_machine.specs.declared.state.Flags.{Flags}
use Rattle.usb_machine.specs.declared.state.UrbState.{UrbState}

abbrev pub no_flags : Flags
no_flags = record { gone = false; off = false; down = false }

-- an URB at first: not queued, no mark, no reject, no flag, no handler, nothing that rests
abbrev pub opening : UrbState
opening = record { queued = false; mark = Clear; rejects = 0; flags = no_flags; handlers = 0; rest = None }

-- the answer of a Submit: the first reason to refuse it, or zero
abbrev pub refusal : UrbState → Code
refusal s =
    if s.queued then Fault EBUSY
    else if s.flags.gone then Fault ENODEV
    else if (0 == s.rejects) then (if s.flags.off then Fault ENOENT else if s.flags.down then Fault ESHUTDOWN else Zero)
    else Fault EPERM

abbrev pub is_clear : MarkState → Bool
is_clear Clear = true
is_clear (Unlinked w) = false
is_clear (Finished c) = false

-- why an URB was unlinked, where its mark says so
abbrev pub why_of : MarkState → Option Why
why_of Clear = None
why_of (Unlinked w) = Some w
why_of (Finished c) = None

-- the status that a mark stands for
abbrev pub status_of : MarkState → Code
status_of Clear = Zero
status_of (Unlinked w) = Fault (errno_of w)
status_of (Finished c) = c

-- the answer of a Mark: an URB that is not queued cannot be unlinked, and the first mark stays
abbrev pub unlinking : UrbState → Code
unlinking s = if s.queued then (if is_clear s.mark then Fault EINPROGRESS else Fault EBUSY) else Fault EIDRM

abbrev pub has_flag : FlagName → Flags → Bool
has_flag Gone f = f.gone
has_flag Off f = f.off
has_flag Down f = f.down

abbrev pub with_flag : FlagName → Bool → Flags → Flags
with_flag Gone b f = record f { gone = b }
with_flag Off b f = record f { off = b }
with_flag Down b f = record f { down = b }

-- what a Take answers, by the line: its first URB
abbrev pub first_of : List ℕ → Answer
first_of [] = Nothing
first_of (u ∷ us) = Urb record { 0 = u }

-- the answer of an event, by the state of its URB, or for a Take by the line of its endpoint
abbrev pub answer_of : Event → UrbState → List ℕ → Answer
answer_of (Submit u n) s us = Status (refusal s)
answer_of (Link u) s us = Nothing
answer_of (Take e) s us = first_of us
answer_of (Mark u w) s us = Status (unlinking s)
answer_of (Finish u c) s us = Truth (is_clear s.mark)
answer_of (Give u) s us = Status (status_of s.mark)
answer_of (Rest u n) s us = Nothing
answer_of (End u) s us = Nothing
answer_of (Reject u) s us = Nothing
answer_of (Withdraw u) s us = Nothing
answer_of (Quiet u) s us = Nothing
answer_of (Claim u) s us = Number s.rest
answer_of (Flag u f) s us = Nothing
answer_of (Unflag u f) s us = Nothing

abbrev pub is_zero : Code → Bool
is_zero Zero = true
is_zero (Fault e) = false

-- whether the answer is zero, as of a Submit that was accepted
abbrev pub accepted : Answer → Bool
accepted (Status c) = is_zero c
accepted _ = false

abbrev pub is_in_progress : Code → Bool
is_in_progress Zero = false
is_in_progress (Fault EINPROGRESS) = true
is_in_progress (Fault e) = false

-- whether the answer is EINPROGRESS, as of a Mark that stays
abbrev pub unlinks : Answer → Bool
unlinks (Status c) = is_in_progress c
unlinks _ = false

-- whether the answer is true, as of a Finish that marked
abbrev pub finishes : Answer → Bool
finishes (Truth b) = b
finishes _ = false

-- what an event with its answer changes in the state of its URB
abbrev pub after : Event → Answer → UrbState → UrbState
after (Submit u n) a s = if accepted a then record s { queued = true; mark = Clear } else s
after (Link u) a s = s
after (Take e) a s = s
after (Mark u w) a s = if unlinks a then record s { mark = Unlinked w } else s
after (Finish u c) a s = if finishes a then record s { mark = Finished c } else s
after (Give u) a s = record s { queued = false; mark = Clear; handlers = s.handlers + 1 }
after (Rest u n) a s = record s { rest = Some n }
after (End u) a s = record s { handlers = s.handlers - 1 }
after (Reject u) a s = record s { rejects = s.rejects + 1 }
after (Withdraw u) a s = record s { rejects = s.rejects - 1 }
after (Quiet u) a s = s
after (Claim u) a s = record s { rest = None }
after (Flag u f) a s = record s { flags = with_flag f true s.flags }
after (Unflag u f) a s = record s { flags = with_flag f false s.flags }
