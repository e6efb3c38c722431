-- Worked cases of the definitions, computed by the checker.
use Rattle.std.proofs.Common.{◌≡◌, ℕ, Bool, true, false, [], ◌∷◌, refl, Some, None}
use Rattle.usb_types.specs.declared.errno.Errno.TheVariants.{EBUSY, ENODEV, EPERM, ENOENT, ESHUTDOWN, EIDRM, EINPROGRESS, ECONNRESET, EPIPE, EPROTO, EOVERFLOW, ENOEXEC, EBADR, EMSGSIZE, EINVAL}
use Rattle.usb_types.specs.declared.errno.Code.TheVariants.{Zero, Fault}
use Rattle.usb_types.specs.declared.urb.UrbId.{UrbId}
use Rattle.usb_types.specs.declared.urb.Why.TheVariants.{Unlink, Kill, Shutdown}
use Rattle.usb_types.specs.declared.urb.Flag.TheVariants.{Off}
use Rattle.usb_types.specs.declared.urb.Role.TheVariants.{In}
use Rattle.usb_types.specs.declared.urb.Action.TheVariants.{Rest as Rests, Again}
use Rattle.usb_machine.specs.declared.event.Event.TheVariants.{Submit, Link, Take, Mark, Finish, Give, Rest, End, Reject, Withdraw, Quiet, Claim, Flag, Unflag}
use Rattle.usb_machine.specs.declared.event.Answer.TheVariants.{Nothing, Code as Status, Truth, Urb, Number}
use Rattle.usb_machine.specs.declared.state.Mark.TheVariants.{Unlinked, Finished}
use Rattle.usb_machine.specs.declared.state.UrbState.{UrbState}
use Rattle.usb_machine.specs.declared.layout.EndKind.TheVariants.{Control, Bulk, Interrupt, Iso}
use Rattle.usb_machine.specs.declared.layout.Shape.{Shape}
use Rattle.usb_machine.specs.declared.transfer.Transfer.{Transfer}
use Rattle.usb_machine.specs.State.{opening, answer_of, after}
use Rattle.usb_machine.specs.Shapes.{shape_fault}
use Rattle.usb_machine.specs.Completion.{Completion, moved_bytes, after_window, read_again}

-- Each event at a state of its URB: what it answers, and what it changes.

abbrev u : UrbId
u = record { 0 = 0 }

-- a queued URB, one with a mark, and one that a pass rejects
abbrev queued : UrbState
queued = record opening { queued = true }

abbrev killed : UrbState
killed = record queued { mark = Unlinked Kill }

abbrev rejected : UrbState
rejected = record opening { rejects = 2 }

abbrev flagged : Bool → Bool → Bool → UrbState
flagged gone off down = record opening { flags = record { gone = gone; off = off; down = down } }

submit_idle : answer_of (Submit u 7) opening [] ≡ Status Zero
submit_idle = refl

submit_idle_after : after (Submit u 7) (Status Zero) opening ≡ queued
submit_idle_after = refl

submit_queued : answer_of (Submit u 7) queued [] ≡ Status (Fault EBUSY)
submit_queued = refl

submit_refused_after : after (Submit u 7) (Status (Fault EBUSY)) killed ≡ killed
submit_refused_after = refl

-- the first reason is answered: gone, rejected, off, down
submit_gone : answer_of (Submit u 7) (record (flagged true true true) { rejects = 2 }) [] ≡ Status (Fault ENODEV)
submit_gone = refl

submit_rejected : answer_of (Submit u 7) (record (flagged false true true) { rejects = 2 }) [] ≡ Status (Fault EPERM)
submit_rejected = refl

submit_off : answer_of (Submit u 7) (flagged false true true) [] ≡ Status (Fault ENOENT)
submit_off = refl

submit_down : answer_of (Submit u 7) (flagged false false true) [] ≡ Status (Fault ESHUTDOWN)
submit_down = refl

link_after : after (Link u) Nothing queued ≡ queued
link_after = refl

take_first : answer_of (Take 3) opening (5 ∷ 6 ∷ []) ≡ Urb record { 0 = 5 }
take_first = refl

take_none : answer_of (Take 3) opening [] ≡ Nothing
take_none = refl

mark_idle : answer_of (Mark u Kill) opening [] ≡ Status (Fault EIDRM)
mark_idle = refl

mark_queued : answer_of (Mark u Kill) queued [] ≡ Status (Fault EINPROGRESS)
mark_queued = refl

mark_queued_after : after (Mark u Kill) (Status (Fault EINPROGRESS)) queued ≡ killed
mark_queued_after = refl

mark_marked : answer_of (Mark u Unlink) killed [] ≡ Status (Fault EBUSY)
mark_marked = refl

mark_marked_after : after (Mark u Unlink) (Status (Fault EBUSY)) killed ≡ killed
mark_marked_after = refl

finish_clear : answer_of (Finish u (Fault EPIPE)) queued [] ≡ Truth true
finish_clear = refl

finish_clear_after : after (Finish u (Fault EPIPE)) (Truth true) queued ≡ record queued { mark = Finished (Fault EPIPE) }
finish_clear_after = refl

finish_marked : answer_of (Finish u Zero) killed [] ≡ Truth false
finish_marked = refl

finish_marked_after : after (Finish u Zero) (Truth false) killed ≡ killed
finish_marked_after = refl

give_killed : answer_of (Give u) killed [] ≡ Status (Fault ENOENT)
give_killed = refl

give_unlinked : answer_of (Give u) (record queued { mark = Unlinked Unlink }) [] ≡ Status (Fault ECONNRESET)
give_unlinked = refl

give_shut_down : answer_of (Give u) (record queued { mark = Unlinked Shutdown }) [] ≡ Status (Fault ESHUTDOWN)
give_shut_down = refl

give_finished : answer_of (Give u) (record queued { mark = Finished (Fault EPIPE) }) [] ≡ Status (Fault EPIPE)
give_finished = refl

give_after : after (Give u) (Status (Fault ENOENT)) killed ≡ record opening { handlers = 1 }
give_after = refl

rest_after : after (Rest u 9) Nothing opening ≡ record opening { rest = Some 9 }
rest_after = refl

end_after : after (End u) Nothing (record opening { handlers = 3 }) ≡ record opening { handlers = 2 }
end_after = refl

reject_after : after (Reject u) Nothing rejected ≡ record opening { rejects = 3 }
reject_after = refl

withdraw_after : after (Withdraw u) Nothing rejected ≡ record opening { rejects = 1 }
withdraw_after = refl

quiet_after : after (Quiet u) Nothing rejected ≡ rejected
quiet_after = refl

claim_rest : answer_of (Claim u) (record rejected { rest = Some 9 }) [] ≡ Number (Some 9)
claim_rest = refl

claim_none : answer_of (Claim u) rejected [] ≡ Number None
claim_none = refl

claim_after : after (Claim u) (Number (Some 9)) (record rejected { rest = Some 9 }) ≡ rejected
claim_after = refl

flag_after : after (Flag u Off) Nothing opening ≡ flagged false true false
flag_after = refl

unflag_after : after (Unflag u Off) Nothing (flagged true true false) ≡ flagged true false false
unflag_after = refl

-- Which transfers an endpoint takes: the reasons in their order.

abbrev bulk_in : Shape
bulk_in = record { device = 0; address = 129; kind = Bulk; max = 64; interval = 0 }

abbrev eight : ℕ → Transfer
eight number = record { setup = None; buf = 0 ∷ 0 ∷ 0 ∷ 0 ∷ 0 ∷ 0 ∷ 0 ∷ 0 ∷ []; from = 0; len = 8; short_not_ok = false; actual = 0; number = number }

-- a setup packet that asks for 8 bytes, and one that asks for 264
abbrev asks_8 : Transfer
asks_8 = record (eight 1) { setup = Some (128 ∷ 6 ∷ 0 ∷ 1 ∷ 0 ∷ 0 ∷ 8 ∷ 0 ∷ []) }

abbrev asks_264 : Transfer
asks_264 = record (eight 1) { setup = Some (128 ∷ 6 ∷ 0 ∷ 1 ∷ 0 ∷ 0 ∷ 8 ∷ 1 ∷ []) }

bulk_taken : shape_fault bulk_in (eight 1) ≡ None
bulk_taken = refl

control_without_setup : shape_fault (record bulk_in { kind = Control; max = 0 }) (eight 1) ≡ Some ENOEXEC
control_without_setup = refl

control_of_other_length : shape_fault (record bulk_in { kind = Control; max = 0 }) asks_264 ≡ Some EBADR
control_of_other_length = refl

control_taken : shape_fault (record bulk_in { kind = Control }) asks_8 ≡ None
control_taken = refl

no_packet_size : shape_fault (record bulk_in { kind = Iso; max = 0 }) (eight 1) ≡ Some EMSGSIZE
no_packet_size = refl

interrupt_without_interval : shape_fault (record bulk_in { kind = Interrupt }) (eight 1) ≡ Some EINVAL
interrupt_without_interval = refl

interrupt_taken : shape_fault (record bulk_in { kind = Interrupt; interval = 10 }) (eight 1) ≡ None
interrupt_taken = refl

isochronous : shape_fault (record bulk_in { kind = Iso; interval = 1 }) (eight 1) ≡ Some EINVAL
isochronous = refl

-- What a completion handler sees: a read came back with two bytes of the four that its window has, from the second byte on.

abbrev moved_two : Completion
moved_two = record {
  role = In;
  status = Zero;
  transfer = record { setup = None; buf = 9 ∷ 8 ∷ 7 ∷ 6 ∷ 5 ∷ 4 ∷ []; from = 1; len = 4; short_not_ok = false; actual = 2; number = 1 };
}

two_were_moved : (moved_bytes moved_two.transfer ≡ 8 ∷ 7 ∷ []) × (after_window moved_two.transfer ≡ 1)
two_were_moved = (refl, refl)

what_reads_go_on : (read_again Zero moved_two.transfer ≡ Again 0 6) × (read_again (Fault EPROTO) moved_two.transfer ≡ Again 0 6)
    × (read_again (Fault EOVERFLOW) moved_two.transfer ≡ Again 0 6) × (read_again (Fault ENOENT) moved_two.transfer ≡ Rests)
    × (read_again (Fault EPIPE) moved_two.transfer ≡ Rests)
what_reads_go_on = (refl, refl, refl, refl, refl)
