-- Examples that the checker computes: what printers sent back, and the events of it.
use Rattle.std.proofs.Common.{◌≡◌, ℕ, false, List, [], ◌∷◌, ◌++◌, length, refl}
use Rattle.std.specs.Prelude.{None}
use Rattle.usb_types.specs.declared.errno.Errno.TheVariants.{ENOENT, EPIPE, EPROTO, ECONNRESET, ESHUTDOWN}
use Rattle.usb_types.specs.declared.errno.Code.{Code}
use Rattle.usb_types.specs.declared.errno.Code.TheVariants.{Zero, Fault}
use Rattle.usb_types.specs.declared.urb.Role.TheVariants.{Write, Ctl}
use Rattle.usb_types.specs.declared.urb.Action.TheVariants.{Rest, Again, Ask}
use Rattle.usb_machine.specs.declared.transfer.Transfer.{Transfer}
use Rattle.usb_ctrl.specs.Setup.{bytes_of}
use Rattle.usb_printer.specs.declared.event.Event.TheVariants.{Id, Job, Port}
use Rattle.usb_machine.specs.Completion.{Completion}
use Rattle.usb_printer.specs.Jobs.{print_events, action_of, first_window}
use Rattle.usb_printer.specs.Requests.{get_port_status, soft_reset, status_packet, question_of}

-- MFG:A; and its length
abbrev reply : List ℕ
reply = 0x00 ∷ 0x08 ∷ 0x4D ∷ 0x46 ∷ 0x47 ∷ 0x3A ∷ 0x41 ∷ 0x3B ∷ []

abbrev text : List ℕ
text = 0x4D ∷ 0x46 ∷ 0x47 ∷ 0x3A ∷ 0x41 ∷ 0x3B ∷ []

an_id_is_told : print_events reply [] ≡ Id text ∷ []
an_id_is_told = refl

-- bytes after the length are none of the text, and a length may say more than there is
lengths_of_ids : (print_events (reply ++ 0x42 ∷ []) [] ≡ Id text ∷ []) × (print_events (0x01 ∷ 0x08 ∷ text) [] ≡ Id text ∷ [])
lengths_of_ids = (refl, refl)

an_empty_text_is_a_dash : (print_events (0 ∷ 2 ∷ 0x41 ∷ []) [] ≡ Id (0x2D ∷ []) ∷ []) × (print_events (0 ∷ 1 ∷ 0x41 ∷ []) [] ≡ Id (0x2D ∷ []) ∷ [])
an_empty_text_is_a_dash = (refl, refl)

no_id_is_told : (print_events [] [] ≡ []) × (print_events (8 ∷ []) [] ≡ [])
no_id_is_told = (refl, refl)

other_bytes_are_dots : print_events (0 ∷ 6 ∷ 0x1F ∷ 0x20 ∷ 0x7E ∷ 0x7F ∷ []) [] ≡ Id (0x2E ∷ 0x20 ∷ 0x7E ∷ 0x2E ∷ []) ∷ []
other_bytes_are_dots = refl

-- a window of a job whose transfer has the number 6
abbrev window : List ℕ → ℕ → ℕ → ℕ → Transfer
window bytes from len actual = record { setup = None; buf = bytes; from = from; len = len; short_not_ok = false; actual = actual; number = 6 }

abbrev wrote : Code → Transfer → Completion
wrote status t = record { role = Write; status = status; transfer = t }

-- an answer to the question, whose number is 2
abbrev answered : List ℕ → ℕ → Completion
answered bytes n = record { role = Ctl; status = Zero; transfer = record (question_of 2 0) { buf = bytes; actual = n } }

a_job_of_two_windows : (bytes : List ℕ) → length bytes ≡ 8193
    → (action_of Write Zero (window bytes 0 8192 8192) ≡ Again 8192 1) × (action_of Write Zero (window bytes 8192 1 1) ≡ Rest)
a_job_of_two_windows bytes e = rw e (refl, refl)

its_line : (bytes : List ℕ) → length bytes ≡ 8193
    → print_events reply (wrote Zero (window bytes 0 8192 8192) ∷ wrote Zero (window bytes 8192 1 1) ∷ []) ≡ Id text ∷ Job 6 8193 Zero ∷ []
its_line bytes e = rw e refl

-- the second window fails, and the port says that there is paper, that it is selected and that there is no error
a_fault_is_asked_about : (bytes : List ℕ) → length bytes ≡ 8193
    → print_events reply (wrote Zero (window bytes 0 8192 8192) ∷ wrote (Fault EPIPE) (window bytes 8192 1 0) ∷ answered (0x18 ∷ []) 1 ∷ [])
    ≡ Id text ∷ Job 6 8192 (Fault EPIPE) ∷ Port 0x18 ∷ []
a_fault_is_asked_about bytes e = rw e refl

an_empty_job : (print_events [] (wrote Zero (window [] 0 0 0) ∷ []) ≡ Job 6 0 Zero ∷ []) × (first_window 0 ≡ 0)
an_empty_job = (refl, refl)

which_faults_are_asked_about : (t : Transfer)
    → (action_of Write (Fault EPIPE) t ≡ Ask) × (action_of Write (Fault EPROTO) t ≡ Ask) × (action_of Write (Fault ENOENT) t ≡ Rest)
    × (action_of Write (Fault ECONNRESET) t ≡ Rest) × (action_of Write (Fault ESHUTDOWN) t ≡ Rest) × (action_of Ctl (Fault EPIPE) t ≡ Rest)
which_faults_are_asked_about t = (refl, refl, refl, refl, refl, refl)

-- an answer of no byte, and a reset, say nothing of the port
what_says_nothing : print_events [] (answered (0x18 ∷ []) 0 ∷ record { role = Ctl; status = Zero; transfer = window [] 0 0 0 } ∷ []) ≡ []
what_says_nothing = refl

requests_of_a_printer : (bytes_of (get_port_status 3) ≡ status_packet 3) × (bytes_of (soft_reset 3) ≡ 0x21 ∷ 2 ∷ 0 ∷ 0 ∷ 3 ∷ 0 ∷ 0 ∷ 0 ∷ [])
requests_of_a_printer = (refl, refl)
