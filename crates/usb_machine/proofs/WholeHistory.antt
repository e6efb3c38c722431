-- A whole history of two URBs of one endpoint, and what stands after it, computed by the checker. The first URB's
-- transfer ends by itself. The second one is killed: it comes back, stays quiet, and its buffer is claimed.
use Rattle.std.proofs.Common.{◌≡◌, ℕ, ◌<◌, lit<, lit≤, true, false, List, [], ◌∷◌, ◌++◌, refl, Option, Some, None}
use Rattle.usb_types.specs.declared.errno.Errno.TheVariants.{EPERM, ENOENT, EINPROGRESS}
use Rattle.usb_types.specs.declared.errno.Code.TheVariants.{Zero, Fault}
use Rattle.usb_types.specs.declared.urb.UrbId.{UrbId}
use Rattle.usb_types.specs.declared.urb.Why.TheVariants.{Kill}
use Rattle.usb_types.specs.declared.urb.Flag.TheVariants.{Down}
use Rattle.usb_machine.specs.declared.event.Event.{Event}
use Rattle.usb_machine.specs.declared.event.Event.TheVariants.{Submit, Link, Take, Mark, Finish, Give, Rest, End, Reject, Withdraw, Quiet, Claim, Flag, Unflag}
use Rattle.usb_machine.specs.declared.event.Answer.{Answer}
use Rattle.usb_machine.specs.declared.event.Answer.TheVariants.{Nothing, Code as Status, Truth, Urb, Number}
use Rattle.usb_machine.specs.declared.layout.EndKind.TheVariants.{Bulk}
use Rattle.usb_machine.specs.declared.transfer.Transfer.{Transfer}
use Rattle.usb_machine.specs.declared.entry.Entry.{Entry}
use Rattle.usb_machine.specs.State.{opening, answer_of}
use Rattle.usb_machine.specs.Shapes.{HasWindow}
use Rattle.usb_machine.specs.Legal.{May, Carries, urb_of, end_of, IsLegal, empty, longer}
use Rattle.usb_machine.specs.History.{Machine, state_of, line_of, pending_of, sent_of, episodes_of}
use Rattle.usb_machine.specs.Parts.{part_of, owes, held_of, keeps}

-- two URBs of one bulk endpoint, two passes beside the server's and the hub's
abbrev pair : Machine
pair = record {
  layout = record { homes = Some 0 ∷ Some 0 ∷ []; shapes = record { device = 0; address = 129; kind = Bulk; max = 64; interval = 0 } ∷ [] };
  passes = 4;
  bottom = 0;
}

abbrev a : UrbId
a = record { 0 = 0 }

abbrev b : UrbId
b = record { 0 = 1 }

abbrev sent : ℕ → Transfer
sent number = record { setup = None; buf = 0 ∷ 0 ∷ []; from = 0; len = 2; short_not_ok = false; actual = 0; number = number }

abbrev entry : ℕ → Event → Answer → Option Transfer → Entry
entry p e answer t = record { pass = p; event = e; answer = answer; carried = t }

abbrev plain : ℕ → Event → Entry
plain p e = entry p e Nothing None

-- both URBs are submitted, and the server takes the first
abbrev submitted : List Entry
submitted = entry 2 (Submit a 11) (Status Zero) (Some (sent 11)) ∷ plain 2 (Link a) ∷ entry 2 (Submit b 12) (Status Zero) (Some (sent 12)) ∷ plain 2 (Link b) ∷ entry 0 (Take 0) (Urb a) None ∷ []

-- the first comes back with its result, while a kill of the second begins
abbrev given : List Entry
given = plain 3 (Reject b) ∷ entry 0 (Finish a Zero) (Truth true) None ∷ entry 3 (Mark b Kill) (Status (Fault EINPROGRESS)) None ∷ entry 0 (Give a) (Status Zero) None ∷ plain 0 (End a) ∷ []

-- the second comes back, its buffer rests, and the kill sees it quiet and claims
abbrev ended : List Entry
ended = entry 0 (Take 0) (Urb b) None ∷ entry 0 (Give b) (Status (Fault ENOENT)) None ∷ entry 0 (Rest b 12) Nothing (Some (sent 12)) ∷ plain 0 (End b) ∷ plain 3 (Quiet b) ∷ entry 3 (Claim b) (Number (Some 12)) None ∷ entry 2 (Submit b 13) (Status (Fault EPERM)) (Some (sent 13)) ∷ []

abbrev whole : List Entry
whole = submitted ++ given ++ ended

both_queued : (state_of submitted 0).queued ≡ true
both_queued = refl

second_in_line : line_of pair submitted 0 ≡ 1 ∷ []
second_in_line = refl

first_pending : pending_of pair submitted 0 ≡ 0 ∷ []
first_pending = refl

-- between its Submit and its Link the pass owes the Link
owes_first : owes (part_of (entry 2 (Submit a 11) (Status Zero) (Some (sent 11)) ∷ []) 2) 0 ≡ true
owes_first = refl

owes_none : owes (part_of submitted 2) 0 ≡ false
owes_none = refl

line_empty : line_of pair whole 0 ≡ []
line_empty = refl

pending_empty : pending_of pair whole 0 ≡ []
pending_empty = refl

first_after : state_of whole 0 ≡ opening
first_after = refl

second_after : state_of whole 1 ≡ record opening { rejects = 1 }
second_after = refl

second_sent : sent_of whole 1 ≡ Some (sent 12)
second_sent = refl

kept : keeps (part_of whole 3) 1 ≡ true
kept = refl

-- a Quiet that stood before the Reject would not keep it
not_kept : keeps (part_of (plain 3 (Quiet b) ∷ plain 3 (Reject b) ∷ []) 3) 1 ≡ false
not_kept = refl

opened : keeps (part_of (whole ++ plain 3 (Withdraw b) ∷ []) 3) 1 ≡ false
opened = refl

held : (held_of (part_of whole 3) 1).rejects ≡ 1
held = refl

episodes : episodes_of whole ≡ record { urb = 0; status = Status Zero; transfer = Some (sent 11) } ∷ record { urb = 1; status = Status (Fault ENOENT); transfer = Some (sent 12) } ∷ []
episodes = refl

-- the hub's flag stands and falls
flag_stands : (state_of (plain 1 (Flag a Down) ∷ []) 0).flags.down ≡ true
flag_stands = refl

flag_fell : state_of (plain 1 (Flag a Down) ∷ plain 1 (Unflag a Down) ∷ []) 0 ≡ opening
flag_fell = refl

-- the history is legal: each entry may come where it stands, and has the machine's answer

window : (n : ℕ) → HasWindow (sent n)
window n = record { window = lit≤ tt; buffer = lit< tt; within = lit≤ tt }

then : (h : List Entry) (x : Entry) → IsLegal pair h → x.pass < 4 → May pair h x.pass x.event → x.answer ≡ answer_of x.event (state_of h (urb_of x.event)) (line_of pair h (end_of x.event)) → Carries pair x.event x.carried → IsLegal pair (h ++ x ∷ [])
then h x legal pass may answers carries = longer h x legal record { pass = pass; may = may; answers = answers; carries = carries }

legal_submitted : IsLegal pair submitted
legal_submitted =
    let one = then [] (entry 2 (Submit a 11) (Status Zero) (Some (sent 11))) empty (lit< tt) (0, refl) refl (refl, window 11, refl, refl) in
    let two = then _ (plain 2 (Link a)) one (lit< tt) refl refl refl in
    let three = then _ (entry 2 (Submit b 12) (Status Zero) (Some (sent 12))) two (lit< tt) (0, refl) refl (refl, window 12, refl, refl) in
    let four = then _ (plain 2 (Link b)) three (lit< tt) refl refl refl in
    then _ (entry 0 (Take 0) (Urb a) None) four (lit< tt) (refl, lit< tt) refl refl

legal_given : IsLegal pair (submitted ++ given)
legal_given =
    let one = then submitted (plain 3 (Reject b)) legal_submitted (lit< tt) tt refl refl in
    let two = then _ (entry 0 (Finish a Zero) (Truth true) None) one (lit< tt) (refl, refl) refl refl in
    let three = then _ (entry 3 (Mark b Kill) (Status (Fault EINPROGRESS)) None) two (lit< tt) tt refl refl in
    let four = then _ (entry 0 (Give a) (Status Zero) None) three (lit< tt) (refl, lit< tt, refl) refl refl in
    then _ (plain 0 (End a)) four (lit< tt) (refl, lit< tt) refl refl

legal_whole : IsLegal pair whole
legal_whole =
    let one = then (submitted ++ given) (entry 0 (Take 0) (Urb b) None) legal_given (lit< tt) (refl, lit< tt) refl refl in
    let two = then _ (entry 0 (Give b) (Status (Fault ENOENT)) None) one (lit< tt) (refl, lit< tt, refl) refl refl in
    let three = then _ (entry 0 (Rest b 12) Nothing (Some (sent 12))) two (lit< tt) (refl, lit< tt) refl (refl, window 12) in
    let four = then _ (plain 0 (End b)) three (lit< tt) (refl, lit< tt) refl refl in
    let five = then _ (plain 3 (Quiet b)) four (lit< tt) (refl, refl) refl refl in
    let six = then _ (entry 3 (Claim b) (Number (Some 12)) None) five (lit< tt) refl refl refl in
    then _ (entry 2 (Submit b 13) (Status (Fault EPERM)) (Some (sent 13))) six (lit< tt) (0, refl) refl (refl, window 13, refl, refl)
