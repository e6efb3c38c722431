-- The run in line order: calls one after another, each with the turns that it waits for, and then the close.
use Rattle.std.specs.Prelude.{ℕ, zero, suc, ◌≡◌, ◌<◌, ◌==◌, ◌&&◌, not, Bool, true, false, if◌then◌else◌, ◌⊎◌, List, [], ◌∷◌, ◌++◌, length, map, filter, Option, Some, None}
use Rattle.usb_types.specs.declared.errno.Errno.{Errno}
use Rattle.usb_types.specs.declared.errno.Errno.TheVariants.{ENODEV, ESHUTDOWN}
use Rattle.usb_types.specs.declared.errno.Code.{Code}
use Rattle.usb_types.specs.declared.errno.Code.TheVariants.{Fault}
use Rattle.usb_types.specs.declared.urb.Action.{Action}
use Rattle.usb_types.specs.declared.urb.Action.TheVariants as action
use Rattle.usb_types.specs.declared.urb.Why.{Why}
use Rattle.usb_types.specs.declared.urb.Why.TheVariants.{Kill, Shutdown}
use Rattle.usb_types.specs.declared.urb.Flag.TheVariants as flag
use Rattle.usb_types.specs.Codes.{errno_of}
use Rattle.usb_machine.specs.declared.entry.TheConstants.{SERVER}
use Rattle.usb_machine.specs.declared.event.Event.TheVariants.{Take, Reject, Flag}
use Rattle.usb_machine.specs.declared.event.Answer.TheVariants.{Urb}
use Rattle.usb_machine.specs.declared.state.Mark.{Mark as MarkState}
use Rattle.usb_machine.specs.declared.state.Mark.TheVariants.{Clear, Unlinked, Finished}
use Rattle.usb_machine.specs.declared.state.UrbState.{UrbState}
use Rattle.usb_machine.specs.declared.entry.Entry.{Entry}
use Rattle.usb_machine.specs.declared.transfer.Transfer.{Transfer}
use Rattle.usb_machine.specs.Shapes.{shape_fault}
use Rattle.usb_machine.specs.State.{refusal, unlinking}
use Rattle.usb_machine.specs.History.{state_of, line_of, pending_of, sent_of}
use Rattle.usb_machine.specs.Calls.{entry, plain_entry, mark_entry, claim_entries, unblock_entries, marks_of}
use Rattle.usb_machine.specs.HostCalls.{rested_of}
use Rattle.usb_xfer.specs.Replies.{Reply, Question}
use Rattle.usb_xfer.specs.declared.packet.Step.{Step}
use Rattle.usb_xfer.specs.declared.packet.Step.TheVariants.{More, Waiting, Ended}
use Rattle.usb_xfer.specs.Moved.{moved, moved_state, IsWhole}
use Rattle.usb_scene.specs.declared.scene.Scene.{Scene}
use Rattle.usb_scene.specs.declared.scene.Call.{Call}
use Rattle.usb_trace.specs.declared.rows.HostCall.{HostCall}
use Rattle.usb_trace.specs.declared.rows.HostCall.TheVariants as host_call
use Rattle.usb_trace.specs.declared.rows.CallAnswer.{CallAnswer}
use Rattle.usb_trace.specs.declared.rows.CallAnswer.TheVariants as told
use Rattle.usb_trace.specs.declared.rows.Outcome.{Outcome}
use Rattle.usb_trace.specs.declared.rows.Outcome.TheVariants as outcome
use Rattle.usb_prepare.specs.Ends.{ends_of, shape_at}
use Rattle.usb_prepare.specs.Layout.{home}
use Rattle.usb_trace.specs.Plan.{machine_of, DriverQuestion, question_at, submit_fault, host_call_of, pass_of, main_pass, calls_of}
use Rattle.usb_trace.specs.Run.{urbs_of, CallRecord, call_entries, down_after, Giveback, given_entries, giveback_entries, acts, is_first, opening, seen_quiet, asked_of}
use Rattle.usb_trace.specs.Due.{asks, next_due}
use Rattle.std.specs.List.{flat_map}

-- how far a run is: its history, its calls, its givebacks, for each endpoint the replies that its first pending transfer
-- has had so far, which endpoints sleep, and whether the host is down
pub record Progress : Type 0 where
  pub history : List Entry
  pub call_records : List CallRecord
  pub rounds : List Giveback
  pub so_far : ℕ → List Reply
  pub asleep : ℕ → Bool
  pub down : Bool

abbrev pub at_start : Progress
at_start = record { history = []; call_records = []; rounds = []; so_far = λ e. []; asleep = λ e. false; down = false }

abbrev pub adds : Progress → List Entry → Progress
adds f xs = record f { history = f.history ++ xs }

-- the drivers' reads are submitted
abbrev pub begun : Scene → Progress
begun s = adds at_start (opening s)

-- a function with another value at e
abbrev pub with_at : {X : Type 0} → ℕ → X → (ℕ → X) → ℕ → X
with_at e x f d = if d == e then x else f d

-- what e was asked by its givebacks, and then by this transfer, which its replies so far are of
abbrev pub asked_so_far : Scene → Progress → ℕ → Transfer → List Question
asked_so_far s f e t = asked_of s e f.rounds ++ asks s e t (length (f.so_far e))

-- the server takes all that stands in the line of e, and in the lines of the endpoints below n
abbrev pub takes : ℕ → List ℕ → List Entry
takes e us = map (λ u. entry SERVER (Take e) (Urb record { 0 = u }) None) us

abbrev pub takes_below : Scene → List Entry → ℕ → List Entry
takes_below s h zero = []
takes_below s h (suc e) = takes_below s h e ++ takes e (line_of (machine_of s) h e)

-- a turn begins by taking all that each line gives, in endpoint order
abbrev pub with_takes : Scene → Progress → Progress
with_takes s f = adds f (takes_below s f.history (ends_of s))

abbrev pub is_unlinked : MarkState → Bool
is_unlinked Clear = false
is_unlinked (Unlinked why) = true
is_unlinked (Finished code) = false

-- the pending URBs that were unlinked, in endpoint order and pending order, of the endpoints below n
abbrev pub marked_below : Scene → List Entry → ℕ → List ℕ
marked_below s h zero = []
marked_below s h (suc e) = marked_below s h e ++ filter (λ u. is_unlinked (state_of h u).mark) (pending_of (machine_of s) h e)

abbrev pub marked_of : Scene → List Entry → List ℕ
marked_of s h = marked_below s h (ends_of s)

-- the replies that the first pending transfer of e, this one, has had when n more came
abbrev pub had_after : Scene → Progress → ℕ → Transfer → ℕ → List Reply
had_after s f e t n = f.so_far e ++ next_due s e (asked_so_far s f e t) (asks s e t n)

-- the next n replies of endpoint e are the first after which the transfer does not go on
pub record GoesTo (s : Scene) (f : Progress) (e : ℕ) (t : Transfer) (n : ℕ) (step : Step) : Type 0 where
  pub some : 0 < n
  pub before : (k : ℕ) → 0 < k → k < n → moved_state (shape_at s e) t (had_after s f e t k) ≡ More
  pub state : moved_state (shape_at s e) t (had_after s f e t n) ≡ step
  pub whole : IsWhole (shape_at s e) t (had_after s f e t n)

-- the URB that is first pending at e, with the transfer that it was submitted with
pub record IsServed (s : Scene) (f : Progress) (e u : ℕ) (t : Transfer) : Type 0 where
  pub others : List ℕ
  pub first : pending_of (machine_of s) f.history e ≡ u ∷ others
  pub transfer : sent_of f.history u ≡ Some t

-- the first of the pending URBs that were unlinked, why it was, and its transfer
pub record IsMarked (s : Scene) (f : Progress) (u : ℕ) (why : Why) (t : Transfer) : Type 0 where
  pub others : List ℕ
  pub first : marked_of s f.history ≡ u ∷ others
  pub mark : (state_of f.history u).mark ≡ Unlinked why
  pub transfer : sent_of f.history u ≡ Some t

-- a submit answers the fault of its shape, or what the URB's gate says, which accepts or refuses it
abbrev pub submit_answer : Option Errno → Code → Code
submit_answer None code = code
submit_answer (Some errno) code = Fault errno

-- what a handler of u that acts so after this history is answered by the gate: where it submits u again, and where it asks
abbrev pub outcome_by : Scene → List Entry → ℕ → Option DriverQuestion → Action → Outcome
outcome_by s h u asking (action.Again from len) = outcome.Again (refusal (state_of h u))
outcome_by s h u (Some a) action.Ask = outcome.Asked (submit_answer (shape_fault (shape_at s (home s a.urb)) a.transfer) (refusal (state_of h a.urb)))
outcome_by s h u asking act = outcome.Rest

abbrev pub outcome_at : Scene → Progress → ℕ → Code → Bool → Transfer → Outcome
outcome_at s f u status finished t = outcome_by s (f.history ++ given_entries u status finished) u (question_at s u) (acts s f.rounds u status t)

abbrev pub round_of : Scene → Progress → ℕ → Code → Bool → Transfer → List Reply → Giveback
round_of s f u status finished t replies =
    record { urb = u; status = status; finished = finished; sent = t; replies = replies; outcome = outcome_at s f u status finished (moved (shape_at s (home s u)) t replies) }

-- a giveback of the first pending URB of its endpoint leaves no replies for the next
abbrev pub given_back : Scene → Progress → Giveback → Progress
given_back s f r = record f {
  history = f.history ++ giveback_entries s r;
  rounds = f.rounds ++ r ∷ [];
  so_far = if is_first r.urb (pending_of (machine_of s) f.history (home s r.urb)) then with_at (home s r.urb) [] f.so_far else f.so_far;
}

-- the replies that a pending URB has had: those of its endpoint, where it is first
abbrev pub replies_had : Scene → Progress → ℕ → List Reply
replies_had s f u = if is_first u (pending_of (machine_of s) f.history (home s u)) then f.so_far (home s u) else []

-- the first pending transfer of e waits after n more replies, and the endpoint sleeps
abbrev pub waits : Scene → Progress → ℕ → Transfer → ℕ → Progress
waits s f e t n = record f { so_far = with_at e (had_after s f e t n) f.so_far; asleep = with_at e true f.asleep }

-- the endpoints below n were gone through, and each slept, had nothing pending, or waits now
pub data Passes (s : Scene) (f : Progress) : ℕ → Progress → Type 0 where
  none : Passes s f 0 f
  over : (e : ℕ) (m : Progress) → Passes s f e m → (m.asleep e ≡ true) ⊎ (pending_of (machine_of s) m.history e ≡ []) → Passes s f (suc e) m
  stops : (e : ℕ) (m : Progress) (u : ℕ) (t : Transfer) (n : ℕ) → Passes s f e m → m.asleep e ≡ false → IsServed s m e u t → GoesTo s m e t n Waiting
      → Passes s f (suc e) (waits s m e t n)

-- a turn that gives one URB back, with its handler: the first that was unlinked, and where none was, the first whose
-- transfer ends
pub data Gives (s : Scene) (f : Progress) : Progress → Type 0 where
  unlinked : (u : ℕ) (why : Why) (t : Transfer) → IsMarked s (with_takes s f) u why t
      → Gives s f (given_back s (with_takes s f) (round_of s (with_takes s f) u (Fault (errno_of why)) false t (replies_had s (with_takes s f) u)))
  ended : (e : ℕ) (m : Progress) (u : ℕ) (t : Transfer) (n : ℕ) (code : Code) → marked_of s (with_takes s f).history ≡ [] → Passes s (with_takes s f) e m → e < ends_of s
      → m.asleep e ≡ false → IsServed s m e u t → GoesTo s m e t n (Ended code)
      → Gives s f (given_back s m (round_of s m u code true t (had_after s m e t n)))

-- a turn that gives nothing back
pub record IsIdle (s : Scene) (f e : Progress) : Type 0 where
  pub none : marked_of s (with_takes s f).history ≡ []
  pub passed : Passes s (with_takes s f) (ends_of s) e

-- turns that each give one URB back
pub data GivesBack (s : Scene) (f : Progress) : Progress → Type 0 where
  none : GivesBack s f f
  one : (m k : Progress) → GivesBack s f m → Gives s m k → GivesBack s f k

-- all endpoints are woken
abbrev pub woken : Progress → Progress
woken f = record f { asleep = λ e. false }

-- URB u is neither queued nor in a handler
abbrev pub is_quiet : UrbState → Bool
is_quiet state = not state.queued && (state.handlers == 0)

-- turns that each give one URB back, none of which leaves u quiet
pub data StaysLoud (s : Scene) (u : ℕ) (f : Progress) : Progress → Type 0 where
  begins : is_quiet (state_of f.history u) ≡ false → StaysLoud s u f f
  goes_on : (m k : Progress) → StaysLoud s u f m → Gives s m k → is_quiet (state_of k.history u) ≡ false → StaysLoud s u f k

-- turns until u is quiet, which are none where it is
pub data WaitsFor (s : Scene) (u : ℕ) (f : Progress) : Progress → Type 0 where
  already : is_quiet (state_of f.history u) ≡ true → WaitsFor s u f f
  turns : (m k : Progress) → StaysLoud s u (woken f) m → Gives s m k → is_quiet (state_of k.history u) ≡ true → WaitsFor s u f k

-- for each of these URBs in turn, a wait until it is quiet, and the claim of what rests with it
pub data ClaimsEach (s : Scene) (p : ℕ) (f : Progress) : List ℕ → List (Option Transfer) → Progress → Type 0 where
  none : ClaimsEach s p f [] [] f
  one : (us : List ℕ) (rests : List (Option Transfer)) (u : ℕ) (m k : Progress) → ClaimsEach s p f us rests m → WaitsFor s u m k
      → ClaimsEach s p f (us ++ u ∷ []) (rests ++ rested_of k.history u ∷ []) (adds k (claim_entries p u (state_of k.history u).rest))

-- the beginning of a kill: a reject, and the mark with the machine's answer
abbrev pub killing : ℕ → ℕ → Progress → Progress
killing p u f = adds f (plain_entry p (Reject record { 0 = u }) ∷ mark_entry p Kill u (unlinking (state_of f.history u)) ∷ [])

abbrev pub with_call_record : Scene → Progress → CallRecord → Progress
with_call_record s f d = record f { call_records = f.call_records ++ d ∷ []; down = down_after f.down (host_call_of s d.call) d.answer }

abbrev pub call_record : Progress → ℕ → Call → CallAnswer → List Code → List (Option Transfer) → CallRecord
call_record f i c answer marks rests = record { thread = i; call = c; answer = answer; marks = marks; rests = rests; down = f.down }

-- the beginning of a shutdown: all URBs are flagged, and then marked with the machine's answers
abbrev pub all_flagged : Scene → ℕ → Progress → Progress
all_flagged s p f = adds f (map (λ u. plain_entry p (Flag record { 0 = u } flag.Down)) (urbs_of s))

abbrev pub shut_marks : Scene → ℕ → Progress → List Code
shut_marks s p f = map (λ u. unlinking (state_of (all_flagged s p f).history u)) (urbs_of s)

abbrev pub shutting : Scene → ℕ → Progress → Progress
shutting s p f = adds (all_flagged s p f) (marks_of p Shutdown (urbs_of s) (shut_marks s p f))

-- how a call of thread i goes that answers at once: its answer
abbrev pub answer_now : Scene → Progress → Call → HostCall → Option CallAnswer
answer_now s f c (host_call.Submit u) = Some (told.Code (submit_answer (submit_fault s u c) (refusal (state_of f.history u))))
answer_now s f c (host_call.Unlink u) = Some (told.Code (unlinking (state_of f.history u)))
answer_now s f c (host_call.Kill u) = None
answer_now s f c (host_call.Poison u) = None
answer_now s f c (host_call.Unpoison u) = Some told.Done
answer_now s f c (host_call.Block u) = Some told.Done
answer_now s f c (host_call.Unblock u) = Some told.Done
answer_now s f c host_call.Serve = None
answer_now s f c host_call.Down = if f.down then Some (told.Code (Fault ESHUTDOWN)) else None
answer_now s f c host_call.Up = Some told.Done
answer_now s f c host_call.Absent = Some (told.Code (Fault ENODEV))
answer_now s f c host_call.Other = None

-- one call of thread i: what it is with its answers, and how far the run is then, before the call is counted
pub data Makes (s : Scene) (f : Progress) (i : ℕ) (c : Call) : CallRecord → Progress → Type 0 where
  at_once : (answer : CallAnswer) → answer_now s f c (host_call_of s c) ≡ Some answer
      → Makes s f i c (call_record f i c answer [] []) (adds f (call_entries s (call_record f i c answer [] [])))
  served : (m e : Progress) → host_call_of s c ≡ host_call.Serve → GivesBack s (woken f) m → IsIdle s m e → Makes s f i c (call_record f i c told.Nothing [] []) e
  killed : (u : ℕ) (m : Progress) → host_call_of s c ≡ host_call.Kill u → WaitsFor s u (killing (pass_of s i) u f) m
      → Makes s f i c (call_record f i c (told.Buffer (state_of m.history u).rest) (unlinking (state_of f.history u) ∷ []) (rested_of m.history u ∷ []))
      (adds m (claim_entries (pass_of s i) u (state_of m.history u).rest ++ unblock_entries (pass_of s i) u))
  poisoned : (u : ℕ) (m : Progress) → host_call_of s c ≡ host_call.Poison u → WaitsFor s u (killing (pass_of s i) u f) m
      → Makes s f i c (call_record f i c (told.Buffer (state_of m.history u).rest) (unlinking (state_of f.history u) ∷ []) (rested_of m.history u ∷ []))
      (adds m (claim_entries (pass_of s i) u (state_of m.history u).rest))
  shut_down : (rests : List (Option Transfer)) (m : Progress) → host_call_of s c ≡ host_call.Down → f.down ≡ false
      → ClaimsEach s (pass_of s i) (shutting s (pass_of s i) f) (urbs_of s) rests m
      → Makes s f i c (call_record f i c told.Done (shut_marks s (pass_of s i) f) rests) m

-- the run after some calls
pub data IsLine (s : Scene) : Progress → Type 0 where
  start : IsLine s (begun s)
  call : (f m : Progress) (i : ℕ) (c : Call) (d : CallRecord) → IsLine s f → i < length s.threads → Makes s f i c d m → IsLine s (with_call_record s m d)

-- each call found the host as all calls before it had left it, of whatever thread
abbrev pub AreDowns : Scene → Bool → List CallRecord → Type 0
AreDowns s b [] = Unit {0}
AreDowns s b (d ∷ ds) = (d.down ≡ b) × AreDowns s (down_after b (host_call_of s d.call) d.answer) ds

-- main kills each URB in rising number
pub data Closes (s : Scene) (f : Progress) : List ℕ → Progress → Type 0 where
  none : Closes s f [] f
  one : (us : List ℕ) (u : ℕ) (m k : Progress) → Closes s f us m → WaitsFor s u (killing (main_pass s) u m) k
      → Closes s f (us ++ u ∷ []) (adds k (claim_entries (main_pass s) u (state_of k.history u).rest ++ unblock_entries (main_pass s) u))

-- the run in line order through all calls of a scene, and its close
pub record IsLineRun (s : Scene) (f : Progress) : Type 0 where
  pub called : Progress
  pub killed : Progress
  pub in_line : IsLine s called
  pub all : map (λ d. (d.thread, d.call)) called.call_records ≡ calls_of s
  pub closes : Closes s called (urbs_of s) killed
  pub seen : f ≡ adds killed (flat_map (seen_quiet (main_pass s)) (urbs_of s))
