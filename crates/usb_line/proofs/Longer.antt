-- A run only adds to its history.
use Rattle.std.proofs.Common.{ℕ, ◌≡◌, true, false, Option, List, [], ◌++◌, map, refl, sym, ap, ◌∙◌, append_assoc, append-nil}
use Rattle.usb_types.specs.declared.errno.Code.TheVariants.{Fault}
use Rattle.usb_types.specs.declared.urb.Why.TheVariants.{Shutdown}
use Rattle.usb_types.specs.declared.urb.Flag.TheVariants as flag
use Rattle.usb_types.specs.Codes.{errno_of}
use Rattle.usb_machine.specs.declared.event.Event.TheVariants.{Flag}
use Rattle.usb_machine.specs.declared.transfer.Transfer.{Transfer}
use Rattle.usb_machine.specs.declared.entry.Entry.{Entry}
use Rattle.usb_machine.specs.History.{state_of}
use Rattle.usb_machine.specs.Calls.{plain_entry, marks_of, claim_entries, unblock_entries}
use Rattle.usb_scene.specs.declared.scene.Scene.{Scene}
use Rattle.usb_scene.specs.declared.scene.Call.{Call}
use Rattle.usb_prepare.specs.Ends.{ends_of}
use Rattle.usb_trace.specs.Plan.{pass_of, main_pass}
use Rattle.usb_trace.specs.Run.{urbs_of, CallRecord, Giveback, giveback_entries, call_entries}
use Rattle.usb_line.specs.Line.{Progress, begun, adds, takes_below, with_takes, round_of, replies_had, had_after, killing, Gives, unlinked, ended, GivesBack, none, one, IsIdle, woken, StaysLoud, begins, goes_on, WaitsFor, already, turns, ClaimsEach, call_record, with_call_record, all_flagged, shut_marks, shutting, Makes, at_once, served, killed, poisoned, shut_down, IsLine, start, call, Closes}
use Rattle.usb_line.proofs.Turns.{passed}

-- a history that another begins
abbrev pub IsLonger : Progress → Progress → Type 0
IsLonger f m = (ys : List Entry) × (m.history ≡ f.history ++ ys)

pub longer_none : (f : Progress) → IsLonger f f
longer_none f = ([], sym (append-nil f.history))

pub longer_on : (f m k : Progress) → IsLonger f m → IsLonger m k → IsLonger f k
longer_on f m k a b = (a.0 ++ b.0, b.1 ∙ (ap (λ l. l ++ b.0) a.1 ∙ append_assoc f.history a.0 b.0))

pub longer_by : (f : Progress) (ys : List Entry) → IsLonger f (adds f ys)
longer_by f ys = (ys, refl)

module _ (s : Scene) where
  gives_longer : (f k : Progress) → Gives s f k → IsLonger f k
  gives_longer f _ (unlinked u why t is) =
      let r : Giveback = round_of s (with_takes s f) u (Fault (errno_of why)) false t (replies_had s (with_takes s f) u) in
      (takes_below s f.history (ends_of s) ++ giveback_entries s r, append_assoc f.history (takes_below s f.history (ends_of s)) (giveback_entries s r))
  gives_longer f _ (ended e m u t n code unmarked passes near awake at goes) =
      let r : Giveback = round_of s m u code true t (had_after s m e t n) in let same = passed s (with_takes s f) m e passes in
      (takes_below s f.history (ends_of s) ++ giveback_entries s r, ap (λ l. l ++ giveback_entries s r) same.history ∙ append_assoc f.history (takes_below s f.history (ends_of s)) (giveback_entries s r))

  loud_longer : (u : ℕ) (f m : Progress) → StaysLoud s u f m → IsLonger f m
  loud_longer u f _ (begins loud) = longer_none f
  loud_longer u f _ (goes_on m k before turn loud) = longer_on f m k (loud_longer u f m before) (gives_longer m k turn)

  pub wait_longer : (u : ℕ) (f k : Progress) → WaitsFor s u f k → IsLonger f k
  wait_longer u f _ (already quiet) = longer_none f
  wait_longer u f _ (turns m k before turn quiet) = let a = loud_longer u (woken f) m before in longer_on f m k (a.0, a.1) (gives_longer m k turn)

  gives_back_longer : (f m : Progress) → GivesBack s f m → IsLonger f m
  gives_back_longer f _ none = longer_none f
  gives_back_longer f _ (one m k before turn) = longer_on f m k (gives_back_longer f m before) (gives_longer m k turn)

  idle_longer : (f e : Progress) → IsIdle s f e → IsLonger f e
  idle_longer f e idle = (takes_below s f.history (ends_of s), (passed s (with_takes s f) e (ends_of s) idle.passed).history)

  -- a kill begins, waits, and then adds what is seen
  pub waited_longer : (p u : ℕ) (f k : Progress) → WaitsFor s u (killing p u f) k → IsLonger f k
  waited_longer p u f k waits = longer_on f (killing p u f) k (longer_by f _) (wait_longer u (killing p u f) k waits)

  kill_longer : (p u : ℕ) (f k : Progress) (ys : List Entry) → WaitsFor s u (killing p u f) k → IsLonger f (adds k ys)
  kill_longer p u f k ys waits = longer_on f k (adds k ys) (waited_longer p u f k waits) (longer_by k ys)

  claims_longer : (p : ℕ) (f : Progress) (us : List ℕ) (rests : List (Option Transfer)) (m : Progress) → ClaimsEach s p f us rests m → IsLonger f m
  claims_longer p f _ _ _ none = longer_none f
  claims_longer p f _ _ _ (one us rests u m k before waits) =
      let xs : List Entry = claim_entries p u (state_of k.history u).rest in
      longer_on f m (adds k xs) (claims_longer p f us rests m before) (longer_on m k (adds k xs) (wait_longer u m k waits) (longer_by k xs))

  pub makes_longer : (f : Progress) (i : ℕ) (c : Call) (d : CallRecord) (m : Progress) → Makes s f i c d m → IsLonger f m
  makes_longer f i c _ _ (at_once answer e) = longer_by f (call_entries s (call_record f i c answer [] []))
  makes_longer f i c _ e (served m _ is gave idle) = let a = gives_back_longer (woken f) m gave in longer_on f m e (a.0, a.1) (idle_longer m e idle)
  makes_longer f i c _ _ (killed u m is waits) = kill_longer (pass_of s i) u f m (claim_entries (pass_of s i) u (state_of m.history u).rest ++ unblock_entries (pass_of s i) u) waits
  makes_longer f i c _ _ (poisoned u m is waits) = kill_longer (pass_of s i) u f m (claim_entries (pass_of s i) u (state_of m.history u).rest) waits
  makes_longer f i c _ m (shut_down rests _ is up claims) =
      let p : ℕ = pass_of s i in
      let flags : List Entry = map (λ u. plain_entry p (Flag record { 0 = u } flag.Down)) (urbs_of s) in
      longer_on f (all_flagged s p f) m (longer_by f flags)
      (longer_on (all_flagged s p f) (shutting s p f) m (longer_by (all_flagged s p f) (marks_of p Shutdown (urbs_of s) (shut_marks s p f))) (claims_longer p (shutting s p f) (urbs_of s) rests m claims))

  -- the run goes on from the drivers' reads
  pub line_longer : (f : Progress) → IsLine s f → IsLonger (begun s) f
  line_longer _ start = longer_none (begun s)
  line_longer _ (call f m i c d line near makes) = let a = makes_longer f i c d m makes in longer_on (begun s) f (with_call_record s m d) (line_longer f line) (a.0, a.1)

  pub closes_longer : (f : Progress) (us : List ℕ) (m : Progress) → Closes s f us m → IsLonger f m
  closes_longer f _ _ none = longer_none f
  closes_longer f _ _ (one us u m k before waits) =
      let last : List Entry = claim_entries (main_pass s) u (state_of k.history u).rest ++ unblock_entries (main_pass s) u in
      longer_on f m (adds k last) (closes_longer f us m before) (kill_longer (main_pass s) u m k last waits)
