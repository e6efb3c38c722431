-- What main, the threads and the handlers send their URBs may have.
use Rattle.std.proofs.Common.{ℕ, zero, suc, ◌≡◌, Bool, true, false, cond, not, Option, Some, None, List, [], ◌∷◌, ◌++◌, map, refl, sym, ap, ◌∙◌, subst, true≢false}
use Rattle.std.specs.Prelude.{All}
use Rattle.std.specs.List.{flat_map}
use Rattle.std.proofs.lemmas.List.Elements.{All-head, All-tail}
use Rattle.usb_types.specs.declared.errno.Errno.{Errno}
use Rattle.usb_types.specs.declared.errno.Code.{Code}
use Rattle.usb_types.specs.declared.errno.Code.TheVariants.{Zero, Fault}
use Rattle.usb_types.specs.declared.urb.Flag.TheVariants as flag
use Rattle.usb_types.specs.declared.urb.Why.TheVariants.{Shutdown}
use Rattle.usb_machine.specs.declared.entry.TheConstants.{SERVER}
use Rattle.usb_machine.specs.declared.event.Event.{Event}
use Rattle.usb_machine.specs.declared.event.Event.TheVariants.{Submit, Flag, End}
use Rattle.usb_machine.specs.declared.event.Answer.{Answer}
use Rattle.usb_machine.specs.declared.transfer.Transfer.{Transfer}
use Rattle.usb_machine.specs.declared.entry.Entry.{Entry}
use Rattle.usb_machine.specs.Shapes.{shape_fault}
use Rattle.usb_machine.specs.State.{is_zero}
use Rattle.usb_machine.specs.Calls.{plain_entry, submit_entries, marks_of, claims_of}
use Rattle.usb_scene.specs.declared.scene.Scene.{Scene}
use Rattle.usb_scene.specs.declared.scene.Call.{Call as SceneCall}
use Rattle.usb_scene.specs.WellFormed.{IsCall, IsWellFormed}
use Rattle.usb_prepare.specs.Ends.{shape_at}
use Rattle.usb_prepare.specs.Layout.{home}
use Rattle.usb_trace.specs.declared.rows.HostCall.{HostCall}
use Rattle.usb_trace.specs.declared.rows.HostCall.TheVariants as host_call
use Rattle.usb_trace.specs.declared.rows.CallAnswer.{CallAnswer}
use Rattle.usb_trace.specs.declared.rows.CallAnswer.TheVariants as told
use Rattle.usb_trace.specs.declared.rows.Outcome.{Outcome}
use Rattle.usb_trace.specs.declared.rows.Outcome.TheVariants as outcome
use Rattle.usb_trace.specs.Plan.{owner_of, number_of, read_of, fresh, submit_fault, host_call_of, pass_of, main_pass, DriverQuestion, question_at}
use Rattle.usb_trace.specs.Claims.{numbers_of}
use Rattle.usb_trace.specs.Run.{CallRecord, Giveback, urbs_of, submit_of, killed_by, host_call_entries, call_entries, read_entries_by, read_entries, moved_in, resent, rest_entry, asked_entries, given_entries, is_aside, kills_of, seen_quiet, closing}
use Rattle.usb_trace.proofs.AskedEach.{asked_each}
use Rattle.usb_trace.proofs.Stills.{IsStill, AreStill, flags_still, unflags_still, marks_still}
use Rattle.usb_trace.specs.Devices.{IsApt}
use Rattle.usb_trace.proofs.Apt.{bare_apt}
use Rattle.usb_line.proofs.OnInterface.{fresh_apt}
use Rattle.usb_line.proofs.Posing.{asking_apt}
use Rattle.usb_line.proofs.Resending.{resent_apt}
use Rattle.usb_line.proofs.Reading.{read_parts}
use Rattle.usb_line.proofs.ReadsFollow.{reads, reads-push}
use Rattle.usb_line.proofs.Closing.{seen_still}
use Rattle.usb_threads.specs.Apt.{SendsApt}
use Rattle.usb_threads.specs.Serving.{completed_by, completion_entries}
use Rattle.usb_threads.proofs.Sending.{SendEach, SendEach-append}

module _ (s : Scene) where
  still_sends : (e : Event) (c : Option Transfer) → IsStill e → SendsApt s e c
  still_sends (Submit u n) c is = absurd is
  still_sends _ c is = tt

  -- entries that move no URB send nothing
  stills_send : (xs : List Entry) → AreStill xs → SendEach s xs
  stills_send [] is = tt
  stills_send (x ∷ xs) is = (still_sends x.event x.carried is.0, stills_send xs is.1)

  -- nor do those that stand aside
  pub aside_sends : (e : Event) (a : Answer) (c : Option Transfer) → not (is_aside e a) ≡ false → SendsApt s e c
  aside_sends (Submit u n) a c is = absurd (true≢false is)
  aside_sends _ a c is = tt

  submit_sends : (p u : ℕ) (t : Transfer) (c : Code) → IsApt s u t → SendEach s (submit_entries p u t c)
  submit_sends p u t Zero apt = (apt, (tt, tt))
  submit_sends p u t (Fault e) apt = (apt, tt)

  -- a giveback sends nothing itself
  pub given_sends : (u : ℕ) (status : Code) (finished : Bool) → SendEach s (given_entries u status finished)
  given_sends u status true = (tt, (tt, tt))
  given_sends u status false = (tt, tt)

  kills_send : (p : ℕ) (us : List ℕ) (marks : List Code) (rests : List (Option ℕ)) → SendEach s (kills_of p us marks rests)
  kills_send p [] marks rests = tt
  kills_send p (u ∷ us) [] rests = tt
  kills_send p (u ∷ us) (a ∷ marks) [] = tt
  kills_send p (u ∷ us) (a ∷ marks) (rest ∷ rests) = (tt, (tt, (tt, (tt, (tt, kills_send p us marks rests)))))

  claims_send : (p : ℕ) (us : List ℕ) (rests : List (Option ℕ)) → SendEach s (claims_of p us rests)
  claims_send p [] rests = tt
  claims_send p (u ∷ us) [] = tt
  claims_send p (u ∷ us) (rest ∷ rests) = (tt, (tt, claims_send p us rests))

  -- main's close sends nothing
  pub closing_sends : (marks : List Code) (rests : List (Option ℕ)) → SendEach s (closing s marks rests)
  closing_sends marks rests = let p = main_pass s in
      SendEach-append s (kills_of p (urbs_of s) marks rests) (flat_map (seen_quiet p) (urbs_of s)) (kills_send p (urbs_of s) marks rests) (stills_send (flat_map (seen_quiet p) (urbs_of s)) (seen_still p (urbs_of s)))

  killed_send : (f : Code → List Entry) (marks : List Code) → ((a : Code) → SendEach s (f a)) → SendEach s (killed_by f marks)
  killed_send f [] each = tt
  killed_send f (a ∷ marks) each = each a

  flush_sends : (p : ℕ) (us : List ℕ) (marks : List Code) (rests : List (Option ℕ)) → SendEach s (map (λ u. plain_entry p (Flag record { 0 = u } flag.Down)) us ++ marks_of p Shutdown us marks ++ claims_of p us rests)
  flush_sends p us marks rests =
      let flags = map (λ u. plain_entry p (Flag record { 0 = u } flag.Down)) us in
      let marked = marks_of p Shutdown us marks in
      SendEach-append s (flags ++ marked) (claims_of p us rests)
      (SendEach-append s flags marked (stills_send flags (flags_still p flag.Down us)) (stills_send marked (marks_still p Shutdown us marks)))
      (claims_send p us rests)

  module _ (good : IsWellFormed s) where
    -- the reads of the drivers
    read_sends : (u : ℕ) → SendEach s (read_entries s u)
    read_sends u = go (read_of s u) refl
      where
        at : (t : Transfer) → read_of s u ≡ Some t → (fault : Option Errno) → shape_fault (shape_at s (home s u)) t ≡ fault → SendEach s (submit_of fault (main_pass s) u t Zero)
        at t is (Some e) takes = tt
        at t is None takes = let parts = read_parts (owner_of s u) (number_of s u) t is in
            submit_sends (main_pass s) u t Zero (bare_apt s good u parts.0 parts.2 t (ap (λ (t : Transfer). t.setup) parts.4) takes)

        go : (o : Option Transfer) → read_of s u ≡ o → SendEach s (read_entries_by s u o)
        go None is = tt
        go (Some t) is = at t is (shape_fault (shape_at s (home s u)) t) refl

    pub reads_send : (n : ℕ) → SendEach s (reads s n)
    reads_send zero = tt
    reads_send (suc n) = subst (SendEach s) (sym (reads-push s n)) (SendEach-append s (reads s n) (read_entries s n) (reads_send n) (read_sends n))

    -- a call of a script
    module _ (p : ℕ) (c : SceneCall) (is : IsCall s c) (marks : List Code) (rests : List (Option ℕ)) where
      fresh_sends : (u : ℕ) (a : Code) → host_call_of s c ≡ host_call.Submit u → (fault : Option Errno) → submit_fault s u c ≡ fault → SendEach s (submit_of fault p u (fresh s u c) a)
      fresh_sends u a does (Some e) takes = tt
      fresh_sends u a does None takes = submit_sends p u (fresh s u c) a (fresh_apt s good u c is does takes)

      up_sends : (down : Bool) → SendEach s (host_call_entries s p c host_call.Up told.Done marks rests down)
      up_sends true = stills_send (host_call_entries s p c host_call.Up told.Done marks rests true) (unflags_still p flag.Down (urbs_of s))
      up_sends false = tt

      host_call_sends : (x : HostCall) (a : CallAnswer) (down : Bool) → host_call_of s c ≡ x → SendEach s (host_call_entries s p c x a marks rests down)
      host_call_sends (host_call.Submit u) (told.Code a) down does = fresh_sends u a does (submit_fault s u c) refl
      host_call_sends (host_call.Unlink u) (told.Code a) down does = (tt, tt)
      host_call_sends (host_call.Kill u) (told.Buffer n) down does = killed_send _ marks (λ a. (tt, (tt, (tt, (tt, (tt, tt))))))
      host_call_sends (host_call.Poison u) (told.Buffer n) down does = killed_send _ marks (λ a. (tt, (tt, (tt, (tt, tt)))))
      host_call_sends (host_call.Unpoison u) told.Done down does = (tt, tt)
      host_call_sends (host_call.Block u) told.Done down does = (tt, tt)
      host_call_sends (host_call.Unblock u) told.Done down does = (tt, tt)
      host_call_sends host_call.Down told.Done down does = flush_sends p (urbs_of s) marks rests
      host_call_sends host_call.Up told.Done down does = up_sends down
      host_call_sends _ a down does = tt

    call_sends : (d : CallRecord) → IsCall s d.call → SendEach s (call_entries s d)
    call_sends d is = host_call_sends (pass_of s d.thread) d.call is d.marks (numbers_of d.rests) (host_call_of s d.call) d.answer d.down refl

    pub calls_send : (ds : List CallRecord) → All (IsCall s) (map (λ (d : CallRecord). d.call) ds) → SendEach s (flat_map (call_entries s) ds)
    calls_send [] are = tt
    calls_send (d ∷ ds) are = let rest = map (λ (d : CallRecord). d.call) ds in
        SendEach-append s (call_entries s d) (flat_map (call_entries s) ds) (call_sends d (All-head (IsCall s) d.call rest are)) (calls_send ds (All-tail (IsCall s) d.call rest are))

    -- the handler of a giveback, whose transfer its URB could have
    asked_send : (u : ℕ) (asking : Option DriverQuestion) (c : Code) → question_at s u ≡ asking → SendEach s (asked_entries s asking c)
    asked_send u asking c is = asked_each s (SendEach s) asking c tt (λ a e none. submit_sends SERVER a.urb a.transfer c (asking_apt s good u a (is ∙ e)))

    module _ (r : Giveback) (apt : IsApt s r.urb r.sent) where
      again_apt : IsApt s r.urb (resent s r)
      again_apt = resent_apt s r.urb r.sent r.replies r.status apt

      resent_sends : (fault : Option Errno) (c : Code) → SendEach s (submit_of fault SERVER r.urb (resent s r) c)
      resent_sends (Some e) c = tt
      resent_sends None c = submit_sends SERVER r.urb (resent s r) c again_apt

      rested_sends : (c : Code) → SendEach s (cond (is_zero c) [] (rest_entry SERVER r.urb (resent s r) ∷ []))
      rested_sends Zero = tt
      rested_sends (Fault e) = (tt, tt)

      completed_sends : (o : Outcome) → SendEach s (completed_by s r.urb (moved_in s r) (resent s r) (question_at s r.urb) o)
      completed_sends outcome.Rest = (tt, tt)
      completed_sends (outcome.Again c) = let fault = shape_fault (shape_at s (home s r.urb)) (resent s r) in
          SendEach-append s (submit_of fault SERVER r.urb (resent s r) c) (cond (is_zero c) [] (rest_entry SERVER r.urb (resent s r) ∷ [])) (resent_sends fault c) (rested_sends c)
      completed_sends (outcome.Asked c) = (tt, asked_send r.urb (question_at s r.urb) c refl)

      pub completion_sends : SendEach s (completion_entries s r)
      completion_sends = SendEach-append s (completed_by s r.urb (moved_in s r) (resent s r) (question_at s r.urb) r.outcome) (plain_entry SERVER (End record { 0 = r.urb }) ∷ [])
          (completed_sends r.outcome) (tt, tt)
