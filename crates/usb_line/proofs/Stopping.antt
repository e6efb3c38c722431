-- An URB whose gate is closed and that was unlinked comes back, and is not queued again.
use Rattle.std.proofs.Common.{ℕ, ◌≡◌, ◌+◌, ◌<◌, Bool, true, false, cond, eqb, Option, Some, None, List, [], ◌∷◌, ◌++◌, refl, sym, ap, ◌∙◌, subst, arith, ne_eqb, true≢false}
use mathlib.Core.Logic.{dite}
use native.Mathlib.Decide.{ℕ_discrete}
use Rattle.usb_types.specs.declared.errno.Errno.TheVariants.{EBUSY, ENODEV, EPERM, ENOENT, ESHUTDOWN, EIDRM, EINPROGRESS}
use Rattle.usb_types.specs.declared.errno.Code.{Code}
use Rattle.usb_types.specs.declared.errno.Code.TheVariants.{Zero, Fault}
use Rattle.usb_types.specs.declared.urb.Action.{Action}
use Rattle.usb_types.specs.declared.urb.Action.TheVariants as action
use Rattle.usb_types.specs.declared.urb.Why.{Why}
use Rattle.usb_types.specs.declared.urb.Why.TheVariants.{Kill, Shutdown}
use Rattle.usb_types.specs.declared.urb.Flag.TheVariants as flag
use Rattle.usb_types.specs.Codes.{errno_of}
use Rattle.usb_machine.specs.declared.event.Event.TheVariants.{Reject, Mark, Flag}
use Rattle.usb_machine.specs.declared.event.Answer.TheVariants.{Code as Status}
use Rattle.usb_machine.specs.declared.state.Mark.{Mark as MarkState}
use Rattle.usb_machine.specs.declared.state.Mark.TheVariants.{Clear, Unlinked, Finished}
use Rattle.usb_machine.specs.declared.state.UrbState.{UrbState}
use Rattle.usb_machine.specs.declared.transfer.Transfer.{Transfer}
use Rattle.usb_machine.specs.declared.entry.Entry.{Entry}
use Rattle.usb_machine.specs.State.{refusal, unlinking, is_zero, is_clear, is_in_progress, after}
use Rattle.usb_machine.specs.History.{state_of, line_of}
use Rattle.usb_machine.specs.Legal.{IsLegal, times}
use Rattle.usb_machine.specs.Laws.{bit}
use Rattle.usb_machine.specs.Calls.{plain_entry, mark_entry, claim_entries}
use Rattle.usb_xfer.specs.Replies.{Reply}
use Rattle.usb_xfer.specs.Moved.{moved}
use Rattle.usb_scene.specs.declared.scene.Scene.{Scene}
use Rattle.usb_scene.specs.WellFormed.{IsWellFormed}
use Rattle.usb_trace.specs.declared.rows.Outcome.{Outcome}
use Rattle.usb_trace.specs.declared.rows.Outcome.TheVariants as outcome
use Rattle.usb_prepare.specs.Ends.{ends_of, shape_at}
use Rattle.usb_prepare.specs.Layout.{urb_count, home}
use Rattle.usb_trace.specs.Plan.{machine_of, DriverQuestion, question_at}
use Rattle.usb_trace.specs.Run.{urbs_of, Giveback, given_entries, giveback_entries, acts, moved_in}
use Rattle.usb_line.specs.Line.{Progress, takes_below, with_takes, is_unlinked, marked_of, had_after, outcome_by, round_of, replies_had, Gives, unlinked, ended, IsIdle, woken, StaysLoud, begins, goes_on, WaitsFor, already, turns, killing, all_flagged, shutting}
use Rattle.usb_line.specs.Steps.{IsStopping}
use Rattle.usb_trace.proofs.Entries.{own_state, other_state, legal_after}
use Rattle.usb_line.proofs.Each.{marks_by, each_at}
use Rattle.usb_line.proofs.Takes.{below_state, line_below, below_follow}
use Rattle.usb_line.proofs.Givebacks.{resubmits, handled_state, given_state, giveback_state, giveback_other, apart_any, refused_apart}
use Rattle.usb_line.specs.Between.{is_finished, IsCalm, AllLinked}
use Rattle.usb_line.proofs.Calm.{linked_takes, linked_giveback, calm_places}
use Rattle.usb_line.proofs.Marked.{is_marked}
use Rattle.usb_line.proofs.Turns.{passed, outcome_gated}
use Rattle.usb_line.proofs.Posing.{can_pose_any}

module _ (u : ℕ) where
  abbrev pub Stops : List Entry → Type 0
  Stops h = IsStopping (state_of h u)

  module _ (s : Scene) (good : IsWellFormed s) (f : Progress) (v : ℕ) (status : Code) (finished : Bool) (t : Transfer) (replies : List Reply) where
    abbrev r : Giveback
    r = round_of s f v status finished t replies

    refused_again : is_zero (refusal (record (state_of f.history v) { queued = false })) ≡ false → resubmits r.outcome ≡ false
    refused_again shut = go (question_at s v) (acts s f.rounds v status (moved (shape_at s (home s v)) t replies))
      where
        go : (asking : Option DriverQuestion) (act : Action) → resubmits (outcome_by s (f.history ++ given_entries v status finished) v asking act) ≡ false
        go asking (action.Again from len) = ap (λ (t : UrbState). is_zero (refusal t)) (given_state v status f.history finished) ∙ shut
        go asking action.Rest = refl
        go (Some a) action.Ask = refl
        go None action.Ask = refl

    -- the gate refuses it now too
    refused_now : IsStopping (state_of f.history u) → is_zero (refusal (state_of f.history u)) ≡ false
    refused_now stops = go (state_of f.history u).queued refl
      where
        go : (b : Bool) → (state_of f.history u).queued ≡ b → is_zero (refusal (state_of f.history u)) ≡ false
        go true is = ap (λ b. is_zero (refusal (record (state_of f.history u) { queued = b }))) is
        go false is = ap (λ b. is_zero (refusal (record (state_of f.history u) { queued = b }))) is ∙ stops.refused

    stop_back : Stops f.history → Stops (f.history ++ giveback_entries s r)
    stop_back old = dite (ℕ_discrete u v)
        (λ is. let at : IsStopping (state_of f.history v) = subst (λ (u : ℕ). IsStopping (state_of f.history u)) is old in
        subst (λ (u : ℕ). IsStopping (state_of (f.history ++ giveback_entries s r) u)) (sym is)
        (subst IsStopping (sym (giveback_state s f.history r (apart_any s v (question_at s v) (can_pose_any s good v)))) (go at r.outcome (refused_again at.refused))))
        (λ off. subst IsStopping (sym (giveback_other s f.history r u off
        (refused_apart s f.history r (can_pose_any s good v) (outcome_gated s f v status finished (moved (shape_at s (home s v)) t replies)) u (refused_now old)))) old)
      where
        go : IsStopping (state_of f.history v) → (o : Outcome) → resubmits o ≡ false → IsStopping (handled_state o (moved_in s r).number (record (state_of f.history v) { queued = false; mark = Clear }))
        go at outcome.Rest e = record { refused = at.refused; unlinked = λ q. absurd (true≢false (sym q)) }
        go at (outcome.Again Zero) e = absurd (true≢false e)
        go at (outcome.Again (Fault c)) e = record { refused = at.refused; unlinked = λ q. absurd (true≢false (sym q)) }
        go at (outcome.Asked c) e = record { refused = at.refused; unlinked = λ q. absurd (true≢false (sym q)) }

  stop_takes : (s : Scene) (f : Progress) → Stops f.history → Stops (with_takes s f).history
  stop_takes s f old = subst IsStopping (sym (below_state s f.history (ends_of s) u)) old

  pub stop_gives : (s : Scene) → IsWellFormed s → (f k : Progress) → Gives s f k → Stops f.history → Stops k.history
  stop_gives s good f _ (unlinked v why t is) old = stop_back s good (with_takes s f) v (Fault (errno_of why)) false t (replies_had s (with_takes s f) v) (stop_takes s f old)
  stop_gives s good f _ (ended e m v t n code unmarked passes near awake at goes) old =
      stop_back s good m v code true t (had_after s m e t n) (subst Stops (sym (passed s (with_takes s f) m e passes).history) (stop_takes s f old))

  stop_loud : (s : Scene) → IsWellFormed s → (w : ℕ) (f m : Progress) → StaysLoud s w f m → Stops f.history → Stops m.history
  stop_loud s good w f _ (begins loud) old = old
  stop_loud s good w f _ (goes_on m k before turn loud) old = stop_gives s good m k turn (stop_loud s good w f m before old)

  -- turns, and waits for any URB, leave it stopping
  pub stop_waits : (s : Scene) → IsWellFormed s → (w : ℕ) (f k : Progress) → WaitsFor s w f k → Stops f.history → Stops k.history
  stop_waits s good w f _ (already quiet) old = old
  stop_waits s good w f _ (turns m k before turn quiet) old = stop_gives s good m k turn (stop_loud s good w (woken f) m before old)

  pub stop_claim : (p v : ℕ) (rest : Option ℕ) (h : List Entry) → Stops h → Stops (h ++ claim_entries p v rest)
  stop_claim p v rest h old = dite (ℕ_discrete u v)
      (λ is. subst (λ (v : ℕ). Stops (h ++ claim_entries p v rest)) is (subst IsStopping (sym (own_state u h (claim_entries p u rest) (tt, refl, (tt, refl, tt)))) record { refused = old.refused; unlinked = old.unlinked }))
      (λ off. subst IsStopping (sym (other_state v h (claim_entries p v rest) (tt, refl, (tt, refl, tt)) u off)) old)

-- no Link is owed after turns
module _ (s : Scene) where
  pub linked_gives : (f k : Progress) → Gives s f k → AllLinked f.history → AllLinked k.history
  linked_gives f _ (unlinked v why t is) old = linked_giveback s (with_takes s f).history (round_of s (with_takes s f) v (Fault (errno_of why)) false t (replies_had s (with_takes s f) v)) (linked_takes s f.history (ends_of s) old)
  linked_gives f _ (ended e m v t n code unmarked passes near awake at goes) old =
      linked_giveback s m.history (round_of s m v code true t (had_after s m e t n)) (subst AllLinked (sym (passed s (with_takes s f) m e passes).history) (linked_takes s f.history (ends_of s) old))

  linked_loud : (w : ℕ) (f m : Progress) → StaysLoud s w f m → AllLinked f.history → AllLinked m.history
  linked_loud w f _ (begins loud) old = old
  linked_loud w f _ (goes_on m k before turn loud) old = linked_gives m k turn (linked_loud w f m before old)

  pub linked_waits : (w : ℕ) (f k : Progress) → WaitsFor s w f k → AllLinked f.history → AllLinked k.history
  linked_waits w f _ (already quiet) old = old
  linked_waits w f _ (turns m k before turn quiet) old = linked_gives m k turn (linked_loud w (woken f) m before old)

  -- where a turn gives nothing back, the URB is not queued
  pub idle_out : (f e : Progress) (u : ℕ) → home s u < ends_of s → IsIdle s f e → IsLegal (machine_of s) f.history → AllLinked f.history → IsStopping (state_of f.history u) → (state_of f.history u).queued ≡ false
  idle_out f e u near idle old linked stops = go (state_of f.history u).queued refl
    where
      go : (b : Bool) → (state_of f.history u).queued ≡ b → (state_of f.history u).queued ≡ false
      go false is = is
      go true is =
          let h : List Entry = (with_takes s f).history in
          let same = below_state s f.history (ends_of s) u in
          let places = calm_places (machine_of s) h u (legal_after (machine_of s) f.history (takes_below s f.history (ends_of s)) old (below_follow s f.history (ends_of s))) (linked_takes s f.history (ends_of s) linked) in
          let queued : bit (state_of h u).queued ≡ 1 = ap (λ (t : UrbState). bit t.queued) same ∙ ap bit is in
          let line : times u (line_of (machine_of s) h (home s u)) ≡ 0 = ap (times u) (line_below s f.history (ends_of s) (home s u) near) in
          let mark : is_unlinked (state_of h u).mark ≡ true = ap (λ (t : UrbState). is_unlinked t.mark) same ∙ stops.unlinked is in
          let among = is_marked s h u (home s u) near (omega arith) mark in
          let none : times u (marked_of s h) ≡ 0 = ap (times u) idle.none in
          absurd (omega arith)

unlinked_now : (m : MarkState) → is_finished m ≡ false → is_clear m ≡ false → is_unlinked m ≡ true
unlinked_now Clear a b = absurd (true≢false b)
unlinked_now (Unlinked why) a b = refl
unlinked_now (Finished code) a b = absurd (true≢false a)

-- a mark leaves an URB whose gate is closed stopping
module _ (t : UrbState) (rest : is_finished t.mark ≡ false) (why : Why) where
  abbrev marked : UrbState
  marked = after (Mark record { 0 = 0 } why) (Status (unlinking t)) t

  marked_is : (q c : Bool) → t.queued ≡ q → is_clear t.mark ≡ c
      → marked ≡ cond (is_in_progress (cond q (cond c (Fault EINPROGRESS) (Fault EBUSY)) (Fault EIDRM))) (record t { mark = Unlinked why }) t
  marked_is q c is clear i = cond (is_in_progress (cond (is i) (cond (clear i) (Fault EINPROGRESS) (Fault EBUSY)) (Fault EIDRM))) (record t { mark = Unlinked why }) t

  stop_marked : is_zero (refusal (record t { queued = false })) ≡ false → IsStopping marked
  stop_marked shut = go t.queued (is_clear t.mark) refl refl
    where
      go : (q c : Bool) → t.queued ≡ q → is_clear t.mark ≡ c → IsStopping marked
      go false c is clear = subst IsStopping (sym (marked_is false c is clear)) record { refused = shut; unlinked = λ q. absurd (true≢false (sym q ∙ is)) }
      go true true is clear = subst IsStopping (sym (marked_is true true is clear)) record { refused = shut; unlinked = λ q. refl }
      go true false is clear = subst IsStopping (sym (marked_is true false is clear)) record { refused = shut; unlinked = λ q. unlinked_now t.mark rest clear }

-- the gate is closed under a reject, and under a flag
shut_reject : (t : UrbState) → is_zero (refusal (record t { queued = false; rejects = t.rejects + 1 })) ≡ false
shut_reject t = ap (λ b. is_zero (cond t.flags.gone (Fault ENODEV) (cond b (cond t.flags.off (Fault ENOENT) (cond t.flags.down (Fault ESHUTDOWN) Zero)) (Fault EPERM)))) (ne_eqb 0 (t.rejects + 1) (λ e. absurd (omega arith)))
    ∙ go t.flags.gone
  where
    go : (b : Bool) → is_zero (cond b (Fault ENODEV) (Fault EPERM)) ≡ false
    go true = refl
    go false = refl

shut_down : (t : UrbState) → is_zero (refusal (record t { queued = false; flags = record t.flags { down = true } })) ≡ false
shut_down t = go t.flags.gone t.flags.off (eqb 0 t.rejects)
  where
    go : (a b c : Bool) → is_zero (cond a (Fault ENODEV) (cond c (cond b (Fault ENOENT) (Fault ESHUTDOWN)) (Fault EPERM))) ≡ false
    go true b c = refl
    go false true true = refl
    go false false true = refl
    go false b false = refl

module _ (f : Progress) (calm : IsCalm f.history) (p : ℕ) where
  -- an URB whose kill has begun is stopping
  pub stop_killing : (u : ℕ) → IsStopping (state_of (killing p u f).history u)
  stop_killing u = subst IsStopping
      (sym (own_state u f.history (plain_entry p (Reject record { 0 = u }) ∷ mark_entry p Kill u (unlinking (state_of f.history u)) ∷ []) (tt, refl, (tt, refl, tt))))
      (stop_marked (record (state_of f.history u) { rejects = (state_of f.history u).rejects + 1 }) (calm u).mark Kill (shut_reject (state_of f.history u)))

  -- and so are all once the host was flagged down and they were marked
  pub stop_shutting : (s : Scene) (u : ℕ) → u < urb_count s → IsStopping (state_of (shutting s p f).history u)
  stop_shutting s u near =
      let h : List Entry = (all_flagged s p f).history in
      let answer : ℕ → Code = λ u. unlinking (state_of h u) in
      let at : state_of h u ≡ record (state_of f.history u) { flags = record (state_of f.history u).flags { down = true } }
      = each_at (λ u. plain_entry p (Flag record { 0 = u } flag.Down)) (λ u. (tt, refl)) f.history (urb_count s) u near in
      subst (λ xs. IsStopping (state_of (h ++ xs) u)) (sym (marks_by p Shutdown answer (urbs_of s)))
      (subst IsStopping (sym (each_at (λ u. mark_entry p Shutdown u (answer u)) (λ u. (tt, refl)) h (urb_count s) u near))
      (subst (λ (t : UrbState). IsStopping (after (Mark record { 0 = u } Shutdown) (Status (unlinking t)) t)) (sym at)
      (stop_marked (record (state_of f.history u) { flags = record (state_of f.history u).flags { down = true } }) (calm u).mark Shutdown (shut_down (state_of f.history u)))))
