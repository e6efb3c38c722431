-- The windows of a driver's transfer follow one another.
use Rattle.std.proofs.Common.{◌≡◌, Bool, true, false, Option, Some, None, List, [], ◌∷◌, ◌++◌, refl, sym, ap, ◌∙◌, subst, append_assoc, append-nil, true≢false, if◌then◌else◌, not, ◌&&◌, ℕ, min, ◌*◌}
use Rattle.usb_types.specs.declared.errno.Code.TheVariants.{Zero}
use Rattle.usb_types.specs.declared.urb.Action.{Action}
use Rattle.usb_types.specs.declared.urb.Action.TheVariants.{Rest, Again, Ask}
use Rattle.usb_machine.specs.declared.transfer.Transfer.{Transfer}
use Rattle.usb_class.specs.Handler.{action_of, window_by}
use Rattle.usb_machine.specs.declared.layout.Shape.{Shape}
use Rattle.usb_machine.specs.declared.entry.Entry.{Entry}
use Rattle.usb_xfer.specs.Direction.{Direction, In, Out, ControlIn, ControlOut, is_control, goes_in, setup_in}
use Rattle.usb_xfer.specs.Replies.{Reply}
use Rattle.usb_xfer.specs.Output.{acks}
use Rattle.usb_xfer.specs.Moved.{moved, moved_by}
use Rattle.usb_printer.specs.Whole.{IsMovedOn}
use Rattle.usb_scene.specs.declared.scene.Scene.{Scene}
use Rattle.usb_prepare.specs.Ends.{shape_at}
use Rattle.usb_prepare.specs.Layout.{home}
use Rattle.usb_class.specs.declared.owner.Owner.{Owner}
use Rattle.usb_trace.specs.declared.rows.Outcome.TheVariants as outcome
use Rattle.usb_trace.specs.Plan.{owner_of, DriverQuestion, question_at}
use Rattle.usb_trace.specs.Run.{CallRecord, IsRun, times_back, Giveback, moved_in, resent, resent_as, may_again, question_out, asks_or_rests, acts, IsHandled, AreHandled}
use Rattle.usb_class.specs.Handlers.{action_by}
use Rattle.usb_trace.specs.RunLaws.{takes_packets}
use Rattle.usb_trace.proofs.Carrying.{sent_on}

-- the handler of a giveback in a run did what its driver says
pub handled_at : (s : Scene) (m before : List Giveback) (r : Giveback) (behind : List Giveback) → AreHandled s m (before ++ r ∷ behind) → IsHandled (acts s (m ++ before) r.urb r.status (moved_in s r)) r.outcome
handled_at s m [] r behind all = subst (λ l. IsHandled (acts s l r.urb r.status (moved_in s r)) r.outcome) (sym (append-nil m)) all.0
handled_at s m (x ∷ before) r behind all = subst (λ l. IsHandled (acts s l r.urb r.status (moved_in s r)) r.outcome) (append_assoc m (x ∷ []) before) (handled_at s (m ++ x ∷ []) before r behind all.1)

-- what is submitted again is moved on, as the action says
goes_on : (a : Action) (asking : Option DriverQuestion) (out : Bool) (t : Transfer) → IsHandled (asks_or_rests asking out a) (outcome.Again Zero) → IsMovedOn a t (window_by a t)
goes_on (Again from len) asking out t is = refl
goes_on Rest None out t is = absurd is
goes_on Rest (Some a) true t is = absurd is
goes_on Rest (Some a) false t is = absurd is
goes_on Ask None out t is = absurd is
goes_on Ask (Some a) true t is = absurd is
goes_on Ask (Some a) false t is = absurd is

module _ (s : Scene) (before : List Giveback) (r : Giveback) (behind : List Giveback) (o : Owner) (all : AreHandled s [] (before ++ r ∷ behind)) (did : r.outcome ≡ outcome.Again Zero) (owned : owner_of s r.urb ≡ Some o) where
  pub moved_on : IsMovedOn (action_of o.driver o.role r.status (moved_in s r)) (moved_in s r) (resent s r)
  moved_on =
      let out = question_out s before (owner_of s r.urb) in
      let said : IsHandled (asks_or_rests (question_at s r.urb) out (action_by (owner_of s r.urb) (may_again s before r.urb) r.status (moved_in s r))) (outcome.Again Zero) =
      subst (IsHandled (acts s before r.urb r.status (moved_in s r))) did (handled_at s [] before r behind all) in
      let by : IsHandled (asks_or_rests (question_at s r.urb) out (action_of o.driver o.role r.status (moved_in s r))) (outcome.Again Zero) =
      subst (λ w. IsHandled (asks_or_rests (question_at s r.urb) out (action_by w (may_again s before r.urb) r.status (moved_in s r))) (outcome.Again Zero)) owned said in
      subst (IsMovedOn (action_of o.driver o.role r.status (moved_in s r)) (moved_in s r)) (ap (λ w. resent_as w r.status (moved_in s r)) (sym owned))
      (goes_on (action_of o.driver o.role r.status (moved_in s r)) (question_at s r.urb) out (moved_in s r) by)

-- an endpoint that takes packets leaves all but the count of the moved bytes
pub kept_by_out : (shape : Shape) (t : Transfer) (replies : List Reply) → takes_packets shape ≡ true → moved shape t replies ≡ record t { actual = min t.len (shape.max * acks replies) }
kept_by_out shape t replies is = ap (λ d. moved_by d shape.max t replies) (out (is_control shape.kind) (goes_in shape.address) is)
  where
    way_by : Bool → Bool → Direction
    way_by control goes = if control then (if goes_in (setup_in t.setup).kind then ControlIn else ControlOut) else (if goes then In else Out)

    out : (control goes : Bool) → (not control && not goes) ≡ true → way_by control goes ≡ Out
    out true goes is = absurd (true≢false (sym is))
    out false true is = absurd (true≢false (sym is))
    out false false is = refl

-- the count makes no difference to a window
pub any_count : (a : Action) (t next : Transfer) (n : ℕ) → IsMovedOn a t next → IsMovedOn a t (record next { actual = n })
any_count (Again from len) t next n is = ap (λ (x : Transfer). record x { actual = n }) is
any_count Rest t next n is = absurd is
any_count Ask t next n is = absurd is

module _ (s : Scene) (h : List Entry) (call_records : List CallRecord) (rounds : List Giveback) (run : IsRun s h call_records rounds)
    (before : List Giveback) (r : Giveback) (middle : List Giveback) (next : Giveback) (behind : List Giveback)
    (parts : rounds ≡ before ++ r ∷ (middle ++ next ∷ behind)) (did : r.outcome ≡ outcome.Again Zero) (same : next.urb ≡ r.urb) (none : times_back r.urb middle ≡ 0)
    (o : Owner) (owned : owner_of s r.urb ≡ Some o) (takes : takes_packets (shape_at s (home s r.urb)) ≡ true) where
  abbrev action : Action
  action = action_of o.driver o.role r.status (moved_in s r)

  pub windows_follow : IsMovedOn action (moved_in s r) (moved_in s next)
  windows_follow =
      let sent : IsMovedOn action (moved_in s r) next.sent =
      subst (IsMovedOn action (moved_in s r)) (sym (sent_on s h call_records rounds run before r middle next behind parts did same none))
      (moved_on s before r (middle ++ next ∷ behind) o (subst (AreHandled s []) parts run.handled) did owned) in
      let back : moved_in s next ≡ record (next.sent) { actual = min next.sent.len ((shape_at s (home s r.urb)).max * acks next.replies) } =
      ap (λ u. moved (shape_at s (home s u)) next.sent next.replies) same ∙ kept_by_out (shape_at s (home s r.urb)) next.sent next.replies takes in
      subst (IsMovedOn action (moved_in s r)) (sym back) (any_count action (moved_in s r) next.sent (min next.sent.len ((shape_at s (home s r.urb)).max * acks next.replies)) sent)
