-- What a giveback leaves of what the run's object shows.
use Rattle.std.proofs.Common.{ℕ, ◌≡◌, ◌≢◌, ◌+◌, ◌-◌, ◌*◌, ◌<◌, Bool, true, false, not, ◌&&◌, cond, eqb, min, Option, Some, None, List, [], ◌∷◌, ◌++◌, length, take, drop, refl, sym, ap, ◌∙◌, subst, arith, append-nil, eq-eqb, ne_eqb, true≢false}
use Rattle.std.specs.Prelude.{slice_get, slice_set}
use Rattle.std.specs.List.{flat_map}
use Rattle.std.proofs.lemmas.Grind.{common_steps, flat_map-append}
use Rattle.std.proofs.lemmas.List.{map-append, length-set}
use mathlib.Core.Logic.{dite}
use native.Mathlib.Decide.{ℕ_discrete}
use Rattle.usb_types.specs.declared.errno.Code.TheVariants.{Zero, Fault}
use Rattle.usb_types.specs.declared.urb.Action.{Action}
use Rattle.usb_machine.specs.declared.layout.Shape.{Shape}
use Rattle.usb_machine.specs.declared.state.Mark.TheVariants.{Clear}
use Rattle.usb_machine.specs.declared.state.UrbState.{UrbState}
use Rattle.usb_machine.specs.declared.transfer.Transfer.{Transfer}
use Rattle.usb_machine.specs.declared.entry.Entry.{Entry}
use Rattle.usb_machine.specs.History.{without, state_of, pending_of, sent_of}
use Rattle.usb_machine.specs.Legal.{IsLegal, times}
use Rattle.usb_machine.proofs.Rooms.{pending_is_queued}
use Rattle.usb_machine.specs.Plain.{Stands}
use Rattle.usb_xfer.specs.Direction.{Direction, In, Out, ControlIn, ControlOut, direction_of}
use Rattle.usb_xfer.specs.Replies.{Reply}
use Rattle.usb_xfer.specs.Input.{with_bytes}
use Rattle.usb_xfer.specs.Moved.{moved, moved_by, IsOpen}
use Rattle.usb_class.specs.Handler.{window_by}
use Rattle.usb_scene.specs.declared.scene.Scene.{Scene}
use Rattle.usb_trace.specs.declared.rows.Outcome.{Outcome}
use Rattle.usb_trace.specs.declared.rows.Outcome.TheVariants as outcome
use Rattle.usb_line.specs.declared.run.UrbRow.{UrbRow}
use Rattle.usb_line.specs.declared.run.EndRow.{EndRow}
use Rattle.usb_trace.specs.declared.received.Received.{Received}
use Rattle.usb_line.specs.declared.run.LineRun.{LineRun}
use Rattle.usb_prepare.specs.Ends.{shape_at}
use Rattle.usb_prepare.specs.Layout.{home}
use Rattle.usb_trace.specs.Plan.{machine_of, owner_of, again_of, DriverQuestion, question_at}
use Rattle.usb_trace.specs.Run.{Giveback, moved_in, resent, is_accepted, times_back, rounds_at, is_first, asked_in, asked_of}
use Rattle.usb_class.specs.Handlers.{action_by}
use Rattle.usb_line.specs.Line.{Progress, replies_had, given_back}
use Rattle.usb_trace.specs.GivebackRow.{giveback_row, acked_at, sent_bytes, IsReceived}
use Rattle.usb_line.specs.Shows.{HoldsTransfer, ShowsUrb, ShowsEnd, Shows, asked_now}
use Rattle.usb_trace.specs.Devices.{IsApt, ShowsDevices}
use Rattle.usb_trace.specs.Handlers.{ShowsCores}
use Rattle.usb_trace.specs.GivebackRow.{Adds}
use Rattle.usb_line.specs.Back.{is_again, left_by, row_back, CanPoseAny, CanGive}
use Rattle.usb_trace.proofs.Resent.{resent_unmoved}
use Rattle.usb_trace.proofs.CoresSeen.{times_push}
use Rattle.usb_line.proofs.Givebacks.{handled_state, resubmits, IsApart, apart_any, posed, IsPut, accepted_idle, giveback_state, giveback_other, giveback_pending, giveback_sent, giveback_posed, giveback_posed_sent}
use Rattle.usb_line.proofs.Calm.{calm_giveback, linked_giveback}
use Rattle.usb_line.proofs.Marked.{first_at_home}
use Rattle.usb_line.proofs.Returning.{left_at, left_else, still_sent, first_apart}
use Rattle.usb_trace.proofs.Dues.{rounds-push, asked-push_own, asked-push_else, asked-push_none}
use Rattle.usb_line.proofs.Asked.{asked_idle, asked_same}
use Rattle.usb_device.proofs.Lookups.{each_set}

-- no reply moves a transfer that has moved nothing
no_bytes : (t : Transfer) → t.actual ≡ 0 → t ≡ with_bytes t []
no_bytes t a = (λ i. record t { buf = same i; actual = a i })
  where
    same : t.buf ≡ take t.from t.buf ++ [] ++ drop (t.from + 0) t.buf
    same = grind (arith, common_steps)

nothing_moved_by : (d : Direction) (max : ℕ) (t : Transfer) → t.actual ≡ 0 → t ≡ moved_by d max t []
nothing_moved_by In max t a = no_bytes t a
nothing_moved_by ControlIn max t a = no_bytes t a
nothing_moved_by ControlOut max t a = (λ i. record t { actual = a i })
nothing_moved_by Out max t a = (λ i. record t { actual = none i })
  where
    none : t.actual ≡ min t.len (max * 0)
    none = omega arith

pub nothing_moved : (shape : Shape) (t : Transfer) → t.actual ≡ 0 → t ≡ moved shape t []
nothing_moved shape t a = nothing_moved_by (direction_of shape t) shape.max t a

-- another URB is first with the same replies, or becomes first with none
others_had : (u v : ℕ) → v ≢ u → (us : List ℕ) (l : List Reply) → cond (is_first v (without u us)) (cond (is_first u us) [] l) [] ≡ cond (is_first v us) l []
others_had u v off [] l = refl
others_had u v off (w ∷ us) l = dite (ℕ_discrete w u)
    (λ is. ap (λ b. cond (is_first v (without u (w ∷ us))) (cond b [] l) []) (eq-eqb w u is) ∙ (either (is_first v (without u (w ∷ us))) ∙ ap (λ b. cond b l []) (sym (ne_eqb w v (λ e. off (sym e ∙ is))))))
    (λ no_. ap (λ b. cond (is_first v (cond (not b) (w ∷ without u us) (without u us))) (cond b [] l) []) (ne_eqb w u no_))
  where
    either : (b : Bool) → cond {A = List Reply} b [] [] ≡ []
    either true = refl
    either false = refl

-- the URB itself is first no more
own_gone : (u : ℕ) (us : List ℕ) → is_first u (without u us) ≡ false
own_gone u [] = refl
own_gone u (w ∷ us) = dite (ℕ_discrete w u)
    (λ is. ap (λ b. is_first u (cond (not b) (w ∷ without u us) (without u us))) (eq-eqb w u is) ∙ own_gone u us)
    (λ off. ap (λ b. is_first u (cond (not b) (w ∷ without u us) (without u us))) (ne_eqb w u off) ∙ ne_eqb w u off)

-- where nothing is left pending, no replies are kept
none_kept : (u : ℕ) (us : List ℕ) (l : List Reply) → (us ≡ [] → l ≡ []) → without u us ≡ [] → cond (is_first u us) [] l ≡ []
none_kept u [] l none gone = none refl
none_kept u (w ∷ us) l none gone = dite (ℕ_discrete w u)
    (λ is. ap (λ b. cond b [] l) (eq-eqb w u is))
    (λ off. let x = sym (ap (λ b. cond (not b) (w ∷ without u us) (without u us)) (ne_eqb w u off)) ∙ gone in cc)

-- who is first is among them
first_among : (v : ℕ) (us : List ℕ) → is_first v us ≡ true → 0 < times v us
first_among v [] is = absurd (true≢false (sym is))
first_among v (w ∷ us) is = let one : cond {A = ℕ} (eqb w v) 1 0 ≡ 1 = ap (λ b. cond {A = ℕ} b 1 0) is in omega arith

first_without : (v u : ℕ) (us : List ℕ) → is_first v (without u us) ≡ true → 0 < times v us
first_without v u [] is = absurd (true≢false (sym is))
first_without v u (w ∷ us) is = go (eqb w u) refl is (first_without v u us)
  where
    go : (b : Bool) → eqb w u ≡ b → is_first v (cond (not b) (w ∷ without u us) (without u us)) ≡ true → (is_first v (without u us) ≡ true → 0 < times v us) → 0 < times v (w ∷ us)
    go true e first rest = let l = rest first in omega arith
    go false e first rest = first_among v (w ∷ us) first

module _ (s : Scene) (f : Progress) (r : Giveback) where
  abbrev k : Progress
  k = given_back s f r

  abbrev h : List Entry
  h = f.history

  abbrev e : ℕ
  e = home s r.urb

  abbrev pending : List ℕ
  pending = pending_of (machine_of s) h e

  pending_here : pending_of (machine_of s) k.history e ≡ without r.urb pending
  pending_here = giveback_pending s h r e ∙ ap (λ b. cond b (without r.urb pending) pending) (eq-eqb e e refl)

  pending_else : (d : ℕ) → e ≢ d → pending_of (machine_of s) k.history d ≡ pending_of (machine_of s) h d
  pending_else d off = giveback_pending s h r d ∙ ap (λ b. cond b (without r.urb (pending_of (machine_of s) h d)) (pending_of (machine_of s) h d)) (ne_eqb e d off)

  had_else : (v : ℕ) → v ≢ r.urb → replies_had s k v ≡ replies_had s f v
  had_else v off = dite (ℕ_discrete e (home s v))
      (λ is. subst (λ d. cond (is_first v (pending_of (machine_of s) k.history d)) (k.so_far d) [] ≡ cond (is_first v (pending_of (machine_of s) h d)) (f.so_far d) []) is
      ((λ i. cond (is_first v (pending_here i)) (left_at s f r e refl i) []) ∙ others_had r.urb v off pending (f.so_far e)))
      (λ apart. (λ i. cond (is_first v (pending_else (home s v) apart i)) (left_else s f r (home s v) apart i) []))

  had_own : replies_had s k r.urb ≡ []
  had_own = ap (λ b. cond b (k.so_far e) []) (ap (is_first r.urb) pending_here ∙ own_gone r.urb pending)

  pub unmoved_back : ((d : ℕ) → pending_of (machine_of s) h d ≡ [] → f.so_far d ≡ []) → (d : ℕ) → pending_of (machine_of s) k.history d ≡ [] → k.so_far d ≡ []
  unmoved_back old d none = dite (ℕ_discrete e d)
      (λ is. left_at s f r d is ∙ none_kept r.urb pending (f.so_far e) (old e) (sym pending_here ∙ (ap (pending_of (machine_of s) k.history) is ∙ none)))
      (λ off. left_else s f r d off ∙ old d (sym (pending_else d off) ∙ none))

  -- the other URBs
  holds_else : (v : ℕ) → v ≢ r.urb → IsApart v (posed s r) → (o : Option Transfer) → HoldsTransfer s f v o → HoldsTransfer s k v o
  holds_else v off apart None q = ap (λ (t : UrbState). t.queued) (giveback_other s h r v off apart) ∙ q
  holds_else v off apart (Some t) q = (
    ap (λ (t : UrbState). t.queued) (giveback_other s h r v off apart) ∙ q.0,
    record {
      apt = q.1.apt;
      start = q.1.start;
      sent = still_sent s f r v off apart ∙ q.1.sent;
      moving = q.1.moving ∙ ap (moved (shape_at s (home s v)) q.1.start) (sym (had_else v off));
      going = subst (IsOpen (shape_at s (home s v)) q.1.start) (sym (had_else v off)) q.1.going;
    },
  )

  more_else : (v : ℕ) (row : UrbRow) → v ≢ r.urb → ShowsUrb s f v row → row.again ≡ again_of s v - times_back v k.rounds
  more_else v row off o = let same = times_push v f.rounds r in let none = ap (λ b. cond {A = ℕ} b 1 0) (ne_eqb r.urb v (λ i. off (sym i))) in let was = o.more in
      let times : times_back v k.rounds ≡ times_back v f.rounds = omega arith in o.more ∙ ap (λ n. again_of s v - n) (sym times)

  pub urb_else : (v : ℕ) (row : UrbRow) → v ≢ r.urb → IsApart v (posed s r) → ShowsUrb s f v row → ShowsUrb s k v row
  urb_else v row off apart o = record {
    at = o.at;
    owner = o.owner;
    more = more_else v row off o;
    holds = holds_else v off apart row.transfer o.holds;
  }

  -- one that a question was asked with has the question's transfer
  module _ (legal : IsLegal (machine_of s) h) (a : DriverQuestion) (put : IsPut s h r a) where
    not_first : (e : ℕ) → home s a.urb ≡ e → (us : List ℕ) → pending_of (machine_of s) h e ≡ us → is_first a.urb (cond (eqb (home s r.urb) e) (without r.urb us) us) ≡ false
    not_first e here us is = go (is_first a.urb (cond (eqb (home s r.urb) e) (without r.urb us) us)) refl
      where
        among : (b : Bool) → is_first a.urb (cond b (without r.urb us) us) ≡ true → 0 < times a.urb us
        among true first = first_without a.urb r.urb us first
        among false first = first_among a.urb us first

        go : (b : Bool) → is_first a.urb (cond (eqb (home s r.urb) e) (without r.urb us) us) ≡ b → b ≡ false
        go false x = refl
        go true x = absurd (true≢false (sym (pending_is_queued (machine_of s) h a.urb legal
            (subst (λ (d : ℕ). 0 < times a.urb (pending_of (machine_of s) h d)) (sym here) (subst (λ us. 0 < times a.urb us) (sym is) (among (eqb (home s r.urb) e) x))))
            ∙ accepted_idle (state_of h a.urb) put.gate))

    had_posed : replies_had s k a.urb ≡ []
    had_posed = ap (λ b. cond b (k.so_far (home s a.urb)) [])
        (ap (is_first a.urb) (giveback_pending s h r (home s a.urb)) ∙ not_first (home s a.urb) refl (pending_of (machine_of s) h (home s a.urb)) refl)

    pub urb_posed : (row : UrbRow) → IsApt s a.urb a.transfer → ShowsUrb s f a.urb row → ShowsUrb s k a.urb (record row { transfer = Some a.transfer })
    urb_posed row apt o = record {
      at = o.at;
      owner = o.owner;
      more = more_else a.urb row put.pose.apart o;
      holds = (
        ap (λ (t : UrbState). t.queued) (giveback_posed s h r a put.is put.did put.takes put.pose.apart),
        record {
          start = a.transfer;
          apt = apt;
          sent = giveback_posed_sent s h r a put.is put.did put.takes put.pose.apart;
          moving = nothing_moved (shape_at s (home s a.urb)) a.transfer put.pose.unmoved ∙ ap (moved (shape_at s (home s a.urb)) a.transfer) (sym had_posed);
          going = subst (IsOpen (shape_at s (home s a.urb)) a.transfer) (sym had_posed) refl;
        },
      );
    }

  -- the URB itself
  abbrev pub again_by : Action
  again_by = action_by (owner_of s r.urb) true r.status (moved_in s r)

  own_state_queued : CanPoseAny s r.urb (question_at s r.urb) → (o : Outcome) → r.outcome ≡ o → (b : Bool) → (handled_state o (moved_in s r).number (record (state_of h r.urb) { queued = false; mark = Clear })).queued ≡ b
      → (state_of k.history r.urb).queued ≡ b
  own_state_queued pose o is b q = ap (λ (t : UrbState). t.queued) (giveback_state s h r (apart_any s r.urb (question_at s r.urb) pose) ∙ ap (λ o. handled_state o (moved_in s r).number (record (state_of h r.urb) { queued = false; mark = Clear })) is) ∙ q

  own_unposed : CanPoseAny s r.urb (question_at s r.urb) → IsApart r.urb (posed s r)
  own_unposed pose = narrow (is_accepted r.outcome) (question_at s r.urb) (apart_any s r.urb (question_at s r.urb) pose)
    where
      narrow : (b : Bool) (asking : Option DriverQuestion) → IsApart r.urb asking → IsApart r.urb (cond b asking None)
      narrow true asking apart = apart
      narrow false asking apart = tt

  own_holds : CanPoseAny s r.urb (question_at s r.urb) → IsApt s r.urb (resent s r) → (o : Outcome) → r.outcome ≡ o → HoldsTransfer s k r.urb (left_by o again_by (moved_in s r))
  own_holds pose apt outcome.Rest is = own_state_queued pose outcome.Rest is false refl
  own_holds pose apt (outcome.Asked c) is = own_state_queued pose (outcome.Asked c) is false refl
  own_holds pose apt (outcome.Again (Fault c)) is = own_state_queued pose (outcome.Again (Fault c)) is false refl
  own_holds pose apt (outcome.Again Zero) is = (
    own_state_queued pose (outcome.Again Zero) is true refl,
    record {
      start = resent s r;
      apt = apt;
      sent = giveback_sent s h r r.urb (own_unposed pose) ∙ (λ i. cond (eq-eqb r.urb r.urb refl i && resubmits (is i)) (Some (resent s r)) (sent_of h r.urb));
      moving = nothing_moved (shape_at s e) (resent s r) (resent_unmoved (owner_of s r.urb) r.status (moved_in s r)) ∙ ap (moved (shape_at s e) (resent s r)) (sym had_own);
      going = subst (IsOpen (shape_at s e) (resent s r)) (sym had_own) refl;
    },
  )

  -- where the handler goes on, its action is the one of what is sent again
  abbrev pub GoesBy : Action → Type 0
  GoesBy action = is_again r.outcome ≡ true → action ≡ again_by

  same_left : (action : Action) → GoesBy action → (o : Outcome) → r.outcome ≡ o → (t : Transfer) → left_by o again_by t ≡ left_by o action t
  same_left action goes outcome.Rest is t = refl
  same_left action goes (outcome.Asked c) is t = refl
  same_left action goes (outcome.Again (Fault c)) is t = refl
  same_left action goes (outcome.Again Zero) is t = ap (λ a. Some (window_by a t)) (sym (goes (ap is_again is)))

  pub urb_own : CanPoseAny s r.urb (question_at s r.urb) → IsApt s r.urb (resent s r) → (row : UrbRow) (t : Transfer) (o : Outcome) (action : Action) → row.home ≡ e → row.owner ≡ owner_of s r.urb
      → row.again ≡ again_of s r.urb - times_back r.urb f.rounds → t ≡ moved_in s r → o ≡ r.outcome → GoesBy action → ShowsUrb s k r.urb (row_back o action t row)
  urb_own pose apt row t o action at owner more is did goes = record {
    at = at;
    owner = owner;
    more = let same = times_push r.urb f.rounds r in let one = ap (λ b. cond {A = ℕ} b 1 0) (eq-eqb r.urb r.urb refl) in omega arith;
    holds = subst (λ (x : Outcome). HoldsTransfer s k r.urb (left_by x action t)) (sym did) (subst (λ (x : Transfer). HoldsTransfer s k r.urb (left_by r.outcome action x)) (sym is)
        (subst (HoldsTransfer s k r.urb) (same_left action goes r.outcome refl (moved_in s r)) (own_holds pose apt r.outcome refl)));
  }

  -- the other endpoints
  rounds_else : (d : ℕ) → e ≢ d → rounds_at s d k.rounds ≡ rounds_at s d f.rounds
  rounds_else d off = rounds-push s f.rounds r d ∙ (ap (λ b. rounds_at s d f.rounds ++ cond b (r ∷ []) []) (ne_eqb e d off) ∙ append-nil (rounds_at s d f.rounds))

  pub end_else : (d : ℕ) (end : EndRow) → e ≢ d → ShowsEnd s f d end → ShowsEnd s k d end
  end_else d end off o = record {
    is = o.is;
    sleeps = o.sleeps;
    acked = subst (λ l. IsReceived l end.received) (ap (λ rounds. flat_map (λ r. sent_bytes (shape_at s d) (moved_in s r)) rounds) (sym (rounds_else d off))) o.acked;
  }

  -- and the URB's own
  rounds_own : rounds_at s e k.rounds ≡ rounds_at s e f.rounds ++ r ∷ []
  rounds_own = rounds-push s f.rounds r e ∙ ap (λ b. rounds_at s e f.rounds ++ cond b (r ∷ []) []) (eq-eqb e e refl)

  -- what its endpoint was asked: more by the giveback, where the URB was first
  pub asked_taken : is_first r.urb pending ≡ true → asked_now s k e ≡ asked_of s e f.rounds ++ asked_in s r
  asked_taken first = asked_idle s k e (left_at s f r e refl ∙ ap (λ b. cond b [] (f.so_far e)) first) ∙ asked-push_own s f.rounds r e refl

  -- and no more, where it was not, and had no replies
  pub asked_kept : CanGive s h r → IsLegal (machine_of s) h → is_first r.urb pending ≡ false → r.replies ≡ [] → (pending ≡ [] → f.so_far e ≡ []) → asked_now s k e ≡ asked_now s f e
  asked_kept can legal off no_replies none = asked_same s f k e (asked-push_none s f.rounds r e no_replies) (left_at s f r e refl ∙ ap (λ b. cond b [] (f.so_far e)) off) none still
    where
      still : (u : ℕ) (others : List ℕ) → pending ≡ u ∷ others → (more : List ℕ) × (pending_of (machine_of s) k.history e ≡ u ∷ more) × (sent_of k.history u ≡ sent_of h u)
      still u others first =
          let apart : u ≢ r.urb = λ is. true≢false (sym (eq-eqb u r.urb is) ∙ (ap (is_first r.urb) (sym first) ∙ off)) in (
            without r.urb others,
            pending_here ∙ (ap (without r.urb) first ∙ ap (λ b. cond (not b) (u ∷ without r.urb others) (without r.urb others)) (ne_eqb u r.urb apart)),
            still_sent s f r u apart (first_apart s f r can legal e u others first),
          )

  acked_own : acked_at s e k.rounds ≡ acked_at s e f.rounds ++ sent_bytes (shape_at s e) (moved_in s r)
  acked_own = ap (λ rounds. flat_map (λ r. sent_bytes (shape_at s e) (moved_in s r)) rounds) rounds_own
      ∙ (flat_map-append (λ r. sent_bytes (shape_at s e) (moved_in s r)) (rounds_at s e f.rounds) (r ∷ []) ∙ ap (λ l. acked_at s e f.rounds ++ l) (append-nil (sent_bytes (shape_at s e) (moved_in s r))))

  -- the other endpoints were asked no more
  pub asked_others : CanGive s h r → IsLegal (machine_of s) h → ((d : ℕ) → pending_of (machine_of s) h d ≡ [] → f.so_far d ≡ []) → (d : ℕ) → e ≢ d → asked_now s k d ≡ asked_now s f d
  asked_others can legal none d off = asked_same s f k d (asked-push_else s f.rounds r d off) (left_else s f r d off) (none d)
      (λ u others first. (others, pending_else d off ∙ first, still_sent s f r u (λ i. off (ap (home s) (sym i) ∙ sym (first_at_home (machine_of s) h d u others legal first))) (first_apart s f r can legal d u others first)))

  pub end_own : (end : EndRow) (t : Transfer) (received : Received) → ShowsEnd s f e end
      → t ≡ moved_in s r → Adds end.received received (sent_bytes end.shape t) → ShowsEnd s k e record end { received = received }
  end_own end t received o is adds = record {
    is = o.is;
    sleeps = o.sleeps;
    acked = subst (λ l. IsReceived l received) (sym acked_own)
        (subst (λ l. IsReceived (acked_at s e f.rounds ++ l) received) (λ i. sent_bytes (o.is i) (is i)) (adds (acked_at s e f.rounds) o.acked));
  }

  -- so the object shows the progress with the giveback
  pub shows_back : CanPoseAny s r.urb (question_at s r.urb) → (run new : LineRun) → Shows s f run → Stands new.plain (machine_of s) k.history → ShowsDevices s (asked_now s k) new.devices.items
      → length new.urbs.items ≡ length run.urbs.items → ((u : ℕ) (row : UrbRow) → slice_get new.urbs.items u ≡ Some row → ShowsUrb s k u row)
      → (end : EndRow) → new.ends.items ≡ slice_set run.ends.items e end → ShowsEnd s k e end
      → ShowsCores s k.rounds new.cores.items → new.given.items ≡ run.given.items ++ giveback_row s r ∷ [] → new.down ≡ run.down → Shows s k new
  shows_back pose run new old stands devices count urbs end ends here cores told host = record {
    stands = stands;
    calm = calm_giveback s h r pose old.calm;
    linked = linked_giveback s h r old.linked;
    devices = devices;
    few_ends = old.few_ends;
    all_ends = ap length ends ∙ (length-set run.ends.items e end ∙ old.all_ends);
    each_end = each_set (ShowsEnd s f) (ShowsEnd s k) run.ends.items new.ends.items e end ends old.each_end here (λ d x off. end_else d x (λ i. off (sym i)));
    all_urbs = count ∙ old.all_urbs;
    each_urb = urbs;
    unmoved = unmoved_back old.unmoved;
    cores = cores;
    came_back = told ∙ (ap (λ l. l ++ giveback_row s r ∷ []) old.came_back ∙ sym (map-append (giveback_row s) f.rounds (r ∷ [])));
    host = host ∙ old.host;
  }
