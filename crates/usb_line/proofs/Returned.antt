-- An URB that came back, as the run's object shows it.
use Rattle.std.proofs.Common.{ℕ, ◌≡◌, ◌≢◌, ◌⊎◌, inl, inr, ◌-◌, ◌<◌, ◌≤◌, Bool, true, false, cond, Option, Some, None, List, [], ◌∷◌, ◌++◌, length, refl, sym, ap, ◌∙◌, subst, arith, true≢false}
use Rattle.std.specs.Prelude.{slice_get, slice_set, nat_lt, option_and_then}
use Rattle.std.proofs.lemmas.List.{length-set}
use Rattle.usb_types.specs.declared.errno.Code.{Code}
use Rattle.usb_types.specs.declared.errno.Code.TheVariants.{Zero, Fault}
use Rattle.usb_types.specs.declared.urb.UrbId.{UrbId}
use Rattle.usb_types.specs.declared.urb.Role.{Role}
use Rattle.usb_types.specs.declared.urb.Role.TheVariants.{Write}
use Rattle.usb_types.specs.declared.urb.Action.{Action}
use Rattle.usb_types.specs.declared.urb.Action.TheVariants as action
use Rattle.usb_machine.specs.declared.transfer.Transfer.{Transfer}
use Rattle.usb_machine.specs.declared.entry.Entry.{Entry}
use Rattle.usb_machine.specs.declared.plain.Plain.{Plain}
use Rattle.usb_machine.specs.Plain.{Stands}
use Rattle.usb_xfer.specs.Replies.{Reply}
use Rattle.usb_class.specs.declared.class_core.Core.{Core}
use Rattle.usb_class.specs.Handler.{action_of, goes_again, window_by}
use Rattle.usb_class.proofs.Facts.{is_write}
use Rattle.usb_machine.specs.History.{state_of}
use Rattle.usb_scene.specs.declared.scene.Scene.{Scene}
use Rattle.usb_scene.specs.WellFormed.{IsWellFormed}
use Rattle.usb_class.specs.declared.owner.Owner.{Owner}
use Rattle.usb_trace.specs.declared.rows.Outcome.{Outcome}
use Rattle.usb_trace.specs.declared.rows.Outcome.TheVariants as outcome
use Rattle.usb_line.specs.declared.giveback.PosedQuestion.{PosedQuestion}
use Rattle.usb_line.specs.declared.run.UrbRow.{UrbRow}
use Rattle.usb_line.specs.declared.run.EndRow.{EndRow}
use Rattle.usb_line.specs.declared.run.LineRun.{LineRun}
use Rattle.usb_prepare.specs.Ends.{shape_at}
use Rattle.usb_prepare.specs.Layout.{home}
use Rattle.usb_trace.specs.Plan.{machine_of, owner_of, again_of, DriverQuestion, question_at}
use Rattle.usb_trace.specs.Run.{Giveback, moved_in, is_accepted, may_again, question_out, asks_or_rests, given_entries, giveback_entries, times_back}
use Rattle.usb_class.specs.Handlers.{action_by}
use Rattle.usb_line.specs.Line.{Progress, outcome_by, round_of, given_back}
use Rattle.usb_trace.specs.GivebackRow.{giveback_row, brought_bytes, sent_bytes}
use Rattle.usb_machine.specs.Completion.{after_window}
use Rattle.usb_line.specs.Shows.{HoldsTransfer, ShowsUrb, Shows, rank, turns_left, asked_now}
use Rattle.usb_trace.specs.Devices.{IsApt, ShowsDevices}
use Rattle.usb_trace.specs.GivebackRow.{Adds}
use Rattle.usb_line.specs.Back.{MayGive, CanPoseAny, is_again, row_back, GaveBack, given_after, QuestionBy, SettledBy, Settled, IsPosedBy}
use Rattle.usb_class.specs.Handlers.{Noted}
use Rattle.usb_line.specs.Turned.{SameElse}
use Rattle.usb_trace.proofs.Moves.{moved_same}
use Rattle.usb_trace.proofs.CoresSeen.{some_at, more_left, noted_action, noted_cores}
use Rattle.usb_line.proofs.Cores.{row_asks}
use Rattle.usb_line.proofs.Posing.{asking_apt, asking_weighs}
use Rattle.usb_line.proofs.Givebacks.{IsApart, posed, IsPut, put, accepted_idle}
use Rattle.usb_line.proofs.DriverQuestions.{IsQuestionPosed, IsSeen, posed_none, posed_some}
use Rattle.usb_line.proofs.Resending.{resent_action, resent_apt}
use Rattle.usb_line.proofs.Backs.{again_by, urb_own, urb_else, urb_posed, end_own, shows_back}
use Rattle.usb_line.proofs.Falling.{all_left, falls_own, falls_resting, falls_spent, falls_after, falls_asked, again_narrows, job_narrows}
use Rattle.usb_device.proofs.Lookups.{each_set, looked_up}
use Rattle.usb_line.proofs.Lookups.{set_read, set_twice}

-- what a core took note of, under other names
noted_as : (old old_as new : List Core) (o o_as : Option Owner) (may : Bool) (status status_as : Code) (t t_as : Transfer) (action : Action) → old ≡ old_as → o ≡ o_as → status ≡ status_as → t ≡ t_as
    → Noted old new o may status t action → Noted old_as new o_as may status_as t_as action
noted_as old old_as new o o_as may status status_as t t_as action a b c d noted =
    subst (λ (x : List Core). Noted x new o_as may status_as t_as action) a
    (subst (λ (x : Option Owner). Noted old new x may status_as t_as action) b
    (subst (λ (x : Code). Noted old new o may x t_as action) c (subst (λ (x : Transfer). Noted old new o may status x action) d noted)))

-- a handler submits again where its action says so
again_as : (s : Scene) (h : List Entry) (u : ℕ) (asking : Option DriverQuestion) (out : Bool) (act : Action) → is_again (outcome_by s h u asking (asks_or_rests asking out act)) ≡ goes_again act
again_as s h u None true action.Rest = refl
again_as s h u None false action.Rest = refl
again_as s h u (Some a) true action.Rest = refl
again_as s h u (Some a) false action.Rest = refl
again_as s h u None true action.Ask = refl
again_as s h u None false action.Ask = refl
again_as s h u (Some a) true action.Ask = refl
again_as s h u (Some a) false action.Ask = refl
again_as s h u None true (action.Again from len) = refl
again_as s h u None false (action.Again from len) = refl
again_as s h u (Some a) true (action.Again from len) = refl
again_as s h u (Some a) false (action.Again from len) = refl

-- a role that is that of a job
write_is : (role : Role) → is_write role ≡ true → role ≡ Write
write_is Write is = refl
write_is role is = absurd (true≢false (sym is))

module _ (s : Scene) (good : IsWellFormed s) (f : Progress) (run : LineRun) (old : Shows s f run) (u : ℕ) (row : UrbRow) (at : slice_get run.urbs.items u ≡ Some row) (end : EndRow) (there : slice_get run.ends.items (home s u) ≡ Some end)
    (mid new : LineRun) (mid_rows : mid.urbs.items ≡ slice_set run.urbs.items u (record row { transfer = None }))
    (mid_ends : mid.ends ≡ run.ends) (mid_same : SameElse run mid)
    (by : Option Code) (now : Transfer) (back : GaveBack mid new u by now) (status : Code) (finished : Bool) (start : Transfer) (replies : List Reply) where
  abbrev r : Giveback
  r = round_of s f u status finished start replies

  abbrev given_h : List Entry
  given_h = f.history ++ given_entries u status finished

  abbrev may_more : Bool
  may_more = nat_lt 0 back.row.again

  mid_row : back.row ≡ record row { transfer = None }
  mid_row = set_read run.urbs.items mid.urbs.items u (record row { transfer = None }) back.row mid_rows back.at

  row_home : back.row.home ≡ home s u
  row_home = ap (λ (x : UrbRow). x.home) mid_row ∙ (old.each_urb u row at).at

  row_owner : back.row.owner ≡ owner_of s u
  row_owner = ap (λ (x : UrbRow). x.owner) mid_row ∙ (old.each_urb u row at).owner

  row_again : back.row.again ≡ again_of s u - times_back u f.rounds
  row_again = ap (λ (x : UrbRow). x.again) mid_row ∙ (old.each_urb u row at).more

  mid_end : back.end ≡ end
  mid_end = let both : Some back.end ≡ Some end = sym back.there ∙ ((λ i. slice_get (mid_ends i).items (row_home i)) ∙ there) in cc

  -- a row of the run, before its core took note
  same_urbs : back.decided.urbs.items ≡ slice_set run.urbs.items u (record row { transfer = None })
  same_urbs = (λ i. (back.decided_so i).urbs.items) ∙ mid_rows

  kept_ends : back.decided.ends.items ≡ slice_set run.ends.items (home s u) (record end { received = back.received })
  kept_ends = back.ends_so ∙ (λ i. slice_set (mid_ends i).items (row_home i) (record (mid_end i) { received = back.received }))

  -- the URB of a question, with its endpoint
  seen : (urb : UrbId) → option_and_then (λ (o : Owner). o.ctl) (owner_of s u) ≡ Some urb → IsSeen s back.decided urb
  seen urb is =
      let asks = row_asks s good f run old u row at urb (ap (option_and_then (λ (o : Owner). o.ctl)) (old.each_urb u row at).owner ∙ is) in
      let count : length back.decided.urbs.items ≡ length run.urbs.items = ap (λ l. length l) same_urbs ∙ length-set run.urbs.items u (record row { transfer = None }) in
      let r = some_at back.decided.urbs.items urb.0 (subst (λ n. urb.0 < n) (sym count) asks.0) in
      let homed : r.0.home ≡ home s urb.0
      = each_set (λ v (x : UrbRow). x.home ≡ home s v) (λ v (x : UrbRow). x.home ≡ home s v) run.urbs.items back.decided.urbs.items u (record row { transfer = None }) same_urbs
      (λ v x at. (old.each_urb v x at).at) (old.each_urb u row at).at (λ v x off old. old) urb.0 r.0 r.1 in
      let base = some_at run.urbs.items urb.0 asks.0 in
      let near : home s urb.0 < length run.ends.items = subst (λ n. n < length run.ends.items) (old.each_urb urb.0 base.0 base.1).at (asks.2 base.0 base.1) in
      let many : length back.decided.ends.items ≡ length run.ends.items = ap (λ l. length l) kept_ends ∙ length-set run.ends.items (home s u) (record end { received = back.received }) in
      let e = some_at back.decided.ends.items (home s urb.0) (subst (λ n. home s urb.0 < n) (sym many) near) in
      let shaped : e.0.shape ≡ shape_at s (home s urb.0)
      = each_set (λ d (x : EndRow). x.shape ≡ shape_at s d) (λ d (x : EndRow). x.shape ≡ shape_at s d) run.ends.items back.decided.ends.items (home s u) (record end { received = back.received }) kept_ends
      (λ d x at. (old.each_end d x at).is) (old.each_end (home s u) end there).is (λ d x off old. old) (home s urb.0) e.0 e.1 in
      (r.0, e.0, r.1, ap (slice_get back.decided.ends.items) homed ∙ e.1, shaped)

  module _ (may : MayGive s f.history r u by) (is : now ≡ moved_in s r) where
    given : (back.status ≡ status) × Stands back.decided.plain (machine_of s) (given_after f.history r)
    given = back.given s f.history r (subst (λ (p : Plain). Stands p (machine_of s) f.history) (sym mid_same.plain) old.stands) may

    -- its driver took note, and no other
    noted : Noted run.cores.items back.decided.cores.items (owner_of s u) may_more status (moved_in s r) back.action
    noted = noted_as mid.cores.items run.cores.items back.decided.cores.items back.row.owner (owner_of s u) may_more back.status status now (moved_in s r) back.action
        (λ i. (mid_same.cores i).items) row_owner given.0 is back.noted

    asked : QuestionBy back.decided back.asking (owner_of s u) back.action back.posed_question
    asked = subst (λ o. QuestionBy back.decided back.asking o back.action back.posed_question) row_owner back.asked

    may_same : may_again s f.rounds u ≡ may_more
    may_same = more_left (again_of s u) (times_back u f.rounds) ∙ ap (nat_lt 0) (sym row_again)

    acts_so : back.action ≡ action_by (owner_of s u) may_more status (moved_in s r) → r.outcome ≡ outcome_by s given_h u (question_at s u) (asks_or_rests (question_at s u) (question_out s f.rounds (owner_of s u)) back.action)
    acts_so acts = ap (λ act. outcome_by s given_h u (question_at s u) (asks_or_rests (question_at s u) (question_out s f.rounds (owner_of s u)) act))
        (ap (λ b. action_by (owner_of s u) b status (moved_in s r)) may_same ∙ sym acts)

    decided : (back.action ≡ action_by (owner_of s u) may_more status (moved_in s r)) × IsQuestionPosed s f.rounds r back.asking back.posed_question
    decided = go (owner_of s u) refl
      where
        go : (o : Option Owner) → owner_of s u ≡ o → (back.action ≡ action_by (owner_of s u) may_more status (moved_in s r)) × IsQuestionPosed s f.rounds r back.asking back.posed_question
        go None e =
            let n = subst (λ o. Noted run.cores.items back.decided.cores.items o may_more status (moved_in s r) back.action) e noted in
            let acts = n.0 ∙ ap (λ o. action_by o may_more status (moved_in s r)) (sym e) in (
              acts,
              posed_none s f.rounds r given_h run.cores.items back.decided back.asking back.posed_question may_more back.action e old.cores n.1 n.0
                  (subst (λ o. QuestionBy back.decided back.asking o back.action back.posed_question) e asked) (acts_so acts),
            )
        go (Some o) e =
            let n = subst (λ x. Noted run.cores.items back.decided.cores.items x may_more status (moved_in s r) back.action) e noted in
            let own = noted_action s f.rounds r o e run.cores.items back.decided.cores.items old.cores may_more back.action n in
            let acts = own ∙ ap (λ o. action_by o may_more status (moved_in s r)) (sym e) in (
              acts,
              posed_some s f.rounds r given_h o e back.decided back.asking back.posed_question back.action own
                  (noted_cores s f.rounds r o e run.cores.items back.decided.cores.items old.cores may_more back.action n)
                  (acts_so acts ∙ ap (λ x. outcome_by s given_h u (question_at s u) (asks_or_rests (question_at s u) (question_out s f.rounds x) back.action)) e)
                  (λ urb ctl. seen urb (ap (option_and_then (λ (o : Owner). o.ctl)) e ∙ ctl))
                  (subst (λ o. QuestionBy back.decided back.asking o back.action back.posed_question) e asked),
            )

    acts : is_again r.outcome ≡ goes_again back.action
    acts = ap is_again (acts_so decided.0) ∙ again_as s given_h u (question_at s u) (question_out s f.rounds (owner_of s u)) back.action

    goes : is_again r.outcome ≡ true → back.action ≡ again_by s f r
    goes again = decided.0 ∙ resent_action (owner_of s u) may_more status (moved_in s r) (ap goes_again (sym decided.0) ∙ (sym acts ∙ again))

    done : (back.did ≡ r.outcome) × Stands back.acted.plain (machine_of s) (f.history ++ giveback_entries s r)
    done = back.handled s f.history r given.1 may.can may.at (sym (ap (λ (t : Transfer). t.number) is ∙ (moved_same (shape_at s (home s u)) start replies).number)) acts decided.1.posed

    settled : Settled back.acted new back.posed_question r.outcome
    settled = subst (Settled back.acted new back.posed_question) done.0 back.settled

    rows : back.acted.urbs.items ≡ slice_set run.urbs.items u (row_back back.did back.action now back.row)
    rows = back.rows ∙ (ap (λ xs. slice_set xs u (row_back back.did back.action now back.row)) mid_rows ∙ set_twice run.urbs.items u (record row { transfer = None }) (row_back back.did back.action now back.row))

    -- settling an posed_question changes rows and cores alone
    settled_so : new ≡ record back.acted { urbs = new.urbs; cores = new.cores }
    settled_so = go back.posed_question settled
      where
        go : (q : Option PosedQuestion) → Settled back.acted new q r.outcome → new ≡ record back.acted { urbs = new.urbs; cores = new.cores }
        go None is = (λ i. record (is i) { urbs = new.urbs; cores = new.cores })
        go (Some q) is = is.1

    ends : new.ends.items ≡ slice_set run.ends.items (home s u) (record end { received = back.received })
    ends = (λ i. (settled_so i).ends.items) ∙ ((λ i. (back.acted_ends i).items) ∙ ((λ i. (back.asking_so i).ends.items) ∙ kept_ends))

    shape : back.end.shape ≡ shape_at s (home s u)
    shape = ap (λ (x : EndRow). x.shape) mid_end ∙ (old.each_end (home s u) end there).is

    told : new.given.items ≡ run.given.items ++ giveback_row s r ∷ []
    told = (λ i. (settled_so i).given.items) ∙ (back.told ∙ (λ i. (mid_same.told i).items ++ record { urb = u; status = given.0 i; actual = (is i).actual; outcome = done.0 i; bytes = brought_bytes (shape i) (is i) } ∷ []))

    same_devices : new.devices ≡ mid.devices
    same_devices = (λ i. (settled_so i).devices) ∙ back.same_devices

    pose : CanPoseAny s u (question_at s u)
    pose = may.can.asks

    -- the rows as the handler left them
    module _ (apt : IsApt s u start) where
      own_row : ShowsUrb s (given_back s f r) u (row_back back.did back.action now back.row)
      own_row = urb_own s f r pose (resent_apt s u start replies status apt) back.row now back.did back.action row_home row_owner row_again is done.0 goes

      acted_row : (v : ℕ) (x : UrbRow) → IsApart v (posed s r) → slice_get back.acted.urbs.items v ≡ Some x → ShowsUrb s (given_back s f r) v x
      acted_row v x apart at = go (looked_up run.urbs.items u v (row_back back.did back.action now back.row) x (ap (λ l. slice_get l v) (sym rows) ∙ at))
        where
          go : ((v ≡ u) × (x ≡ row_back back.did back.action now back.row)) ⊎ ((v ≢ u) × (slice_get run.urbs.items v ≡ Some x)) → ShowsUrb s (given_back s f r) v x
          go (inl here) = subst (λ w. ShowsUrb s (given_back s f r) w x) (sym here.0) (subst (ShowsUrb s (given_back s f r) u) (sym here.1) own_row)
          go (inr off) = urb_else s f r v x off.0 apart (old.each_urb v x off.1)

      -- and as they are, with the transfer of a question that was accepted
      new_row : (v : ℕ) (x : UrbRow) → slice_get new.urbs.items v ≡ Some x → ShowsUrb s (given_back s f r) v x
      new_row v x at = go back.posed_question refl settled r.outcome refl
        where
          unposed : (q : Option PosedQuestion) → back.posed_question ≡ q → is_accepted r.outcome ≡ false → new.urbs.items ≡ back.acted.urbs.items → ShowsUrb s (given_back s f r) v x
          unposed q e none same = acted_row v x (subst (λ b. IsApart v (cond b (question_at s u) None)) (sym none) tt) (ap (λ l. slice_get l v) (sym same) ∙ at)

          none_accepted : (o : Outcome) → r.outcome ≡ o → back.posed_question ≡ None → is_accepted o ≡ false
          none_accepted outcome.Rest did e = refl
          none_accepted (outcome.Again c) did e = refl
          none_accepted (outcome.Asked c) did e = absurd (no_question (question_at s u) (subst (λ q. IsPosedBy s (question_at s u) (outcome.Asked c) q) e (subst (λ o. IsPosedBy s (question_at s u) o back.posed_question) did decided.1.posed)))
            where
              no_question : (a : Option DriverQuestion) → IsPosedBy s a (outcome.Asked c) None → ⊥
              no_question None p = p
              no_question (Some a) p = p

          -- the one that was accepted
          put_row : (q : PosedQuestion) → back.posed_question ≡ Some q → SettledBy back.acted new q (outcome.Asked Zero) → r.outcome ≡ outcome.Asked Zero → ShowsUrb s (given_back s f r) v x
          put_row q e done did = with_question (question_at s u) refl (subst (λ y. IsPosedBy s (question_at s u) (outcome.Asked Zero) y) e (subst (λ o. IsPosedBy s (question_at s u) o back.posed_question) did decided.1.posed))
            where
              with_question : (asking : Option DriverQuestion) → question_at s u ≡ asking → IsPosedBy s asking (outcome.Asked Zero) (Some q) → ShowsUrb s (given_back s f r) v x
              with_question None is p = absurd p
              with_question (Some a) is p =
                  let posed_is : posed s r ≡ Some a = (λ i. cond (ap is_accepted did i) (is i) None) in
                  let p_ut : IsPut s f.history r a = put s f.history r pose may.can.gated a posed_is in
                  let base = done.0 in
                  let here : slice_get back.acted.urbs.items a.urb ≡ Some base.0 = ap (slice_get back.acted.urbs.items) (sym p.urb) ∙ base.1 in
                  let before : slice_get run.urbs.items a.urb ≡ Some base.0 = (go_old (looked_up run.urbs.items u a.urb (row_back back.did back.action now back.row) base.0 (ap (λ l. slice_get l a.urb) (sym rows) ∙ here)) p_ut) in
                  let set : new.urbs.items ≡ slice_set back.acted.urbs.items a.urb (record base.0 { transfer = Some a.transfer }) = base.2 ∙ (λ i. slice_set back.acted.urbs.items (p.urb i) (record base.0 { transfer = Some (p.transfer i) })) in
                  at_last a is p_ut base.0 before (looked_up back.acted.urbs.items a.urb v (record base.0 { transfer = Some a.transfer }) x (ap (λ l. slice_get l v) (sym set) ∙ at))
                where
                  go_old : {y : UrbRow} → ((a.urb ≡ u) × (y ≡ row_back back.did back.action now back.row)) ⊎ ((a.urb ≢ u) × (slice_get run.urbs.items a.urb ≡ Some y)) → IsPut s f.history r a → slice_get run.urbs.items a.urb ≡ Some y
                  go_old (inl same) p_ut = absurd (p_ut.pose.apart same.0)
                  go_old (inr off) p_ut = off.1

                  at_last : (a : DriverQuestion) → question_at s u ≡ Some a → IsPut s f.history r a → (y : UrbRow) → slice_get run.urbs.items a.urb ≡ Some y
                      → ((v ≡ a.urb) × (x ≡ record y { transfer = Some a.transfer })) ⊎ ((v ≢ a.urb) × (slice_get back.acted.urbs.items v ≡ Some x)) → ShowsUrb s (given_back s f r) v x
                  at_last a is p_ut y before (inl same) = subst (λ w. ShowsUrb s (given_back s f r) w x) (sym same.0) (subst (ShowsUrb s (given_back s f r) a.urb) (sym same.1)
                      (urb_posed s f r old.stands.legal a p_ut y (asking_apt s good u a is) (old.each_urb a.urb y before)))
                  at_last a is p_ut y before (inr off) = acted_row v x (subst (IsApart v) (sym (λ i. cond (ap is_accepted p_ut.did i) (is i) None)) off.0) off.1

          go : (q : Option PosedQuestion) → back.posed_question ≡ q → Settled back.acted new back.posed_question r.outcome → (o : Outcome) → r.outcome ≡ o → ShowsUrb s (given_back s f r) v x
          go None e done o did = unposed None e (ap is_accepted did ∙ none_accepted o did e) (λ i. (subst (λ q. Settled back.acted new q r.outcome) e done i).urbs.items)
          go (Some q) e done (outcome.Asked Zero) did = put_row q e (subst (SettledBy back.acted new q) did (subst (λ q. Settled back.acted new q r.outcome) e done).0) did
          go (Some q) e done (outcome.Asked (Fault c)) did = unposed (Some q) e (ap is_accepted did) (λ i. ((subst (SettledBy back.acted new q) did (subst (λ q. Settled back.acted new q r.outcome) e done).0).1 i).items)
          go (Some q) e done outcome.Rest did = unposed (Some q) e (ap is_accepted did) (λ i. ((subst (SettledBy back.acted new q) did (subst (λ q. Settled back.acted new q r.outcome) e done).0).1 i).items)
          go (Some q) e done (outcome.Again c) did = unposed (Some q) e (ap is_accepted did) (λ i. ((subst (SettledBy back.acted new q) did (subst (λ q. Settled back.acted new q r.outcome) e done).0).1 i).items)

      count : length new.urbs.items ≡ length run.urbs.items
      count = go back.posed_question settled ∙ (ap (λ l. length l) rows ∙ length-set run.urbs.items u (row_back back.did back.action now back.row))
        where
          by_outcome : (q : PosedQuestion) (o : Outcome) → SettledBy back.acted new q o → length new.urbs.items ≡ length back.acted.urbs.items
          by_outcome q (outcome.Asked Zero) is = ap (λ l. length l) is.0.2 ∙ length-set back.acted.urbs.items q.urb.0 (record is.0.0 { transfer = Some q.transfer })
          by_outcome q (outcome.Asked (Fault c)) is = (λ i. length (is.1 i).items)
          by_outcome q outcome.Rest is = (λ i. length (is.1 i).items)
          by_outcome q (outcome.Again c) is = (λ i. length (is.1 i).items)

          go : (q : Option PosedQuestion) → Settled back.acted new q r.outcome → length new.urbs.items ≡ length back.acted.urbs.items
          go None is = (λ i. length (is i).urbs.items)
          go (Some q) is = by_outcome q r.outcome is.0

      -- the object shows the progress with the giveback
      pub shows_returned : ShowsDevices s (asked_now s (given_back s f r)) mid.devices.items → Shows s (given_back s f r) new
      shows_returned devices = shows_back s f r pose run new old (subst (λ (p : Plain). Stands p (machine_of s) (f.history ++ giveback_entries s r)) (sym (λ i. (settled_so i).plain)) done.1)
          (subst (λ l. ShowsDevices s (asked_now s (given_back s f r)) l.items) (sym same_devices) devices) count new_row
          (record end { received = back.received }) ends
          (end_own s f r end now back.received (old.each_end (home s u) end there) is (subst (λ (x : EndRow). Adds x.received back.received (sent_bytes x.shape now)) mid_end back.more))
          (decided.1.cores back.acted new back.acted_cores settled) told ((λ i. (settled_so i).down) ∙ (back.host ∙ mid_same.host))

    same_again : back.row.again ≡ row.again
    same_again = ap (λ (x : UrbRow). x.again) mid_row

    same_owner : back.row.owner ≡ row.owner
    same_owner = ap (λ (x : UrbRow). x.owner) mid_row

    same_left : all_left new.devices.items ≡ all_left mid.devices.items
    same_left = (λ i. all_left (same_devices i).items)

    did : is_again back.did ≡ goes_again back.action
    did = ap is_again done.0 ∙ acts

    -- fewer turns are left, where a read with which a driver goes on used an item
    module _ (t : Transfer) (had : Some t ≡ row.transfer) (stood : after_window now ≡ after_window t) (keeps : all_left mid.devices.items ≤ all_left run.devices.items)
        (spends : (o : Owner) (m : Transfer) → owner_of s u ≡ Some o → is_write o.role ≡ false → goes_again (action_by (Some o) may_more status m) ≡ true → all_left mid.devices.items < all_left run.devices.items) where
      kept : all_left new.devices.items ≤ all_left run.devices.items
      kept = let same = same_left in omega arith

      -- where no question was accepted, the rows are those that the handler left
      module _ (plain_rows : new.urbs.items ≡ slice_set run.urbs.items u (row_back back.did back.action now back.row)) where
        resting : is_again back.did ≡ false → turns_left new < turns_left run
        resting rests = falls_resting run new u row t now at had back.did back.action back.row same_again same_owner plain_rows rests kept

        own : owner_of s u ≡ None → turns_left new < turns_left run
        own none = falls_own run new u row t now at had back.did back.action back.row same_again same_owner plain_rows (did ∙ by_may may_more refl) (narrow may_more refl) kept
          where
            is_own : (b : Bool) → may_more ≡ b → back.action ≡ action_by None b status (moved_in s r)
            is_own b e = decided.0 ∙ (λ i. action_by (none i) (e i) status (moved_in s r))

            by_may : (b : Bool) → may_more ≡ b → goes_again back.action ≡ nat_lt 0 back.row.again
            by_may true e = ap goes_again (is_own true e) ∙ sym e
            by_may false e = ap goes_again (is_own false e) ∙ sym e

            narrow : (b : Bool) → may_more ≡ b → after_window (window_by back.action now) ≤ after_window t
            narrow true e =
                let same : back.action ≡ action.Again now.from now.len = is_own true e ∙ (λ i. action.Again (sym is i).from (sym is i).len) in
                let window : after_window (window_by back.action now) ≡ after_window now = ap (λ a. after_window (window_by a now)) same in omega arith
            narrow false e = let window : after_window (window_by back.action now) ≡ after_window now = ap (λ a. after_window (window_by a now)) (is_own false e) in omega arith

        driven : (o : Owner) → owner_of s u ≡ Some o → turns_left new < turns_left run
        driven o own = go back.action refl
          where
            acts_as : back.action ≡ action_of o.driver o.role status (moved_in s r)
            acts_as = decided.0 ∙ ap (λ x. action_by x may_more status (moved_in s r)) own

            narrow : (from len : ℕ) → back.action ≡ action.Again from len → (b : Bool) → is_write o.role ≡ b → turns_left new < turns_left run
            narrow from len e true write =
                let role : o.role ≡ Write = write_is o.role write in
                let again = sym (ap (λ role. action_of o.driver role status (moved_in s r)) role) ∙ (sym acts_as ∙ e) in
                let less = job_narrows o.driver status (moved_in s r) from len again in
                let window : after_window (window_by back.action now) ≡ after_window (window_by (action.Again from len) (moved_in s r)) = (λ i. after_window (window_by (e i) (is i))) in
                let same : after_window (moved_in s r) ≡ after_window t = ap after_window (sym is) ∙ stood in
                falls_after run new u row t now at had back.did back.action back.row same_again same_owner plain_rows (omega arith) kept
            narrow from len e false read =
                let less = again_narrows o.driver o.role status (moved_in s r) from len (sym acts_as ∙ e) in
                let window : after_window (window_by back.action now) ≡ after_window (window_by (action.Again from len) (moved_in s r)) = (λ i. after_window (window_by (e i) (is i))) in
                let same : after_window (moved_in s r) ≡ after_window t = ap after_window (sym is) ∙ stood in
                let fell = spends o (moved_in s r) own read (ap goes_again (sym acts_as ∙ e)) in
                falls_spent run new u row t now at had back.did back.action back.row same_again same_owner plain_rows (omega arith) (let same = same_left in omega arith)

            go : (a : Action) → back.action ≡ a → turns_left new < turns_left run
            go action.Rest e = resting (did ∙ ap goes_again e)
            go action.Ask e = resting (did ∙ ap goes_again e)
            go (action.Again from len) e = narrow from len e (is_write o.role) refl

        by_owner : (o : Option Owner) → owner_of s u ≡ o → turns_left new < turns_left run
        by_owner None e = own e
        by_owner (Some o) e = driven o e

      -- where one was, its URB has it
      asked_falls : (q : PosedQuestion) → back.posed_question ≡ Some q → SettledBy back.acted new q (outcome.Asked Zero) → r.outcome ≡ outcome.Asked Zero → turns_left new < turns_left run
      asked_falls q e done_so did_so = with_question (question_at s u) refl (subst (λ y. IsPosedBy s (question_at s u) (outcome.Asked Zero) y) e (subst (λ o. IsPosedBy s (question_at s u) o back.posed_question) did_so decided.1.posed))
        where
          idle_row : (v : ℕ) (y : UrbRow) → ShowsUrb s f v y → (state_of f.history v).queued ≡ false → y.transfer ≡ None
          idle_row v y shown idle = go y.transfer refl
            where
              go : (o : Option Transfer) → y.transfer ≡ o → o ≡ None
              go None e = refl
              go (Some x) e = absurd (true≢false (sym (subst (HoldsTransfer s f v) e shown.holds).0 ∙ idle))

          stood_before : (a : DriverQuestion) → IsPut s f.history r a → (y : UrbRow) → ((a.urb ≡ u) × (y ≡ row_back back.did back.action now back.row)) ⊎ ((a.urb ≢ u) × (slice_get run.urbs.items a.urb ≡ Some y)) → slice_get run.urbs.items a.urb ≡ Some y
          stood_before a p_ut y (inl same) = absurd (p_ut.pose.apart same.0)
          stood_before a p_ut y (inr off) = off.1

          with_question : (asking : Option DriverQuestion) → question_at s u ≡ asking → IsPosedBy s asking (outcome.Asked Zero) (Some q) → turns_left new < turns_left run
          with_question None is_none p = absurd p
          with_question (Some a) is_some p =
              let p_ut : IsPut s f.history r a = put s f.history r pose may.can.gated a (λ i. cond (ap is_accepted did_so i) (is_some i) None) in
              let weighs = asking_weighs s good u a is_some in
              let here : slice_get back.acted.urbs.items a.urb ≡ Some done_so.0.0 = ap (slice_get back.acted.urbs.items) (sym p.urb) ∙ done_so.0.1 in
              let before : slice_get run.urbs.items a.urb ≡ Some done_so.0.0 = stood_before a p_ut done_so.0.0 (looked_up run.urbs.items u a.urb (row_back back.did back.action now back.row) done_so.0.0 (ap (λ l. slice_get l a.urb) (sym rows) ∙ here)) in
              let set : new.urbs.items ≡ slice_set (slice_set run.urbs.items u (row_back back.did back.action now back.row)) a.urb (record done_so.0.0 { transfer = Some a.transfer })
              = done_so.0.2 ∙ (λ i. slice_set (rows i) (p.urb i) (record done_so.0.0 { transfer = Some (p.transfer i) })) in
              let asked_row = old.each_urb a.urb done_so.0.0 before in
              falls_asked run new u row t now at had back.did back.action back.row same_again same_owner (ap is_again (done.0 ∙ did_so))
              (ap rank (old.each_urb u row at).owner ∙ weighs.0) a.urb done_so.0.0 a.transfer p_ut.pose.apart before (idle_row a.urb done_so.0.0 asked_row (accepted_idle (state_of f.history a.urb) p_ut.gate))
              (ap rank asked_row.owner ∙ weighs.1) weighs.2 set kept

      pub falls_returned : turns_left new < turns_left run
      falls_returned = go back.posed_question refl settled r.outcome refl
        where
          go : (q : Option PosedQuestion) → back.posed_question ≡ q → Settled back.acted new back.posed_question r.outcome → (o : Outcome) → r.outcome ≡ o → turns_left new < turns_left run
          go None e so o did_so = by_owner ((λ i. (subst (λ q. Settled back.acted new q r.outcome) e so i).urbs.items) ∙ rows) (owner_of s u) refl
          go (Some q) e so (outcome.Asked Zero) did_so = asked_falls q e (subst (SettledBy back.acted new q) did_so (subst (λ q. Settled back.acted new q r.outcome) e so).0) did_so
          go (Some q) e so (outcome.Asked (Fault c)) did_so = by_owner ((λ i. ((subst (SettledBy back.acted new q) did_so (subst (λ q. Settled back.acted new q r.outcome) e so).0).1 i).items) ∙ rows) (owner_of s u) refl
          go (Some q) e so outcome.Rest did_so = by_owner ((λ i. ((subst (SettledBy back.acted new q) did_so (subst (λ q. Settled back.acted new q r.outcome) e so).0).1 i).items) ∙ rows) (owner_of s u) refl
          go (Some q) e so (outcome.Again c) did_so = by_owner ((λ i. ((subst (SettledBy back.acted new q) did_so (subst (λ q. Settled back.acted new q r.outcome) e so).0).1 i).items) ∙ rows) (owner_of s u) refl
