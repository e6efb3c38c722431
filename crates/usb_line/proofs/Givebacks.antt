-- What is left when the server gave an URB back and its handler ran.
use Rattle.std.proofs.Common.{ℕ, ◌≡◌, ◌≢◌, ◌+◌, ◌-◌, ◌<◌, Bool, true, false, ◌&&◌, cond, eqb, fold, Option, Some, None, List, [], ◌∷◌, ◌++◌, refl, sym, ap, ◌∙◌, subst, arith, eq-eqb, ne_eqb, true≢false, append_assoc, append-nil}
use Rattle.std.proofs.lemmas.List.Sums.{fold-append}
use Rattle.usb_types.specs.declared.errno.Code.{Code}
use Rattle.usb_types.specs.declared.errno.Code.TheVariants.{Zero, Fault}
use Rattle.usb_machine.specs.declared.entry.TheConstants.{SERVER}
use Rattle.usb_machine.specs.declared.event.Event.TheVariants.{Submit, Finish, End}
use Rattle.usb_machine.specs.declared.event.Answer.TheVariants.{Code as Status, Truth}
use Rattle.usb_machine.specs.declared.state.Mark.TheVariants.{Clear, Finished}
use Rattle.usb_machine.specs.declared.transfer.Transfer.{Transfer}
use Rattle.usb_machine.specs.declared.entry.Entry.{Entry}
use Rattle.usb_machine.specs.declared.state.UrbState.{UrbState}
use Rattle.usb_machine.specs.State.{refusal, is_zero, is_clear, status_of}
use Rattle.usb_types.specs.declared.errno.Errno.{Errno}
use Rattle.usb_types.specs.declared.errno.Errno.TheVariants.{EBUSY, ENODEV, ENOENT, ESHUTDOWN, EPERM}
use Rattle.usb_machine.specs.Shapes.{HasWindow, Accepts, shape_fault}
use mathlib.Core.Logic.{dite}
use native.Mathlib.Decide.{ℕ_discrete}
use Rattle.usb_machine.specs.History.{state_of, without, pending_of, pending_after, sent_of, sent_after}
use Rattle.usb_machine.specs.Legal.{Follows}
use Rattle.usb_machine.specs.Calls.{entry, plain_entry, submit_entries}
use Rattle.usb_machine.proofs.Steps.{pending_of-snoc, sent_of-snoc}
use Rattle.usb_xfer.proofs.Windows.{moved_window}
use Rattle.usb_scene.specs.declared.scene.Scene.{Scene}
use Rattle.usb_trace.specs.declared.rows.Outcome.{Outcome}
use Rattle.usb_trace.specs.declared.rows.Outcome.TheVariants as outcome
use Rattle.usb_prepare.specs.Ends.{shape_at}
use Rattle.usb_prepare.specs.Layout.{home}
use Rattle.usb_trace.specs.Plan.{machine_of, owner_of, DriverQuestion, question_at}
pub use Rattle.usb_line.specs.Back.{IsGated, IsSettled, CanPose, CanPoseAny, CanGive}
use Rattle.usb_trace.specs.Run.{Giveback, moved_in, resent, submit_of, rest_entry, asked_entries, is_accepted, handled_by, handler_entries, given_entries, giveback_entries}
use Rattle.usb_trace.proofs.Entries.{AreOf, AreOf-append, AreAbout, own_state, other_state, change, AllFollow, AllFollow-append}
use Rattle.usb_line.proofs.MayFollow.{once, finish_follows, give_follows, rest_follows, end_follows, submit_follows, link_follows, submit_owes}
use Rattle.usb_line.specs.Line.{submit_answer}
use Rattle.usb_trace.proofs.AskedEach.{asked_each}
use Rattle.usb_line.proofs.Submits.{submit_pass, submit_state, submit_other, submit_pending, submit_sent, submit_follow}
use Rattle.usb_trace.proofs.Resent.{resent_number, resent_unmoved}

-- whether a handler submits the transfer again and is accepted
abbrev pub resubmits : Outcome → Bool
resubmits (outcome.Again code) = is_zero code
resubmits o = false

-- the state that a handler leaves, which found this one
abbrev pub handled_state : Outcome → ℕ → UrbState → UrbState
handled_state (outcome.Again Zero) n t = record t { queued = true; mark = Clear }
handled_state o n t = record t { rest = Some n }

-- the question that a handler asked, where it was accepted
abbrev pub posed_by : Option DriverQuestion → Outcome → Option DriverQuestion
posed_by asking o = cond (is_accepted o) asking None

abbrev pub posed : Scene → Giveback → Option DriverQuestion
posed s r = posed_by (question_at s r.urb) r.outcome

-- the URB is not the one of a question
abbrev pub IsApart : ℕ → Option DriverQuestion → Type 0
IsApart w None = Unit {0}
IsApart w (Some a) = w ≢ a.urb

pub apart_any : (s : Scene) (u : ℕ) (asking : Option DriverQuestion) → CanPoseAny s u asking → IsApart u asking
apart_any s u None can = tt
apart_any s u (Some a) can = λ is. can.apart (sym is)

abbrev queue_of : Bool → UrbState → UrbState
queue_of b t = cond b (record t { queued = true; mark = Clear }) t

-- a question
module _ (s : Scene) where
  abbrev shape_of : DriverQuestion → Option Errno
  shape_of a = shape_fault (shape_at s (home s a.urb)) a.transfer

  pub asked_pass : (asking : Option DriverQuestion) (c : Code) → AreOf SERVER (asked_entries s asking c)
  asked_pass asking c = asked_each s (AreOf SERVER) asking c tt (λ a is none. submit_pass SERVER a.urb a.transfer c)

  module _ (h : List Entry) (asking : Option DriverQuestion) (c : Code) where
    -- no other URB's state changes
    pub asked_other : (w : ℕ) → IsApart w (posed_by asking (outcome.Asked c)) → state_of (h ++ asked_entries s asking c) w ≡ state_of h w
    asked_other w = asked_each s (λ xs. IsApart w (posed_by asking (outcome.Asked c)) → state_of (h ++ xs) w ≡ state_of h w) asking c (λ apart. ap (λ l. state_of l w) (append-nil h)) some
      where
        at : (a : DriverQuestion) → w ≡ a.urb → (c : Code) → IsApart w (posed_by (Some a) (outcome.Asked c)) → state_of (h ++ submit_entries SERVER a.urb a.transfer c) w ≡ state_of h w
        at a same Zero apart = absurd (apart same)
        at a same (Fault e) apart = ap (state_of (h ++ submit_entries SERVER a.urb a.transfer (Fault e))) same ∙ (submit_state SERVER a.urb a.transfer h (Fault e) ∙ ap (state_of h) (sym same))

        some : (a : DriverQuestion) → asking ≡ Some a → shape_of a ≡ None → IsApart w (posed_by asking (outcome.Asked c)) → state_of (h ++ submit_entries SERVER a.urb a.transfer c) w ≡ state_of h w
        some a is none apart = dite (ℕ_discrete w a.urb)
            (λ same. at a same c (subst (λ o. IsApart w (posed_by o (outcome.Asked c))) is apart))
            (λ off. submit_other SERVER a.urb a.transfer h c w off)

    -- and none becomes pending
    pub asked_pending : (e : ℕ) → pending_of (machine_of s) (h ++ asked_entries s asking c) e ≡ pending_of (machine_of s) h e
    asked_pending e = asked_each s (λ xs. pending_of (machine_of s) (h ++ xs) e ≡ pending_of (machine_of s) h e) asking c (ap (λ l. pending_of (machine_of s) l e) (append-nil h))
        (λ a is none. submit_pending SERVER a.urb a.transfer h c (machine_of s) e)

    -- no other URB's transfer is sent
    pub asked_sent : (w : ℕ) → IsApart w (posed_by asking (outcome.Asked c)) → sent_of (h ++ asked_entries s asking c) w ≡ sent_of h w
    asked_sent w = asked_each s (λ xs. IsApart w (posed_by asking (outcome.Asked c)) → sent_of (h ++ xs) w ≡ sent_of h w) asking c (λ apart. ap (λ l. sent_of l w) (append-nil h)) some
      where
        at : (a : DriverQuestion) (c : Code) → IsApart w (posed_by (Some a) (outcome.Asked c)) → cond (eqb a.urb w && is_zero c) (Some a.transfer) (sent_of h w) ≡ sent_of h w
        at a Zero apart = ap (λ b. cond (b && true) (Some a.transfer) (sent_of h w)) (ne_eqb a.urb w (λ e. apart (sym e)))
        at a (Fault e) apart = none (eqb a.urb w)
          where
            none : (b : Bool) → cond (b && false) (Some a.transfer) (sent_of h w) ≡ sent_of h w
            none true = refl
            none false = refl

        some : (a : DriverQuestion) → asking ≡ Some a → shape_of a ≡ None → IsApart w (posed_by asking (outcome.Asked c)) → sent_of (h ++ submit_entries SERVER a.urb a.transfer c) w ≡ sent_of h w
        some a is none apart = submit_sent SERVER a.urb a.transfer h c w ∙ at a c (subst (λ o. IsApart w (posed_by o (outcome.Asked c))) is apart)

  -- the URB of one that was accepted is queued with its transfer
  module _ (h : List Entry) (a : DriverQuestion) (none : shape_of a ≡ None) where
    asks_so : asked_entries s (Some a) Zero ≡ submit_entries SERVER a.urb a.transfer Zero
    asks_so = ap (λ o. submit_of o SERVER a.urb a.transfer Zero) none

    pub asked_own : state_of (h ++ asked_entries s (Some a) Zero) a.urb ≡ record (state_of h a.urb) { queued = true; mark = Clear }
    asked_own = ap (λ xs. state_of (h ++ xs) a.urb) asks_so ∙ submit_state SERVER a.urb a.transfer h Zero

    pub asked_own_sent : sent_of (h ++ asked_entries s (Some a) Zero) a.urb ≡ Some a.transfer
    asked_own_sent = ap (λ xs. sent_of (h ++ xs) a.urb) asks_so ∙ (submit_sent SERVER a.urb a.transfer h Zero a.urb ∙ ap (λ b. cond (b && true) (Some a.transfer) (sent_of h a.urb)) (eq-eqb a.urb a.urb refl))

module _ (u : ℕ) (status : Code) where
  pub given_about : (b : Bool) → AreAbout u (given_entries u status b)
  given_about true = (tt, refl, (tt, refl, tt))
  given_about false = (tt, refl, tt)

  pub given_pass : (b : Bool) → AreOf SERVER (given_entries u status b)
  given_pass true = (refl, (refl, tt))
  given_pass false = (refl, tt)

  given_change : (b : Bool) (t : UrbState) → change t (given_entries u status b) ≡ record t { queued = false; mark = Clear; handlers = t.handlers + 1 }
  given_change true t = refl
  given_change false t = refl

  module _ (h : List Entry) (b : Bool) where
    pub given_state : state_of (h ++ given_entries u status b) u ≡ record (state_of h u) { queued = false; mark = Clear; handlers = (state_of h u).handlers + 1 }
    given_state = own_state u h (given_entries u status b) (given_about b) ∙ given_change b (state_of h u)

-- what a handler does, which found this history
module _ (s : Scene) (h : List Entry) (u : ℕ) (back again : Transfer) (asking : Option DriverQuestion) where
  abbrev handling : Outcome → List Entry
  handling o = handled_by s u back again asking o

  abbrev rest : Entry
  rest = rest_entry SERVER u back

  pub handled_pass : (o : Outcome) → AreOf SERVER (handling o)
  handled_pass outcome.Rest = (refl, tt)
  handled_pass (outcome.Again Zero) = (refl, (refl, tt))
  handled_pass (outcome.Again (Fault e)) = (refl, (refl, tt))
  handled_pass (outcome.Asked c) = (refl, asked_pass s asking c)

  split_asked : (c : Code) → h ++ handling (outcome.Asked c) ≡ (h ++ rest ∷ []) ++ asked_entries s asking c
  split_asked c = sym (append_assoc h (rest ∷ []) (asked_entries s asking c))

  pub handled_own : IsApart u asking → again.number ≡ back.number → (o : Outcome) → state_of (h ++ handling o) u ≡ handled_state o back.number (state_of h u)
  handled_own apart e outcome.Rest = own_state u h (rest ∷ []) (tt, refl, tt)
  handled_own apart e (outcome.Again Zero) = own_state u h (handling (outcome.Again Zero)) (tt, refl, (tt, refl, tt))
  handled_own apart e (outcome.Again (Fault c)) = own_state u h (handling (outcome.Again (Fault c))) (tt, refl, (tt, refl, tt)) ∙ ap (λ (n : ℕ). record (state_of h u) { rest = Some n }) e
  handled_own apart e (outcome.Asked c) = ap (λ (l : List Entry). state_of l u) (split_asked c) ∙ (asked_other s (h ++ rest ∷ []) asking c u (narrow asking apart c) ∙ own_state u h (rest ∷ []) (tt, refl, tt))
    where
      narrow : (asking : Option DriverQuestion) → IsApart u asking → (c : Code) → IsApart u (posed_by asking (outcome.Asked c))
      narrow asking apart Zero = apart
      narrow asking apart (Fault e) = tt

  pub handled_other : (w : ℕ) → w ≢ u → (o : Outcome) → IsApart w (posed_by asking o) → state_of (h ++ handling o) w ≡ state_of h w
  handled_other w off outcome.Rest apart = other_state u h (rest ∷ []) (tt, refl, tt) w off
  handled_other w off (outcome.Again Zero) apart = other_state u h (handling (outcome.Again Zero)) (tt, refl, (tt, refl, tt)) w off
  handled_other w off (outcome.Again (Fault c)) apart = other_state u h (handling (outcome.Again (Fault c))) (tt, refl, (tt, refl, tt)) w off
  handled_other w off (outcome.Asked c) apart = ap (λ (l : List Entry). state_of l w) (split_asked c)
      ∙ (asked_other s (h ++ rest ∷ []) asking c w apart ∙ other_state u h (rest ∷ []) (tt, refl, tt) w off)

  pub handled_pending : (o : Outcome) (e : ℕ) → pending_of (machine_of s) (h ++ handling o) e ≡ pending_of (machine_of s) h e
  handled_pending o e = go o
    where
      plainly : (xs : List Entry) → fold (λ us x. pending_after (machine_of s) e us x.event x.answer) (pending_of (machine_of s) h e) xs ≡ pending_of (machine_of s) h e
          → pending_of (machine_of s) (h ++ xs) e ≡ pending_of (machine_of s) h e
      plainly xs is = fold-append (λ us x. pending_after (machine_of s) e us x.event x.answer) [] h xs ∙ is

      go : (o : Outcome) → pending_of (machine_of s) (h ++ handling o) e ≡ pending_of (machine_of s) h e
      go outcome.Rest = plainly (handling outcome.Rest) refl
      go (outcome.Again Zero) = plainly (handling (outcome.Again Zero)) refl
      go (outcome.Again (Fault c)) = plainly (handling (outcome.Again (Fault c))) refl
      go (outcome.Asked c) = ap (λ (l : List Entry). pending_of (machine_of s) l e) (split_asked c) ∙ (asked_pending s (h ++ rest ∷ []) asking c e ∙ plainly (rest ∷ []) refl)

  pub handled_sent : (o : Outcome) (w : ℕ) → IsApart w (posed_by asking o) → sent_of (h ++ handling o) w ≡ cond (eqb u w && resubmits o) (Some again) (sent_of h w)
  handled_sent o w apart = go o apart (eqb u w) refl
    where
      plainly : (xs : List Entry) (t : Option Transfer) → fold (λ (t : Option Transfer) x. sent_after w t x.event x.answer x.carried) (sent_of h w) xs ≡ t → sent_of (h ++ xs) w ≡ t
      plainly xs t is = fold-append (λ (t : Option Transfer) x. sent_after w t x.event x.answer x.carried) None h xs ∙ is

      go : (o : Outcome) → IsApart w (posed_by asking o) → (b : Bool) → eqb u w ≡ b → sent_of (h ++ handling o) w ≡ cond (b && resubmits o) (Some again) (sent_of h w)
      go outcome.Rest apart true is = plainly (handling outcome.Rest) _ refl
      go outcome.Rest apart false is = plainly (handling outcome.Rest) _ refl
      go (outcome.Again Zero) apart true is = plainly (handling (outcome.Again Zero)) _ (ap (λ b. cond b (Some again) (sent_of h w)) is)
      go (outcome.Again Zero) apart false is = plainly (handling (outcome.Again Zero)) _ (ap (λ b. cond b (Some again) (sent_of h w)) is)
      go (outcome.Again (Fault c)) apart true is = plainly (handling (outcome.Again (Fault c))) _ (ap (λ b. cond b (sent_of h w) (sent_of h w)) is)
      go (outcome.Again (Fault c)) apart false is = plainly (handling (outcome.Again (Fault c))) _ (ap (λ b. cond b (sent_of h w) (sent_of h w)) is)
      go (outcome.Asked c) apart b is = ap (λ (l : List Entry). sent_of l w) (split_asked c) ∙ (asked_sent s (h ++ rest ∷ []) asking c w apart ∙ (plainly (rest ∷ []) (sent_of h w) refl ∙ off b))
        where
          off : (b : Bool) → sent_of h w ≡ cond (b && false) (Some again) (sent_of h w)
          off true = refl
          off false = refl

module _ (s : Scene) (h : List Entry) (r : Giveback) where
  abbrev asking : Option DriverQuestion
  asking = question_at s r.urb

  abbrev pub given : List Entry
  given = h ++ given_entries r.urb r.status r.finished

  abbrev pub handled : List Entry
  handled = given ++ handled_by s r.urb (moved_in s r) (resent s r) asking r.outcome

  abbrev end : Entry
  end = plain_entry SERVER (End record { 0 = r.urb })

  pub whole : h ++ giveback_entries s r ≡ handled ++ end ∷ []
  whole = sym (append_assoc h (given_entries r.urb r.status r.finished) (handler_entries s r))
      ∙ sym (append_assoc given (handled_by s r.urb (moved_in s r) (resent s r) asking r.outcome) (end ∷ []))

  pub giveback_pass : AreOf SERVER (giveback_entries s r)
  giveback_pass = AreOf-append SERVER (given_entries r.urb r.status r.finished) (handler_entries s r) (given_pass r.urb r.status r.finished)
      (AreOf-append SERVER (handled_by s r.urb (moved_in s r) (resent s r) asking r.outcome) (end ∷ []) (handled_pass s given r.urb (moved_in s r) (resent s r) asking r.outcome) (refl, tt))

  module _ (apart : IsApart r.urb asking) where
    handled_at : state_of handled r.urb ≡ handled_state r.outcome (moved_in s r).number (state_of given r.urb)
    handled_at = handled_own s given r.urb (moved_in s r) (resent s r) asking apart (resent_number (owner_of s r.urb) r.status (moved_in s r)) r.outcome

    -- the URB is queued no more, or again where its handler submitted it, and else its transfer rests
    pub giveback_state : state_of (h ++ giveback_entries s r) r.urb ≡ handled_state r.outcome (moved_in s r).number (record (state_of h r.urb) { queued = false; mark = Clear })
    giveback_state =
        ap (λ (l : List Entry). state_of l r.urb) whole
        ∙ (own_state r.urb handled (end ∷ []) (tt, refl, tt)
        ∙ (ap (λ (t : UrbState). record t { handlers = t.handlers - 1 }) (handled_at ∙ ap (handled_state r.outcome (moved_in s r).number) (given_state r.urb r.status h r.finished))
        ∙ go r.outcome))
      where
        same : (state_of h r.urb).handlers + 1 - 1 ≡ (state_of h r.urb).handlers
        same = omega arith

        go : (o : Outcome) → let t = handled_state o (moved_in s r).number (record (state_of h r.urb) { queued = false; mark = Clear; handlers = (state_of h r.urb).handlers + 1 }) in
            record t { handlers = t.handlers - 1 } ≡ handled_state o (moved_in s r).number (record (state_of h r.urb) { queued = false; mark = Clear })
        go outcome.Rest = ap (λ (k : ℕ). record (state_of h r.urb) { queued = false; mark = Clear; handlers = k; rest = Some (moved_in s r).number }) same
        go (outcome.Again Zero) = ap (λ (k : ℕ). record (state_of h r.urb) { queued = true; mark = Clear; handlers = k }) same
        go (outcome.Again (Fault e)) = ap (λ (k : ℕ). record (state_of h r.urb) { queued = false; mark = Clear; handlers = k; rest = Some (moved_in s r).number }) same
        go (outcome.Asked c) = ap (λ (k : ℕ). record (state_of h r.urb) { queued = false; mark = Clear; handlers = k; rest = Some (moved_in s r).number }) same

  -- no other URB's state changes, but that of one that a question is asked with
  pub giveback_other : (v : ℕ) → v ≢ r.urb → IsApart v (posed s r) → state_of (h ++ giveback_entries s r) v ≡ state_of h v
  giveback_other v off apart = ap (λ (l : List Entry). state_of l v) whole
      ∙ (other_state r.urb handled (end ∷ []) (tt, refl, tt) v off
      ∙ (handled_other s given r.urb (moved_in s r) (resent s r) asking v off r.outcome apart
      ∙ other_state r.urb h (given_entries r.urb r.status r.finished) (given_about r.urb r.status r.finished) v off))

  -- and it is pending no more
  pub giveback_pending : (e : ℕ) → pending_of (machine_of s) (h ++ giveback_entries s r) e
      ≡ cond (eqb (home s r.urb) e) (without r.urb (pending_of (machine_of s) h e)) (pending_of (machine_of s) h e)
  giveback_pending e = ap (λ (l : List Entry). pending_of (machine_of s) l e) whole
      ∙ (pending_of-snoc handled end (machine_of s) e
      ∙ (handled_pending s given r.urb (moved_in s r) (resent s r) asking r.outcome e
      ∙ (fold-append (λ us x. pending_after (machine_of s) e us x.event x.answer) [] h (given_entries r.urb r.status r.finished) ∙ go r.finished)))
    where
      go : (b : Bool) → fold (λ us x. pending_after (machine_of s) e us x.event x.answer) (pending_of (machine_of s) h e) (given_entries r.urb r.status b)
          ≡ cond (eqb (home s r.urb) e) (without r.urb (pending_of (machine_of s) h e)) (pending_of (machine_of s) h e)
      go true = refl
      go false = refl

  given_sent : (v : ℕ) → sent_of given v ≡ sent_of h v
  given_sent v = fold-append (λ (t : Option Transfer) x. sent_after v t x.event x.answer x.carried) None h (given_entries r.urb r.status r.finished) ∙ go r.finished
    where
      go : (b : Bool) → fold (λ (t : Option Transfer) x. sent_after v t x.event x.answer x.carried) (sent_of h v) (given_entries r.urb r.status b) ≡ sent_of h v
      go true = refl
      go false = refl

  -- and the transfer that was moved is sent again
  pub giveback_sent : (v : ℕ) → IsApart v (posed s r) → sent_of (h ++ giveback_entries s r) v ≡ cond (eqb r.urb v && resubmits r.outcome) (Some (resent s r)) (sent_of h v)
  giveback_sent v apart = ap (λ (l : List Entry). sent_of l v) whole
      ∙ (sent_of-snoc handled end v
      ∙ (handled_sent s given r.urb (moved_in s r) (resent s r) asking r.outcome v apart
      ∙ ap (λ t. cond (eqb r.urb v && resubmits r.outcome) (Some (resent s r)) t) (given_sent v)))

  abbrev pub resting : List Entry
  resting = given ++ rest_entry SERVER r.urb (moved_in s r) ∷ []

  pub whole_asked : (c : Code) → r.outcome ≡ outcome.Asked c → h ++ giveback_entries s r ≡ (resting ++ asked_entries s asking c) ++ end ∷ []
  whole_asked c did = whole ∙ ap (λ l. l ++ end ∷ []) (ap (λ o. given ++ handled_by s r.urb (moved_in s r) (resent s r) asking o) did
      ∙ sym (append_assoc given (rest_entry SERVER r.urb (moved_in s r) ∷ []) (asked_entries s asking c)))

  -- the URB of a question that was accepted is queued with it
  module _ (a : DriverQuestion) (is : asking ≡ Some a) (did : r.outcome ≡ outcome.Asked Zero) (none : shape_fault (shape_at s (home s a.urb)) a.transfer ≡ None) (off : a.urb ≢ r.urb) where
    asks : h ++ giveback_entries s r ≡ (resting ++ asked_entries s (Some a) Zero) ++ end ∷ []
    asks = whole_asked Zero did ∙ ap (λ x. (resting ++ asked_entries s x Zero) ++ end ∷ []) is

    pub giveback_posed : state_of (h ++ giveback_entries s r) a.urb ≡ record (state_of h a.urb) { queued = true; mark = Clear }
    giveback_posed = ap (λ (l : List Entry). state_of l a.urb) asks
        ∙ (other_state r.urb (resting ++ asked_entries s (Some a) Zero) (end ∷ []) (tt, refl, tt) a.urb off
        ∙ (asked_own s resting a none
        ∙ ap (λ (t : UrbState). record t { queued = true; mark = Clear }) (other_state r.urb given (rest_entry SERVER r.urb (moved_in s r) ∷ []) (tt, refl, tt) a.urb off
        ∙ other_state r.urb h (given_entries r.urb r.status r.finished) (given_about r.urb r.status r.finished) a.urb off)))

    pub giveback_posed_sent : sent_of (h ++ giveback_entries s r) a.urb ≡ Some a.transfer
    giveback_posed_sent = ap (λ (l : List Entry). sent_of l a.urb) asks ∙ (sent_of-snoc (resting ++ asked_entries s (Some a) Zero) end a.urb ∙ asked_own_sent s resting a none)

  module _ (can : CanGive s h r) where
    pub given_follow : AllFollow (machine_of s) h (given_entries r.urb r.status r.finished)
    given_follow = go r.finished can.settled
      where
        go : (b : Bool) → IsSettled s h r b → AllFollow (machine_of s) h (given_entries r.urb r.status b)
        go false is = (give_follows s h r.urb r.status can.among is.0 is.1, tt)
        go true is =
            let marked : state_of (h ++ entry SERVER (Finish record { 0 = r.urb } r.status) (Truth true) None ∷ []) r.urb ≡ record (state_of h r.urb) { mark = Finished r.status }
            = own_state r.urb h (entry SERVER (Finish record { 0 = r.urb } r.status) (Truth true) None ∷ []) (tt, refl, tt) in
            let pending : pending_of (machine_of s) (h ++ entry SERVER (Finish record { 0 = r.urb } r.status) (Truth true) None ∷ []) (home s r.urb) ≡ pending_of (machine_of s) h (home s r.urb)
            = pending_of-snoc h (entry SERVER (Finish record { 0 = r.urb } r.status) (Truth true) None) (machine_of s) (home s r.urb) in (
              finish_follows s h r.urb is.0.0 r.status is.0.1 is.1,
              (
                give_follows s (h ++ entry SERVER (Finish record { 0 = r.urb } r.status) (Truth true) None ∷ []) r.urb r.status
                    (once r.urb _ is.0.0 (pending ∙ is.0.1)) (ap (λ (t : UrbState). is_clear t.mark) marked) (sym (ap (λ (t : UrbState). status_of t.mark) marked)),
                tt,
              ),
            )

    again_gated : (o : Option DriverQuestion) (c : Code) → IsGated s given r.urb o (outcome.Again c) → c ≡ refusal (state_of given r.urb)
    again_gated None c is = is
    again_gated (Some a) c is = is

    runs : 0 < (state_of given r.urb).handlers
    runs = subst (λ (t : UrbState). 0 < t.handlers) (sym (given_state r.urb r.status h r.finished)) (omega arith)

    apart : IsApart r.urb asking
    apart = apart_any s r.urb asking can.asks

    pub back_window : HasWindow (moved_in s r)
    back_window = moved_window (shape_at s (home s r.urb)) r.sent r.replies can.window

    abbrev submit : Code → Entry
    submit c = entry SERVER (Submit record { 0 = r.urb } (resent s r).number) (Status c) (Some (resent s r))

    submitted : (c : Code) → Follows (machine_of s) given (submit c) → AllFollow (machine_of s) given (handled_by s r.urb (moved_in s r) (resent s r) asking (outcome.Again c))
    submitted Zero f = (f, (link_follows s (given ++ submit Zero ∷ []) SERVER r.urb (omega arith) (submit_owes given SERVER r.urb (resent s r).number (Some (resent s r))), tt))
    submitted (Fault e) f =
        let same : state_of (given ++ submit (Fault e) ∷ []) r.urb ≡ state_of given r.urb = own_state r.urb given (submit (Fault e) ∷ []) (tt, refl, tt) in
        (f, (rest_follows s (given ++ submit (Fault e) ∷ []) r.urb (resent s r) can.goes (subst (λ (t : UrbState). 0 < t.handlers) (sym same) runs), tt))

    -- the submit of a question that its endpoint takes
    posing : (a : DriverQuestion) → CanPose s r.urb a → (c : Code) → c ≡ submit_answer (shape_fault (shape_at s (home s a.urb)) a.transfer) (refusal (state_of given a.urb))
        → AllFollow (machine_of s) (given ++ rest_entry SERVER r.urb (moved_in s r) ∷ []) (asked_entries s (Some a) c)
    posing a pose c is = go (shape_fault (shape_at s (home s a.urb)) a.transfer) refl is
      where
        same : state_of resting a.urb ≡ state_of given a.urb
        same = other_state r.urb given (rest_entry SERVER r.urb (moved_in s r) ∷ []) (tt, refl, tt) a.urb pose.apart

        go : (fault : Option Errno) → shape_fault (shape_at s (home s a.urb)) a.transfer ≡ fault → c ≡ submit_answer fault (refusal (state_of given a.urb))
            → AllFollow (machine_of s) resting (submit_of fault SERVER a.urb a.transfer c)
        go (Some e) none says = tt
        go None none says = subst (λ c. AllFollow (machine_of s) resting (submit_entries SERVER a.urb a.transfer c)) (ap refusal same ∙ sym says)
            (submit_follow s resting SERVER a.urb a.transfer (omega arith) pose.has pose.window pose.unmoved (subst (λ o. Accepts o a.transfer) (sym pose.home) none))

    asked_follow : (o : Option DriverQuestion) → CanPoseAny s r.urb o → (c : Code) → IsGated s given r.urb o (outcome.Asked c) → AllFollow (machine_of s) (given ++ rest_entry SERVER r.urb (moved_in s r) ∷ []) (asked_entries s o c)
    asked_follow None pose c is = tt
    asked_follow (Some a) pose c is = posing a pose c is

    pub handled_follow : AllFollow (machine_of s) given (handled_by s r.urb (moved_in s r) (resent s r) asking r.outcome)
    handled_follow = go r.outcome can.gated
      where
        go : (o : Outcome) → IsGated s given r.urb asking o → AllFollow (machine_of s) given (handled_by s r.urb (moved_in s r) (resent s r) asking o)
        go outcome.Rest is = (rest_follows s given r.urb (moved_in s r) back_window runs, tt)
        go (outcome.Again c) is = submitted c (subst (λ (c : Code). Follows (machine_of s) given (submit c)) (sym (again_gated asking c is))
            (submit_follows s given SERVER r.urb (omega arith) (resent s r) can.has can.goes (resent_unmoved (owner_of s r.urb) r.status (moved_in s r)) can.fits))
        go (outcome.Asked c) is = (rest_follows s given r.urb (moved_in s r) back_window runs, asked_follow asking can.asks c is)

    pub end_runs : 0 < (state_of handled r.urb).handlers
    end_runs = subst (λ (t : UrbState). 0 < t.handlers) (sym (handled_at apart)) (go r.outcome)
      where
        go : (o : Outcome) → 0 < (handled_state o (moved_in s r).number (state_of given r.urb)).handlers
        go outcome.Rest = runs
        go (outcome.Again Zero) = runs
        go (outcome.Again (Fault e)) = runs
        go (outcome.Asked c) = runs

    pub giveback_follow : AllFollow (machine_of s) h (giveback_entries s r)
    giveback_follow = AllFollow-append (machine_of s) h (given_entries r.urb r.status r.finished) (handler_entries s r) given_follow
        (AllFollow-append (machine_of s) given (handled_by s r.urb (moved_in s r) (resent s r) asking r.outcome) (end ∷ []) handled_follow (end_follows s handled r.urb end_runs, tt))

-- a gate that accepts finds the URB not queued
pub accepted_idle : (t : UrbState) → refusal t ≡ Zero → t.queued ≡ false
accepted_idle t is = go t.queued is
  where
    go : (b : Bool) → cond b (Fault EBUSY) (cond t.flags.gone (Fault ENODEV) (cond (eqb 0 t.rejects) (cond t.flags.off (Fault ENOENT) (cond t.flags.down (Fault ESHUTDOWN) Zero)) (Fault EPERM))) ≡ Zero → b ≡ false
    go true e = cc
    go false e = refl

-- a question that was accepted
pub record IsPut (s : Scene) (h : List Entry) (r : Giveback) (a : DriverQuestion) : Type 0 where
  pub pose : CanPose s r.urb a
  pub is : question_at s r.urb ≡ Some a
  pub did : r.outcome ≡ outcome.Asked Zero
  pub takes : shape_fault (shape_at s (home s a.urb)) a.transfer ≡ None
  pub gate : refusal (state_of h a.urb) ≡ Zero

module _ (s : Scene) (h : List Entry) (r : Giveback) (pose : CanPoseAny s r.urb (question_at s r.urb)) (gated : IsGated s (given s h r) r.urb (question_at s r.urb) r.outcome) where
  answered : (fault : Option Errno) (code : Code) → Zero ≡ submit_answer fault code → (fault ≡ None) × (code ≡ Zero)
  answered None code is = (refl, sym is)
  answered (Some e) code is = cc

  put_by : (asking : Option DriverQuestion) → question_at s r.urb ≡ asking → (o : Outcome) → r.outcome ≡ o → CanPoseAny s r.urb asking → IsGated s (given s h r) r.urb asking o → (a : DriverQuestion) → posed_by asking o ≡ Some a → IsPut s h r a
  put_by None e o did pose gated a is = absurd (none (is_accepted o) is)
    where
      none : (b : Bool) → cond {A = Option DriverQuestion} b None None ≡ Some a → ⊥
      none true x = cc
      none false x = cc
  put_by (Some b) e (outcome.Asked Zero) did pose gated a is =
      let same : b ≡ a = cc in
      let says = answered (shape_fault (shape_at s (home s b.urb)) b.transfer) (refusal (state_of (given s h r) b.urb)) gated in
      subst (IsPut s h r) same record {
        pose = pose;
        is = e;
        did = did;
        takes = says.0;
        gate = ap refusal (sym (other_state r.urb h (given_entries r.urb r.status r.finished) (given_about r.urb r.status r.finished) b.urb pose.apart)) ∙ says.1;
      }
  put_by (Some b) e (outcome.Asked (Fault x)) did pose gated a is = cc
  put_by (Some b) e outcome.Rest did pose gated a is = cc
  put_by (Some b) e (outcome.Again c) did pose gated a is = cc

  pub put : (a : DriverQuestion) → posed s r ≡ Some a → IsPut s h r a
  put a is = put_by (question_at s r.urb) refl r.outcome refl pose gated a is

  -- it is not one that the gate refuses, nor one that is queued
  pub refused_apart : (v : ℕ) → is_zero (refusal (state_of h v)) ≡ false → IsApart v (posed s r)
  refused_apart v off = go (posed s r) refl
    where
      go : (o : Option DriverQuestion) → posed s r ≡ o → IsApart v o
      go None e = tt
      go (Some a) e = λ same. true≢false (sym (ap is_zero (put a e).gate) ∙ (ap (λ u. is_zero (refusal (state_of h u))) (sym same) ∙ off))

  pub queued_apart : (v : ℕ) → (state_of h v).queued ≡ true → IsApart v (posed s r)
  queued_apart v on = go (posed s r) refl
    where
      go : (o : Option DriverQuestion) → posed s r ≡ o → IsApart v o
      go None e = tt
      go (Some a) e = λ same. true≢false (sym on ∙ (ap (λ u. (state_of h u).queued) same ∙ accepted_idle (state_of h a.urb) (put a e).gate))
