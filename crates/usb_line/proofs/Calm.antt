-- Between the blocks of a run no handler runs, no URB is marked as finished, and no Link is owed.
use Rattle.std.proofs.Common.{ℕ, zero, suc, ◌≡◌, ◌≢◌, ◌⊎◌, inl, inr, ◌+◌, Bool, true, false, ◌&&◌, cond, eqb, fold, List, [], ◌∷◌, ◌++◌, refl, sym, ap, ◌∙◌, subst, arith, append_assoc, append-nil}
use mathlib.Core.Logic.{dite}
use native.Mathlib.Decide.{ℕ_discrete}
use Rattle.std.proofs.lemmas.List.Sums.{fold-append}
use Rattle.std.proofs.lemmas.List.Elements.{filter-append}
use Rattle.usb_types.specs.declared.errno.Code.{Code}
use Rattle.usb_types.specs.declared.errno.Code.TheVariants.{Zero, Fault}
use Rattle.usb_machine.specs.declared.entry.TheConstants.{SERVER}
use Rattle.usb_machine.specs.declared.event.Event.{Event}
use Rattle.usb_machine.specs.declared.event.Event.TheVariants.{Submit, Link, Take, Mark, Finish, Give, Rest, End, Reject, Withdraw, Quiet, Claim, Flag, Unflag}
use Rattle.usb_machine.specs.declared.event.Answer.{Answer}
use Rattle.usb_machine.specs.declared.state.Mark.TheVariants.{Clear}
use Rattle.usb_machine.specs.declared.state.UrbState.{UrbState}
use Rattle.usb_machine.specs.declared.transfer.Transfer.{Transfer}
use Rattle.usb_machine.specs.declared.entry.Entry.{Entry}
use Rattle.usb_machine.specs.State.{after, accepted, unlinks, is_zero}
use Rattle.usb_machine.specs.History.{Machine, home_of, state_of, is_of, line_of, pending_of}
use Rattle.usb_machine.specs.Parts.{part_of, owes, owes_after}
use Rattle.usb_machine.specs.Legal.{IsLegal, times}
use Rattle.usb_machine.specs.Laws.{bit, owing}
use Rattle.usb_machine.specs.Calls.{plain_entry, submit_entries}
use Rattle.usb_machine.proofs.Steps.{state_of-snoc}
use Rattle.usb_machine.proofs.Totals.{total_same, total_none}
use Rattle.usb_machine.proofs.Places.{placed}
use Rattle.usb_scene.specs.declared.scene.Scene.{Scene}
use Rattle.usb_trace.specs.declared.rows.Outcome.{Outcome}
use Rattle.usb_trace.specs.declared.rows.Outcome.TheVariants as outcome
use Rattle.usb_trace.specs.Plan.{machine_of, DriverQuestion, question_at}
use Rattle.usb_line.specs.Back.{CanPoseAny}
use Rattle.usb_trace.specs.Run.{Giveback, moved_in, resent, rest_entry, asked_entries, handled_by, given_entries, giveback_entries}
use Rattle.usb_line.specs.Line.{takes, takes_below}
pub use Rattle.usb_line.specs.Between.{is_finished, IsAtRest, IsCalm, AllLinked}
use Rattle.usb_trace.proofs.Entries.{AreOf, grows, stays, other_state}
use Rattle.usb_line.proofs.Takes.{below_state, below_pass}
use Rattle.usb_trace.proofs.AskedEach.{asked_each}
use Rattle.usb_line.proofs.Givebacks.{handled_state, IsApart, apart_any, posed_by, given_about, handled, whole, whole_asked, resting, giveback_state, giveback_other, giveback_pass}
use Rattle.usb_line.proofs.Submits.{submit_pass, submit_state, submit_other, submit_owes_none}
use Rattle.usb_trace.proofs.Stills.{IsStill, AreStill, stills_owe}

pub calm_empty : IsCalm []
calm_empty u = record { handlers = refl; mark = refl }

pub linked_empty : AllLinked []
linked_empty p u = refl

either : (b : Bool) (t r : UrbState) → IsAtRest t → IsAtRest r → IsAtRest (cond b t r)
either true t r a b = a
either false t r a b = b

-- the event marks nothing as finished, and begins and ends no handler
abbrev pub IsQuietEvent : Event → Type 0
IsQuietEvent (Finish u c) = ⊥
IsQuietEvent (Give u) = ⊥
IsQuietEvent (End u) = ⊥
IsQuietEvent _ = Unit {0}

pub rest_after : (e : Event) (a : Answer) (t : UrbState) → IsQuietEvent e → IsAtRest t → IsAtRest (after e a t)
rest_after (Submit u n) a t is r = either (accepted a) _ t record { handlers = r.handlers; mark = refl } r
rest_after (Mark u w) a t is r = either (unlinks a) _ t record { handlers = r.handlers; mark = refl } r
rest_after (Finish u c) a t is r = absurd is
rest_after (Give u) a t is r = absurd is
rest_after (End u) a t is r = absurd is
rest_after (Link u) a t is r = r
rest_after (Take e) a t is r = r
rest_after (Rest u n) a t is r = record { handlers = r.handlers; mark = r.mark }
rest_after (Reject u) a t is r = record { handlers = r.handlers; mark = r.mark }
rest_after (Withdraw u) a t is r = record { handlers = r.handlers; mark = r.mark }
rest_after (Quiet u) a t is r = r
rest_after (Claim u) a t is r = record { handlers = r.handlers; mark = r.mark }
rest_after (Flag u f) a t is r = record { handlers = r.handlers; mark = r.mark }
rest_after (Unflag u f) a t is r = record { handlers = r.handlers; mark = r.mark }

pub calm_entry : (h : List Entry) (x : Entry) → IsQuietEvent x.event → IsCalm h → IsCalm (h ++ x ∷ [])
calm_entry h x is calm u = subst IsAtRest (sym (state_of-snoc h x u)) (either (is_of u x.event) _ _ (rest_after x.event x.answer (state_of h u) is (calm u)) (calm u))

still_is_quiet : (e : Event) → IsStill e → IsQuietEvent e
still_is_quiet (Finish u c) is = is
still_is_quiet (Give u) is = is
still_is_quiet (End u) is = is
still_is_quiet _ is = tt

pub calm_still : (h xs : List Entry) → AreStill xs → IsCalm h → IsCalm (h ++ xs)
calm_still h [] is calm = subst IsCalm (sym (append-nil h)) calm
calm_still h (x ∷ xs) is calm = subst IsCalm (append_assoc h (x ∷ []) xs) (calm_still (h ++ x ∷ []) xs is.1 (calm_entry h x (still_is_quiet x.event is.0) calm))

still_part : (p : ℕ) (xs : List Entry) → AreStill xs → AreStill (part_of xs p)
still_part p [] is = tt
still_part p (x ∷ xs) is = go (eqb x.pass p) (still_part p xs is.1)
  where
    go : (b : Bool) → AreStill (part_of xs p) → AreStill (cond b (x ∷ part_of xs p) (part_of xs p))
    go true a = (is.0, a)
    go false a = a

pub linked_still : (h xs : List Entry) → AreStill xs → AllLinked h → AllLinked (h ++ xs)
linked_still h xs is linked p u = ap (λ m. owes m u) (filter-append (λ x. eqb x.pass p) h xs) ∙ stills_owe (part_of h p) (part_of xs p) (still_part p xs is) u (linked p u)

-- entries of one pass after which it owes no Link
module _ (q : ℕ) (h xs : List Entry) (is : AreOf q xs) (none : (m : List Entry) (u : ℕ) → owes m u ≡ false → owes (m ++ xs) u ≡ false) where
  linked_by : AllLinked h → AllLinked (h ++ xs)
  linked_by linked p u = dite (ℕ_discrete q p)
      (λ same. subst (λ p. owes (part_of (h ++ xs) p) u ≡ false) same (ap (λ m. owes m u) (grows q h xs is) ∙ none (part_of h q) u (linked q u)))
      (λ off. ap (λ m. owes m u) (stays q h xs is p off) ∙ linked p u)

takes_owe : (e : ℕ) (us : List ℕ) (m : List Entry) (u : ℕ) → owes m u ≡ false → owes (m ++ takes e us) u ≡ false
takes_owe e us m u none = fold-append (λ b x. owes_after u b x.event x.answer) false m (takes e us) ∙ (ap (λ b. fold (λ b x. owes_after u b x.event x.answer) b (takes e us)) none ∙ go us)
  where
    go : (us : List ℕ) → fold (λ b x. owes_after u b x.event x.answer) false (takes e us) ≡ false
    go [] = refl
    go (v ∷ us) = go us

below_owe : (s : Scene) (h : List Entry) (n : ℕ) (m : List Entry) (u : ℕ) → owes m u ≡ false → owes (m ++ takes_below s h n) u ≡ false
below_owe s h zero m u none = ap (λ l. owes l u) (append-nil m) ∙ none
below_owe s h (suc e) m u none = ap (λ l. owes l u) (sym (append_assoc m (takes_below s h e) (takes e (line_of (machine_of s) h e))))
    ∙ takes_owe e (line_of (machine_of s) h e) (m ++ takes_below s h e) u (below_owe s h e m u none)

module _ (s : Scene) (h : List Entry) where
  pub calm_takes : (n : ℕ) → IsCalm h → IsCalm (h ++ takes_below s h n)
  calm_takes n calm u = subst IsAtRest (sym (below_state s h n u)) (calm u)

  pub linked_takes : (n : ℕ) → AllLinked h → AllLinked (h ++ takes_below s h n)
  linked_takes n = linked_by SERVER h (takes_below s h n) (below_pass s h n) (below_owe s h n)

  module _ (r : Giveback) where
    pub calm_giveback : CanPoseAny s r.urb (question_at s r.urb) → IsCalm h → IsCalm (h ++ giveback_entries s r)
    calm_giveback pose calm u = dite (ℕ_discrete u r.urb)
        (λ is. subst (λ u. IsAtRest (state_of (h ++ giveback_entries s r) u)) (sym is) (subst IsAtRest (sym (giveback_state s h r (apart_any s r.urb (question_at s r.urb) pose))) (go r.outcome)))
        (λ off. calm_else u off r.outcome refl)
      where
        go : (o : Outcome) → IsAtRest (handled_state o (moved_in s r).number (record (state_of h r.urb) { queued = false; mark = Clear }))
        go outcome.Rest = record { handlers = (calm r.urb).handlers; mark = refl }
        go (outcome.Again Zero) = record { handlers = (calm r.urb).handlers; mark = refl }
        go (outcome.Again (Fault e)) = record { handlers = (calm r.urb).handlers; mark = refl }
        go (outcome.Asked c) = record { handlers = (calm r.urb).handlers; mark = refl }

        calm_else : (u : ℕ) → u ≢ r.urb → (o : Outcome) → r.outcome ≡ o → IsAtRest (state_of (h ++ giveback_entries s r) u)
        calm_else u off outcome.Rest did = subst IsAtRest (sym (giveback_other s h r u off (subst (λ o. IsApart u (posed_by (question_at s r.urb) o)) (sym did) tt))) (calm u)
        calm_else u off (outcome.Again c) did = subst IsAtRest (sym (giveback_other s h r u off (subst (λ o. IsApart u (posed_by (question_at s r.urb) o)) (sym did) tt))) (calm u)
        calm_else u off (outcome.Asked c) did = subst IsAtRest (sym (ap (λ (l : List Entry). state_of l u) (whole_asked s h r c did)
            ∙ other_state r.urb (resting s h r ++ asked_entries s (question_at s r.urb) c) (plain_entry SERVER (End record { 0 = r.urb }) ∷ []) (tt, refl, tt) u off))
            (asked_each s (λ xs. IsAtRest (state_of (resting s h r ++ xs) u)) (question_at s r.urb) c (subst (λ (l : List Entry). IsAtRest (state_of l u)) (sym (append-nil (resting s h r))) before)
            (λ a is none. asked a c (dite (ℕ_discrete u a.urb) inl inr)))
          where
            before : IsAtRest (state_of (resting s h r) u)
            before = subst IsAtRest (sym (other_state r.urb (h ++ given_entries r.urb r.status r.finished) (rest_entry SERVER r.urb (moved_in s r) ∷ []) (tt, refl, tt) u off
                ∙ other_state r.urb h (given_entries r.urb r.status r.finished) (given_about r.urb r.status r.finished) u off)) (calm u)

            queued : (b : Bool) (t : UrbState) → IsAtRest t → IsAtRest (cond b (record t { queued = true; mark = Clear }) t)
            queued true t is = record { handlers = is.handlers; mark = refl }
            queued false t is = is

            asked : (a : DriverQuestion) (c : Code) → (u ≡ a.urb) ⊎ (u ≢ a.urb) → IsAtRest (state_of (resting s h r ++ submit_entries SERVER a.urb a.transfer c) u)
            asked a c (inl same) = subst (λ v. IsAtRest (state_of (resting s h r ++ submit_entries SERVER a.urb a.transfer c) v)) (sym same)
                (subst IsAtRest (sym (submit_state SERVER a.urb a.transfer (resting s h r) c)) (queued (is_zero c) (state_of (resting s h r) a.urb) (subst (λ v. IsAtRest (state_of (resting s h r) v)) same before)))
            asked a c (inr apart) = subst IsAtRest (sym (submit_other SERVER a.urb a.transfer (resting s h r) c u apart)) before

    -- no Link is owed
    none_owed : (m xs : List Entry) (u : ℕ) → owes m u ≡ false → fold (λ b x. owes_after u b x.event x.answer) false xs ≡ false → owes (m ++ xs) u ≡ false
    none_owed m xs u none is = fold-append (λ b x. owes_after u b x.event x.answer) false m xs ∙ (ap (λ b. fold (λ b x. owes_after u b x.event x.answer) b xs) none ∙ is)

    given_owe : (m : List Entry) (u : ℕ) → owes m u ≡ false → owes (m ++ given_entries r.urb r.status r.finished) u ≡ false
    given_owe m u none = none_owed m (given_entries r.urb r.status r.finished) u none (go r.finished)
      where
        go : (b : Bool) → fold (λ b x. owes_after u b x.event x.answer) false (given_entries r.urb r.status b) ≡ false
        go true = refl
        go false = refl

    handled_owe : (m : List Entry) (u : ℕ) → owes m u ≡ false → (o : Outcome) → owes (m ++ handled_by s r.urb (moved_in s r) (resent s r) (question_at s r.urb) o) u ≡ false
    handled_owe m u none outcome.Rest = none_owed m (rest_entry SERVER r.urb (moved_in s r) ∷ []) u none refl
    handled_owe m u none (outcome.Again Zero) = none_owed m (submit_entries SERVER r.urb (resent s r) Zero ++ []) u none (go (eqb r.urb u) refl)
      where
        go : (w : Bool) → eqb r.urb u ≡ w → fold (λ b x. owes_after u b x.event x.answer) false (submit_entries SERVER r.urb (resent s r) Zero ++ []) ≡ false
        go true is = ap (λ b. cond b false (cond (b && true) true false)) is
        go false is = ap (λ b. cond b false (cond (b && true) true false)) is
    handled_owe m u none (outcome.Again (Fault e)) = none_owed m (handled_by s r.urb (moved_in s r) (resent s r) (question_at s r.urb) (outcome.Again (Fault e))) u none (go (eqb r.urb u) refl)
      where
        go : (w : Bool) → eqb r.urb u ≡ w → fold (λ b x. owes_after u b x.event x.answer) false (handled_by s r.urb (moved_in s r) (resent s r) (question_at s r.urb) (outcome.Again (Fault e))) ≡ false
        go true is = ap (λ b. cond (b && false) true false) is
        go false is = ap (λ b. cond (b && false) true false) is
    handled_owe m u none (outcome.Asked c) = ap (λ (l : List Entry). owes l u) (sym (append_assoc m (rest_entry SERVER r.urb (moved_in s r) ∷ []) (asked_entries s (question_at s r.urb) c)))
        ∙ asked_each s (λ xs. owes ((m ++ rest_entry SERVER r.urb (moved_in s r) ∷ []) ++ xs) u ≡ false) (question_at s r.urb) c
        (ap (λ (l : List Entry). owes l u) (append-nil (m ++ rest_entry SERVER r.urb (moved_in s r) ∷ [])) ∙ rested)
        (λ a is no_. submit_owes_none SERVER a.urb a.transfer (m ++ rest_entry SERVER r.urb (moved_in s r) ∷ []) u c rested)
      where
        rested : owes (m ++ rest_entry SERVER r.urb (moved_in s r) ∷ []) u ≡ false
        rested = none_owed m (rest_entry SERVER r.urb (moved_in s r) ∷ []) u none refl

    giveback_owe : (m : List Entry) (u : ℕ) → owes m u ≡ false → owes (m ++ giveback_entries s r) u ≡ false
    giveback_owe m u none = ap (λ (l : List Entry). owes l u) (whole s m r)
        ∙ none_owed (handled s m r) (plain_entry SERVER (End record { 0 = r.urb }) ∷ []) u (handled_owe (m ++ given_entries r.urb r.status r.finished) u (given_owe m u none) r.outcome) refl

    pub linked_giveback : AllLinked h → AllLinked (h ++ giveback_entries s r)
    linked_giveback = linked_by SERVER h (giveback_entries s r) (giveback_pass s h r) giveback_owe

  module _ (p u : ℕ) (t : Transfer) (c : Code) where
    pub calm_submit : IsCalm h → IsCalm (h ++ submit_entries p u t c)
    calm_submit calm v = dite (ℕ_discrete v u)
        (λ is. subst (λ v. IsAtRest (state_of (h ++ submit_entries p u t c) v)) (sym is) (subst IsAtRest (sym (submit_state p u t h c))
        (either (is_zero c) _ _ record { handlers = (calm u).handlers; mark = refl } (calm u))))
        (λ off. subst IsAtRest (sym (submit_other p u t h c v off)) (calm v))

    pub linked_submit : AllLinked h → AllLinked (h ++ submit_entries p u t c)
    linked_submit = linked_by p h (submit_entries p u t c) (submit_pass p u t c) (λ m v. submit_owes_none p u t m v c)

-- an URB stands in the line or in the pending list of its home exactly where it is queued
pub calm_places : (g : Machine) (h : List Entry) (u : ℕ) → IsLegal g h → AllLinked h
    → times u (line_of g h (home_of g u)) + times u (pending_of g h (home_of g u)) ≡ bit (state_of h u).queued
calm_places g h u legal linked =
    let at = (placed g u h legal).once in
    let none : owing g h u ≡ 0 = total_same g.passes (λ p. 0) (λ p. bit (owes (part_of h p) u)) (λ p l. ap bit (linked p u)) ∙ total_none g.passes in omega arith
