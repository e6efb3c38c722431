-- A transfer that a handler submits again, where the gate accepts it, is the next that comes back with its URB.
use Rattle.std.proofs.Common.{ℕ, suc, ◌≡◌, ◌≢◌, ◌+◌, Bool, true, false, not, ◌&&◌, cond, eqb, Option, Some, None, List, [], ◌∷◌, ◌++◌, length, fold, refl, sym, ap, ◌∙◌, arith, append_assoc, append-nil, eq-eqb, ne_eqb, true≢false}
use Rattle.std.specs.Prelude.{slice_get}
use Rattle.std.specs.List.{flat_map}
use Rattle.std.proofs.lemmas.List.Sums.{fold-append, sum_by-cons}
use Rattle.std.proofs.lemmas.List.Concat.{flat_map-cons}
use Rattle.std.proofs.lemmas.Grind.{flat_map-append}
use Rattle.usb_types.specs.declared.errno.Code.{Code}
use Rattle.usb_types.specs.declared.errno.Code.TheVariants.{Zero, Fault}
use Rattle.usb_machine.specs.declared.entry.TheConstants.{SERVER}
use Rattle.usb_machine.specs.declared.event.Event.{Event}
use Rattle.usb_machine.specs.declared.event.Event.TheVariants.{Submit, Link, Take, Mark, Finish, Give, Rest, End, Reject, Withdraw, Quiet, Claim, Flag, Unflag}
use Rattle.usb_machine.specs.declared.event.Answer.{Answer}
use Rattle.usb_machine.specs.declared.event.Answer.TheVariants.{Truth, Code as Status}
use Rattle.usb_machine.specs.declared.state.Mark.TheVariants.{Clear}
use Rattle.usb_machine.specs.declared.state.UrbState.{UrbState}
use Rattle.usb_machine.specs.declared.transfer.Transfer.{Transfer}
use Rattle.usb_machine.specs.declared.entry.Entry.{Entry}
use Rattle.usb_machine.specs.State.{after, is_zero, refusal, accepted, unlinks, finishes, answer_of}
use Rattle.usb_machine.specs.History.{Machine, state_of, is_of, line_of, sent_of, sent_after, ended_by, episodes_after}
use Rattle.usb_machine.specs.Calls.{entry, plain_entry, submit_entries}
use Rattle.usb_machine.specs.Legal.{May, urb_of, end_of, IsLegal, empty, longer}
use Rattle.usb_machine.specs.Laws.{bit, is_give, NoneGives}
use Rattle.usb_machine.proofs.Steps.{state_of-snoc, sent_of-snoc}
use Rattle.usb_machine.proofs.Places.{by_test}
use Rattle.usb_machine.proofs.Marks.{accepts_open}
use Rattle.usb_scene.specs.declared.scene.Scene.{Scene}
use Rattle.usb_trace.specs.declared.rows.Outcome.{Outcome}
use Rattle.usb_trace.specs.declared.rows.Outcome.TheVariants as outcome
use Rattle.usb_trace.specs.Plan.{machine_of, question_at}
use Rattle.usb_trace.specs.Run.{CallRecord, Giveback, IsRun, is_aside, moved_in, resent, times_back, handled_by, handler_entries, given_entries, giveback_entries, episode_of}
use Rattle.usb_trace.proofs.AskedEach.{asked_each}
use Rattle.usb_trace.proofs.Episodes.{IsNoGive, HaveNoGive}
use Rattle.usb_trace.proofs.FinishedFlags.{served, is_served, single, served-snoc}
use Rattle.usb_trace.proofs.OneStatus.{IsGiveAt, at as give_of, legal as legal_at}
use Rattle.usb_trace.proofs.GivenBack.{none_queued}

abbrev pub first_of : Option Transfer → Option Transfer → Option Transfer
first_of (Some t) c = Some t
first_of None c = c

-- the transfer that the server submitted with URB u since its last Give
abbrev pub carried_after : ℕ → Option Transfer → ℕ → Event → Answer → Option Transfer → Option Transfer
carried_after u t p (Submit v n) a c = cond (eqb v.0 u) (cond (accepted a) (cond (eqb p SERVER) (first_of t c) t) t) t
carried_after u t p (Give v) a c = cond (eqb v.0 u) None t
carried_after u t p _ a c = t

abbrev pub carry : ℕ → Option Transfer → List Entry → Option Transfer
carry u t xs = fold (λ t x. carried_after u t x.pass x.event x.answer x.carried) t xs

abbrev pub carried_of : List Entry → ℕ → Option Transfer
carried_of h u = carry u None h

pub carry-append : (u : ℕ) (t : Option Transfer) (h xs : List Entry) → carry u t (h ++ xs) ≡ carry u (carry u t h) xs
carry-append u t h xs = fold-append (λ (t : Option Transfer) (x : Entry). carried_after u t x.pass x.event x.answer x.carried) t h xs

-- and for each Give, the one that the server had submitted
abbrev giveback_row : List Entry → Event → List (Option Transfer)
giveback_row before (Give v) = carried_of before v.0 ∷ []
giveback_row before _ = []

abbrev givens_after : List Entry → List Entry → List (Option Transfer)
givens_after before [] = []
givens_after before (x ∷ xs) = giveback_row before x.event ++ givens_after (before ++ x ∷ []) xs

abbrev givens_of : List Entry → List (Option Transfer)
givens_of h = givens_after [] h

givens-append : (b h xs : List Entry) → givens_after b (h ++ xs) ≡ givens_after b h ++ givens_after (b ++ h) xs
givens-append b [] xs = ap (λ l. givens_after l xs) (sym (append-nil b))
givens-append b (x ∷ h) xs =
    ap (λ l. giveback_row b x.event ++ l) (givens-append (b ++ x ∷ []) h xs)
    ∙ (sym (append_assoc (giveback_row b x.event) (givens_after (b ++ x ∷ []) h) (givens_after ((b ++ x ∷ []) ++ h) xs))
    ∙ ap (λ l. (giveback_row b x.event ++ givens_after (b ++ x ∷ []) h) ++ givens_after l xs) (append_assoc b (x ∷ []) h))

-- as long as the episodes
same_count : (b h : List Entry) → length (givens_after b h) ≡ length (episodes_after b h)
same_count b [] = refl
same_count b (x ∷ h) = go x.event (same_count (b ++ x ∷ []) h)
  where
    go : (e : Event) → length (givens_after (b ++ x ∷ []) h) ≡ length (episodes_after (b ++ x ∷ []) h)
        → length (giveback_row b e ++ givens_after (b ++ x ∷ []) h) ≡ length (ended_by b e x.answer ++ episodes_after (b ++ x ∷ []) h)
    go (Give v) is = ap suc is
    go _ is = is

-- while it is out it is what was sent
module _ (u : ℕ) (s : UrbState) (p : ℕ) (a : Answer) (c R S : Option Transfer) where
  abbrev Good : Bool → Option Transfer → Option Transfer → Type 0
  Good q R S = (q ≡ false → R ≡ None) × ((t : Transfer) → R ≡ Some t → S ≡ Some t)

  abbrev Known : Event → Type 0
  Known (Submit v n) = v.0 ≡ u → accepted a ≡ true → s.queued ≡ false
  Known _ = Unit {0}

  module _ (old : Good s.queued R S) where
    kept : (b : Bool) (now : UrbState) → now.queued ≡ s.queued → Good (cond b now s).queued R S
    kept true now is = (λ q. old.0 (sym is ∙ q), old.1)
    kept false now is = old

    either : (b d : Bool) (now : UrbState) → now.queued ≡ s.queued → Good (cond b (cond d now s) s).queued R S
    either true d now is = kept d now is
    either false d now is = old

    sends : (b : Bool) → R ≡ None → (t : Transfer) → cond b (first_of R c) R ≡ Some t → c ≡ Some t
    sends true none t is = ap (λ r. first_of r c) (sym none) ∙ is
    sends false none t is = let x = sym none ∙ is in cc

    goes : (e : Event) → Known e → Good (cond (is_of u e) (after e a s) s).queued (carried_after u R p e a c) (sent_after u S e a c)
    goes (Submit v n) k = by_test v.0 u (λ b. Good (cond b (after (Submit v n) a s) s).queued (cond b (cond (accepted a) (cond (eqb p SERVER) (first_of R c) R) R) R) (cond b (cond (accepted a) c S) S))
        (λ same. go (accepted a) (k same)) (λ _. old)
      where
        go : (b : Bool) → (b ≡ true → s.queued ≡ false) → Good (cond b (record s { queued = true; mark = Clear }) s).queued (cond b (cond (eqb p SERVER) (first_of R c) R) R) (cond b c S)
        go true q = (λ on. absurd (true≢false on), sends (eqb p SERVER) (old.0 (q refl)))
        go false q = old
    goes (Give v) k = by_test v.0 u (λ b. Good (cond b (after (Give v) a s) s).queued (cond b None R) S) (λ _. (λ q. refl, λ t is. cc)) (λ _. old)
    goes (Mark v w) k = either (eqb v.0 u) (unlinks a) _ refl
    goes (Finish v d) k = either (eqb v.0 u) (finishes a) _ refl
    goes (Take e) k = old
    goes (Link v) k = kept (eqb v.0 u) s refl
    goes (Rest v n) k = kept (eqb v.0 u) (after (Rest v n) a s) refl
    goes (End v) k = kept (eqb v.0 u) (after (End v) a s) refl
    goes (Reject v) k = kept (eqb v.0 u) (after (Reject v) a s) refl
    goes (Withdraw v) k = kept (eqb v.0 u) (after (Withdraw v) a s) refl
    goes (Quiet v) k = kept (eqb v.0 u) s refl
    goes (Claim v) k = kept (eqb v.0 u) (after (Claim v) a s) refl
    goes (Flag v f) k = kept (eqb v.0 u) (after (Flag v f) a s) refl
    goes (Unflag v f) k = kept (eqb v.0 u) (after (Unflag v f) a s) refl

known : (g : Machine) (u : ℕ) (h : List Entry) (p : ℕ) (c R S : Option Transfer) (e : Event) (a : Answer) → a ≡ answer_of e (state_of h (urb_of e)) (line_of g h (end_of e)) → Known u (state_of h u) p a c R S e
known g u h p c R S (Submit v n) a i = λ (is : v.0 ≡ u) ok. (accepts_open (state_of h u) (ap (λ w. is_zero (refusal (state_of h w))) (sym is) ∙ (sym (ap accepted i) ∙ ok))).queued
known g u h p c R S _ a i = tt

pub record IsCarried (h : List Entry) (u : ℕ) : Type 0 where
  pub none : (state_of h u).queued ≡ false → carried_of h u ≡ None
  pub sent : (t : Transfer) → carried_of h u ≡ Some t → sent_of h u ≡ Some t

pub is_carried : (g : Machine) (u : ℕ) (h : List Entry) → IsLegal g h → IsCarried h u
is_carried g u _ empty = record { none = λ q. refl; sent = λ (t : Transfer) (is : None ≡ Some t). cc }
is_carried g u _ (longer h x legal f) =
    let old = is_carried g u h legal in
    let t = goes u (state_of h u) x.pass x.answer x.carried (carried_of h u) (sent_of h u) (old.none, old.sent) x.event
    (known g u h x.pass x.carried (carried_of h u) (sent_of h u) x.event x.answer f.answers) in
    let more = carry-append u None h (x ∷ []) in
    record {
      none = λ q. more ∙ t.0 (sym (ap (λ (s : UrbState). s.queued) (state_of-snoc h x u)) ∙ q);
      sent = λ r is. sent_of-snoc h x u ∙ t.1 r (sym more ∙ is);
    }

-- an entry that is not the server's changes none of this
pub record Skips (x : Entry) (e : Event) : Type 0 where
  pub carried : (u : ℕ) (t : Option Transfer) → carried_after u t x.pass e x.answer x.carried ≡ t
  pub given : (m : List Entry) → giveback_row m e ≡ []

unserved : (g : Machine) (h : List Entry) (x : Entry) (e : Event) → x.event ≡ e → May g h x.pass e → is_served x ≡ false → Skips x e
unserved g h x (Submit v n) is may off = record { carried = λ u t. go u t (eqb x.pass SERVER) other; given = λ m. refl }
  where
    plain : (b : Bool) → (b && true) ≡ false → b ≡ false
    plain true e = e
    plain false e = refl

    other : eqb x.pass SERVER ≡ false
    other = plain (eqb x.pass SERVER) (ap (λ e. eqb x.pass SERVER && not (is_aside e x.answer)) (sym is) ∙ off)

    go : (u : ℕ) (t : Option Transfer) (b : Bool) → b ≡ false → cond (eqb v.0 u) (cond (accepted x.answer) (cond b (first_of t x.carried) t) t) t ≡ t
    go u t true e = absurd (true≢false e)
    go u t false e = all (eqb v.0 u) (accepted x.answer)
      where
        all : (b d : Bool) → cond b (cond d t t) t ≡ t
        all true true = refl
        all true false = refl
        all false d = refl
unserved g h x (Give v) is may off = absurd (true≢false (sym (ap (λ e. eqb x.pass SERVER && not (is_aside e x.answer)) is ∙ ap (λ b. b && true) (eq-eqb x.pass SERVER may.0)) ∙ off))
unserved g h x _ is may off = record { carried = λ u t. refl; given = λ m. refl }

pub record AreServed (h : List Entry) : Type 0 where
  pub carried : (u : ℕ) → carried_of h u ≡ carried_of (served h) u
  pub givens : givens_of h ≡ givens_of (served h)

served_step : (g : Machine) (h : List Entry) (x : Entry) → May g h x.pass x.event → AreServed h → (b : Bool) → is_served x ≡ b
    → ((u : ℕ) → carried_after u (carried_of h u) x.pass x.event x.answer x.carried ≡ carried_of (served h ++ single b x) u) × (givens_of h ++ (giveback_row h x.event ++ []) ≡ givens_of (served h ++ single b x))
served_step g h x may old true is = (
  λ u. ap (λ t. carried_after u t x.pass x.event x.answer x.carried) (old.carried u) ∙ sym (carry-append u None (served h) (x ∷ [])),
  (λ i. old.givens i ++ (same x.event i ++ [])) ∙ sym (givens-append [] (served h) (x ∷ [])),
)
  where
    same : (e : Event) → giveback_row h e ≡ giveback_row (served h) e
    same (Give v) = ap (λ b. b ∷ []) (old.carried v.0)
    same _ = refl
served_step g h x may old false is =
    let skip = unserved g h x x.event refl may is in (
      λ u. skip.carried u (carried_of h u) ∙ (old.carried u ∙ ap (λ l. carried_of l u) (sym (append-nil (served h)))),
      ap (λ l. givens_of h ++ (l ++ [])) (skip.given h) ∙ (append-nil (givens_of h) ∙ (old.givens ∙ ap givens_of (sym (append-nil (served h))))),
    )

are_served : (g : Machine) (h : List Entry) → IsLegal g h → AreServed h
are_served g _ empty = record { carried = λ u. refl; givens = refl }
are_served g _ (longer h x legal f) =
    let t = served_step g h x f.may (are_served g h legal) (is_served x) refl in
    record {
      carried = λ u. carry-append u None h (x ∷ []) ∙ (t.0 u ∙ ap (λ l. carried_of l u) (sym (served-snoc h x)));
      givens = givens-append [] h (x ∷ []) ∙ (t.1 ∙ ap givens_of (sym (served-snoc h x)));
    }

no_given : (m xs : List Entry) → HaveNoGive xs → givens_after m xs ≡ []
no_given m [] is = refl
no_given m (x ∷ xs) is = ap (λ l. l ++ givens_after (m ++ x ∷ []) xs) (go x.event is.0) ∙ no_given (m ++ x ∷ []) xs is.1
  where
    go : (e : Event) → IsNoGive e → giveback_row m e ≡ []
    go (Give v) free = absurd free
    go _ free = refl

HaveNoGive-append : (xs ys : List Entry) → HaveNoGive xs → HaveNoGive ys → HaveNoGive (xs ++ ys)
HaveNoGive-append [] ys a b = b
HaveNoGive-append (x ∷ xs) ys a b = (a.0, HaveNoGive-append xs ys a.1 b)

none_of : (u : ℕ) (xs : List Entry) → HaveNoGive xs → NoneGives u xs
none_of u [] is = tt
none_of u (x ∷ xs) is = (go x.event is.0, none_of u xs is.1)
  where
    go : (e : Event) → IsNoGive e → is_give u e ≡ false
    go (Give v) free = absurd free
    go _ free = refl

-- what was submitted stays until the next Give
pub stays : (u : ℕ) (t : Transfer) (xs : List Entry) → NoneGives u xs → carry u (Some t) xs ≡ Some t
stays u t [] none = refl
stays u t (x ∷ xs) none = ap (λ r. carry u r xs) (go x.event none.0) ∙ stays u t xs none.1
  where
    go : (e : Event) → is_give u e ≡ false → carried_after u (Some t) x.pass e x.answer x.carried ≡ Some t
    go (Submit v n) off = all (eqb v.0 u) (accepted x.answer) (eqb x.pass SERVER)
      where
        all : (b d f : Bool) → cond b (cond d (cond f (Some t) (Some t)) (Some t)) (Some t) ≡ Some t
        all true true true = refl
        all true true false = refl
        all true false f = refl
        all false d f = refl
    go (Give v) off = ap (λ b. cond b None (Some t)) off
    go _ off = refl

submit_no_give : (p u : ℕ) (t : Transfer) (c : Code) → HaveNoGive (submit_entries p u t c)
submit_no_give p u t Zero = (tt, (tt, tt))
submit_no_give p u t (Fault e) = (tt, tt)

put : (t : Option Transfer) (x : Transfer) (d f : Bool) → d ≡ true → f ≡ true → cond d (cond f (first_of (cond d None t) (Some x)) (cond d None t)) (cond d None t) ≡ Some x
put t x true true is so = refl
put t x true false is so = absurd (true≢false (sym so))
put t x false f is so = absurd (true≢false (sym is))

module _ (s : Scene) (r : Giveback) where
  handler_no_give : HaveNoGive (handler_entries s r)
  handler_no_give = HaveNoGive-append (handled_by s r.urb (moved_in s r) (resent s r) (question_at s r.urb) r.outcome) (plain_entry SERVER (End record { 0 = r.urb }) ∷ []) (go r.outcome) (tt, tt)
    where
      go : (o : Outcome) → HaveNoGive (handled_by s r.urb (moved_in s r) (resent s r) (question_at s r.urb) o)
      go outcome.Rest = (tt, tt)
      go (outcome.Again Zero) = (tt, (tt, tt))
      go (outcome.Again (Fault e)) = (tt, (tt, tt))
      go (outcome.Asked c) = (tt, asked_each s HaveNoGive (question_at s r.urb) c tt (λ a is none. submit_no_give SERVER a.urb a.transfer c))

  abbrev finish : Entry
  finish = entry SERVER (Finish record { 0 = r.urb } r.status) (Truth true) None

  abbrev give : Entry
  give = entry SERVER (Give record { 0 = r.urb }) (Status r.status) None

  one_given : (m : List Entry) → givens_after m (giveback_entries s r) ≡ carried_of m r.urb ∷ []
  one_given m = go r.finished
    where
      go : (b : Bool) → givens_after m (given_entries r.urb r.status b ++ handler_entries s r) ≡ carried_of m r.urb ∷ []
      go true = (λ i. carry-append r.urb None m (finish ∷ []) i ∷ no_given ((m ++ finish ∷ []) ++ give ∷ []) (handler_entries s r) handler_no_give i)
      go false = ap (λ l. carried_of m r.urb ∷ l) (no_given (m ++ give ∷ []) (handler_entries s r) handler_no_give)

  pub other_gives : (u : ℕ) → r.urb ≢ u → NoneGives u (giveback_entries s r)
  other_gives u off = go r.finished
    where
      go : (b : Bool) → NoneGives u (given_entries r.urb r.status b ++ handler_entries s r)
      go true = (refl, (ne_eqb r.urb u off, none_of u (handler_entries s r) handler_no_give))
      go false = (ne_eqb r.urb u off, none_of u (handler_entries s r) handler_no_give)

  -- a handler that submits again leaves the transfer that it submits
  pub leaves : r.outcome ≡ outcome.Again Zero → (t : Option Transfer) → carry r.urb t (giveback_entries s r) ≡ Some (resent s r)
  leaves did t = ap (λ o. carry r.urb t (given_entries r.urb r.status r.finished ++ (handled_by s r.urb (moved_in s r) (resent s r) (question_at s r.urb) o ++ plain_entry SERVER (End record { 0 = r.urb }) ∷ []))) did ∙ go r.finished
    where
      go : (b : Bool) → carry r.urb t (given_entries r.urb r.status b ++ (submit_entries SERVER r.urb (resent s r) Zero ++ plain_entry SERVER (End record { 0 = r.urb }) ∷ [])) ≡ Some (resent s r)
      go true = put t (resent s r) (eqb r.urb r.urb) (eqb SERVER SERVER) (eq-eqb r.urb r.urb refl) (eq-eqb SERVER SERVER refl)
      go false = put t (resent s r) (eqb r.urb r.urb) (eqb SERVER SERVER) (eq-eqb r.urb r.urb refl) (eq-eqb SERVER SERVER refl)

-- the givebacks say what the server had submitted before each
abbrev expected : Scene → List Entry → List Giveback → List (Option Transfer)
expected s m [] = []
expected s m (r ∷ rounds) = carried_of m r.urb ∷ expected s (m ++ giveback_entries s r) rounds

rounds_givens : (s : Scene) (rounds : List Giveback) (m : List Entry) → givens_after m (flat_map (giveback_entries s) rounds) ≡ expected s m rounds
rounds_givens s [] m = refl
rounds_givens s (r ∷ rounds) m = ap (givens_after m) (flat_map-cons (giveback_entries s) r rounds)
    ∙ (givens-append m (giveback_entries s r) (flat_map (giveback_entries s) rounds)
    ∙ (λ i. one_given s r m i ++ rounds_givens s rounds (m ++ giveback_entries s r) i))

expected_at : (s : Scene) (m : List Entry) (before : List Giveback) (next : Giveback) (behind : List Giveback)
    → slice_get (expected s m (before ++ next ∷ behind)) (length before) ≡ Some (carried_of (m ++ flat_map (giveback_entries s) before) next.urb)
expected_at s m [] next behind = ap (λ l. Some (carried_of l next.urb)) (sym (append-nil m))
expected_at s m (r ∷ before) next behind = expected_at s (m ++ giveback_entries s r) before next behind
    ∙ ap (λ l. Some (carried_of l next.urb)) (append_assoc m (giveback_entries s r) (flat_map (giveback_entries s) before) ∙ ap (λ l. m ++ l) (sym (flat_map-cons (giveback_entries s) r before)))

-- givebacks of other URBs
none_back : (s : Scene) (u : ℕ) (t : Transfer) (middle : List Giveback) → times_back u middle ≡ 0 → carry u (Some t) (flat_map (giveback_entries s) middle) ≡ Some t
none_back s u t [] none = refl
none_back s u t (r ∷ middle) none =
    let more : times_back u (r ∷ middle) ≡ bit (eqb r.urb u) + times_back u middle = sum_by-cons (λ (r : Giveback). bit (eqb r.urb u)) r middle in
    let rest : times_back u middle ≡ 0 = omega arith in
    let here : bit (eqb r.urb u) ≡ 0 = omega arith in
    let apart : r.urb ≢ u = λ same. (let on = ap bit (eq-eqb r.urb u same) in omega arith) in
    ap (carry u (Some t)) (flat_map-cons (giveback_entries s) r middle)
    ∙ (carry-append u (Some t) (giveback_entries s r) (flat_map (giveback_entries s) middle)
    ∙ (ap (λ c. carry u c (flat_map (giveback_entries s) middle)) (stays u t (giveback_entries s r) (other_gives s r u apart))
    ∙ none_back s u t middle rest))

nth_middle : {X : Type 0} (xs : List X) (y : X) (ys : List X) → slice_get (xs ++ y ∷ ys) (length xs) ≡ Some y
nth_middle [] y ys = refl
nth_middle (x ∷ xs) y ys = nth_middle xs y ys

-- what the server had submitted before a giveback is what was sent
module _ (s : Scene) (h : List Entry) (call_records : List CallRecord) (rounds : List Giveback) (run : IsRun s h call_records rounds)
    (front : List Giveback) (next : Giveback) (behind : List Giveback) (split : rounds ≡ front ++ next ∷ behind) where
  pub stands : slice_get rounds (length front) ≡ Some next
  stands = ap (λ l. slice_get l (length front)) split ∙ nth_middle front next behind

  abbrev at : IsGiveAt [] h (length front) (episode_of next)
  at = give_of s h call_records rounds run (length front) next stands

  -- what the server had submitted, by the history
  by_history : slice_get (givens_of h) (length front) ≡ Some (carried_of at.pre next.urb)
  by_history =
      ap (λ l. slice_get (givens_of l) (length front)) at.parts
      ∙ (ap (λ l. slice_get l (length front)) (givens-append [] at.pre (at.give ∷ at.post) ∙ ap (λ e. givens_of at.pre ++ (giveback_row at.pre e ++ givens_after (at.pre ++ at.give ∷ []) at.post)) at.gives)
      ∙ (ap (slice_get (givens_of at.pre ++ carried_of at.pre next.urb ∷ givens_after (at.pre ++ at.give ∷ []) at.post)) (sym (same_count [] at.pre ∙ at.count))
      ∙ nth_middle (givens_of at.pre) (carried_of at.pre next.urb) (givens_after (at.pre ++ at.give ∷ []) at.post)))

  -- and by the givebacks
  by_rounds : slice_get (givens_of h) (length front) ≡ Some (carried_of (flat_map (giveback_entries s) front) next.urb)
  by_rounds = ap (λ l. slice_get l (length front)) ((are_served (machine_of s) h run.legal).givens ∙ (ap givens_of (run.together refl) ∙ rounds_givens s rounds []))
      ∙ (ap (λ l. slice_get (expected s [] l) (length front)) split ∙ expected_at s [] front next behind)

  pub by_both : carried_of at.pre next.urb ≡ carried_of (flat_map (giveback_entries s) front) next.urb
  by_both = let both : Some (carried_of at.pre next.urb) ≡ Some (carried_of (flat_map (giveback_entries s) front) next.urb) = sym by_history ∙ by_rounds in cc

  pub sent_as : (t : Transfer) → carried_of (flat_map (giveback_entries s) front) next.urb ≡ Some t → next.sent ≡ t
  sent_as t is =
      let sent = (is_carried (machine_of s) next.urb at.pre (legal_at s h call_records rounds run (length front) next stands)).sent t (by_both ∙ is) in
      let same : Some next.sent ≡ Some t = at.sent ∙ sent in cc

-- what the server submitted and did not give back, after all givebacks: nothing
pub none_left : (s : Scene) (h : List Entry) (call_records : List CallRecord) (rounds : List Giveback) → IsRun s h call_records rounds → (u : ℕ) → carried_of (flat_map (giveback_entries s) rounds) u ≡ None
none_left s h call_records rounds run u =
    ap (λ l. carried_of l u) (sym (run.together refl))
    ∙ (sym ((are_served (machine_of s) h run.legal).carried u)
    ∙ (is_carried (machine_of s) u h run.legal).none (none_queued s h call_records rounds run u))

module _ (s : Scene) (h : List Entry) (call_records : List CallRecord) (rounds : List Giveback) (run : IsRun s h call_records rounds)
    (before : List Giveback) (r : Giveback) (middle : List Giveback) (next : Giveback) (behind : List Giveback)
    (parts : rounds ≡ before ++ r ∷ (middle ++ next ∷ behind)) (did : r.outcome ≡ outcome.Again Zero) (same : next.urb ≡ r.urb) (none : times_back r.urb middle ≡ 0) where
  abbrev front : List Giveback
  front = before ++ r ∷ middle

  left : carried_of (flat_map (giveback_entries s) front) r.urb ≡ Some (resent s r)
  left = ap (λ l. carried_of l r.urb) (flat_map-append (giveback_entries s) before (r ∷ middle) ∙ ap (λ l. flat_map (giveback_entries s) before ++ l) (flat_map-cons (giveback_entries s) r middle))
      ∙ (carry-append r.urb None (flat_map (giveback_entries s) before) (giveback_entries s r ++ flat_map (giveback_entries s) middle)
      ∙ (carry-append r.urb (carried_of (flat_map (giveback_entries s) before) r.urb) (giveback_entries s r) (flat_map (giveback_entries s) middle)
      ∙ (ap (λ t. carry r.urb t (flat_map (giveback_entries s) middle)) (leaves s r did (carried_of (flat_map (giveback_entries s) before) r.urb))
      ∙ none_back s r.urb (resent s r) middle none)))

  pub sent_on : next.sent ≡ resent s r
  sent_on = sent_as s h call_records rounds run front next behind (parts ∙ sym (append_assoc before (r ∷ middle) (next ∷ behind))) (resent s r)
      (ap (carried_of (flat_map (giveback_entries s) front)) same ∙ left)
