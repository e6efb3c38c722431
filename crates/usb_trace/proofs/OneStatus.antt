-- The status of a giveback is the first unlink's or the transfer's own.
use Rattle.std.proofs.Common.{ℕ, zero, suc, ◌≡◌, Bool, true, false, cond, eqb, Option, Some, None, List, [], ◌∷◌, ◌++◌, length, refl, sym, ap, ◌∙◌, subst, append_assoc, append-nil, eq-eqb, ne_eqb, true≢false}
use Rattle.std.specs.Prelude.{map, slice_get, All}
use Rattle.std.proofs.lemmas.List.Elements.{All-head, All-tail}
use Rattle.usb_types.specs.declared.errno.Errno.TheVariants.{EBUSY, ENODEV, EPERM, ENOENT, ESHUTDOWN, EIDRM, EINPROGRESS}
use Rattle.usb_types.specs.declared.errno.Code.{Code}
use Rattle.usb_types.specs.declared.errno.Code.TheVariants.{Zero, Fault}
use Rattle.usb_types.specs.declared.urb.Why.{Why}
use Rattle.usb_types.specs.declared.urb.UrbId.{UrbId}
use Rattle.usb_machine.specs.declared.event.Event.{Event}
use Rattle.usb_machine.specs.declared.event.Event.TheVariants.{Submit, Link, Take, Mark, Finish, Give, Rest, End, Reject, Withdraw, Quiet, Claim, Flag, Unflag}
use Rattle.usb_machine.specs.declared.event.Answer.{Answer}
use Rattle.usb_machine.specs.declared.event.Answer.TheVariants.{Code as Status, Truth}
use Rattle.usb_machine.specs.declared.state.Mark.{Mark as MarkState}
use Rattle.usb_machine.specs.declared.state.Mark.TheVariants.{Clear, Unlinked, Finished}
use Rattle.usb_machine.specs.declared.state.UrbState.{UrbState}
use Rattle.usb_machine.specs.declared.transfer.Transfer.{Transfer}
use Rattle.usb_machine.specs.declared.entry.Entry.{Entry}
use Rattle.usb_machine.specs.State.{after, is_zero, is_clear, status_of, refusal, accepted, unlinks, unlinking, is_in_progress, finishes, answer_of}
use Rattle.usb_machine.specs.Shapes.{HasWindow}
use Rattle.usb_machine.specs.History.{Machine, Episode, state_of, is_of, line_of, sent_of, sent_after, ended_by, episodes_after, episodes_of}
use Rattle.usb_machine.specs.Legal.{May, Follows, Carries, urb_of, end_of, IsLegal}
use Rattle.usb_machine.specs.Laws.{is_give, NoneGives}
use Rattle.usb_machine.proofs.Ends.{by_end}
use Rattle.usb_machine.proofs.Steps.{state_of-snoc, sent_of-snoc}
use Rattle.usb_machine.proofs.Places.{by_test}
use Rattle.usb_machine.proofs.Prefixes.{legal_before, follows_before}
use Rattle.usb_machine.proofs.Rooms.{pending_is_queued}
use Rattle.usb_scene.specs.declared.scene.Scene.{Scene}
use Rattle.usb_trace.specs.Plan.{machine_of}
use Rattle.usb_trace.specs.Run.{CallRecord, Giveback, IsRun, IsGiveback, episode_of}
use Rattle.usb_trace.specs.RunLaws.{IsGivenBack, is_ending, first_ending, HasStatusBy}
use Rattle.usb_trace.proofs.FinishedFlags.{finished_of, flag_of, flags_after, is_finished, finished_is_marked, run_flags}

NoneGives-append : (u : ℕ) (xs ys : List Entry) → NoneGives u xs → NoneGives u ys → NoneGives u (xs ++ ys)
NoneGives-append u [] ys n k = k
NoneGives-append u (x ∷ xs) ys n k = (n.0, NoneGives-append u xs ys n.1 k)

-- the submit that queued URB u, and what came since
pub record IsOut (h : List Entry) (u : ℕ) : Type 0 where
  pub before : List Entry
  pub submit : Entry
  pub between : List Entry
  pub number : ℕ
  pub parts : h ≡ before ++ submit ∷ between
  pub submits : submit.event ≡ Submit record { 0 = u } number
  pub accepts : accepted submit.answer ≡ true
  pub none_gives : NoneGives u between
  pub carries : sent_of h u ≡ submit.carried

-- one entry more that is no submit nor Give of u
out_on : (h : List Entry) (u : ℕ) (x : Entry) → IsOut h u → is_give u x.event ≡ false → sent_of (h ++ x ∷ []) u ≡ sent_of h u → IsOut (h ++ x ∷ []) u
out_on h u x old off sent = record {
  before = old.before;
  submit = old.submit;
  between = old.between ++ x ∷ [];
  number = old.number;
  parts = ap (λ l. l ++ x ∷ []) old.parts ∙ append_assoc old.before (old.submit ∷ old.between) (x ∷ []);
  submits = old.submits;
  accepts = old.accepts;
  none_gives = NoneGives-append u old.between (x ∷ []) old.none_gives (off, tt);
  carries = sent ∙ old.carries;
}

module _ (u : ℕ) (h : List Entry) (x : Entry) (old : (state_of h u).queued ≡ true → IsOut h u) where
  abbrev Then : Event → Type 0
  Then e = x.event ≡ e → (cond (is_of u e) (after e x.answer (state_of h u)) (state_of h u)).queued ≡ true → IsOut (h ++ x ∷ []) u

  same_sent : (e : Event) → x.event ≡ e → sent_after u (sent_of h u) e x.answer x.carried ≡ sent_of h u → sent_of (h ++ x ∷ []) u ≡ sent_of h u
  same_sent e is none = sent_of-snoc h x u ∙ (ap (λ e. sent_after u (sent_of h u) e x.answer x.carried) is ∙ none)

  goes_on : (e : Event) → x.event ≡ e → is_give u e ≡ false → sent_after u (sent_of h u) e x.answer x.carried ≡ sent_of h u → (state_of h u).queued ≡ true → IsOut (h ++ x ∷ []) u
  goes_on e is off none q = out_on h u x (old q) (ap (is_give u) is ∙ off) (same_sent e is none)

  -- the state of u stays queued as it was, whether the entry is of u or not
  kept : (e : Event) (b : Bool) (t : UrbState) → t.queued ≡ (state_of h u).queued → is_give u e ≡ false → sent_after u (sent_of h u) e x.answer x.carried ≡ sent_of h u
      → x.event ≡ e → (cond b t (state_of h u)).queued ≡ true → IsOut (h ++ x ∷ []) u
  kept e true t same off none is q = goes_on e is off none (sym same ∙ q)
  kept e false t same off none is q = goes_on e is off none q

  either : (b : Bool) (t : UrbState) → t.queued ≡ (state_of h u).queued → (cond b t (state_of h u)).queued ≡ (state_of h u).queued
  either true t same = same
  either false t same = refl

  out_step : (e : Event) → Then e
  out_step (Submit v n) = λ is. by_test v.0 u
      (λ b. (cond b (cond (accepted x.answer) (record (state_of h u) { queued = true; mark = Clear }) (state_of h u)) (state_of h u)).queued ≡ true → IsOut (h ++ x ∷ []) u)
      (λ same. go is same (accepted x.answer) refl)
      (λ other. goes_on (Submit v n) is refl (ap (λ b. cond b (cond (accepted x.answer) x.carried (sent_of h u)) (sent_of h u)) (ne_eqb v.0 u other)))
    where
      go : x.event ≡ Submit v n → v.0 ≡ u → (b : Bool) → accepted x.answer ≡ b → (cond b (record (state_of h u) { queued = true; mark = Clear }) (state_of h u)).queued ≡ true → IsOut (h ++ x ∷ []) u
      go is same true ok q = record {
        before = h;
        submit = x;
        between = [];
        number = n;
        parts = refl;
        submits = is ∙ ap (λ (k : ℕ). Submit (record { 0 = k }) n) same;
        accepts = ok;
        none_gives = tt;
        carries = sent_of-snoc h x u ∙ (ap (λ e. sent_after u (sent_of h u) e x.answer x.carried) is
            ∙ (ap (λ b. cond b (cond (accepted x.answer) x.carried (sent_of h u)) (sent_of h u)) (eq-eqb v.0 u same) ∙ ap (λ b. cond b x.carried (sent_of h u)) ok));
      }
      go is same false ok q = goes_on (Submit v n) is refl (ap (λ b. cond (eqb v.0 u) (cond b x.carried (sent_of h u)) (sent_of h u)) ok ∙ none (eqb v.0 u)) q
        where
          none : (b : Bool) → cond b (sent_of h u) (sent_of h u) ≡ sent_of h u
          none true = refl
          none false = refl
  out_step (Give v) = λ is. by_test v.0 u (λ b. (cond b (after (Give v) x.answer (state_of h u)) (state_of h u)).queued ≡ true → IsOut (h ++ x ∷ []) u)
      (λ same q. absurd (true≢false (sym q)))
      (λ other. goes_on (Give v) is (ne_eqb v.0 u other) refl)
  out_step (Mark v w) = kept (Mark v w) (eqb v.0 u) (after (Mark v w) x.answer (state_of h u)) (either (unlinks x.answer) _ refl) refl refl
  out_step (Finish v c) = kept (Finish v c) (eqb v.0 u) (after (Finish v c) x.answer (state_of h u)) (either (finishes x.answer) _ refl) refl refl
  out_step (Link v) = kept (Link v) (eqb v.0 u) (state_of h u) refl refl refl
  out_step (Take d) = λ is. goes_on (Take d) is refl refl
  out_step (Rest v n) = kept (Rest v n) (eqb v.0 u) (after (Rest v n) x.answer (state_of h u)) refl refl refl
  out_step (End v) = kept (End v) (eqb v.0 u) (after (End v) x.answer (state_of h u)) refl refl refl
  out_step (Reject v) = kept (Reject v) (eqb v.0 u) (after (Reject v) x.answer (state_of h u)) refl refl refl
  out_step (Withdraw v) = kept (Withdraw v) (eqb v.0 u) (after (Withdraw v) x.answer (state_of h u)) refl refl refl
  out_step (Quiet v) = kept (Quiet v) (eqb v.0 u) (state_of h u) refl refl refl
  out_step (Claim v) = kept (Claim v) (eqb v.0 u) (after (Claim v) x.answer (state_of h u)) refl refl refl
  out_step (Flag v f) = kept (Flag v f) (eqb v.0 u) (after (Flag v f) x.answer (state_of h u)) refl refl refl
  out_step (Unflag v f) = kept (Unflag v f) (eqb v.0 u) (after (Unflag v f) x.answer (state_of h u)) refl refl refl

-- a queued URB was submitted, and not given back since
pub queued_out : (u : ℕ) (h : List Entry) → (state_of h u).queued ≡ true → IsOut h u
queued_out u = by_end (λ h. (state_of h u).queued ≡ true → IsOut h u) (λ q. absurd (true≢false (sym q)))
    (λ m x old q. out_step u m x old x.event refl (sym (ap (λ (t : UrbState). t.queued) (state_of-snoc m x u)) ∙ q))

-- what the first ending makes of a mark
abbrev mark_by : Option Event → MarkState
mark_by (Some (Mark v why)) = Unlinked why
mark_by (Some (Finish v c)) = Finished c
mark_by o = Clear

abbrev last_mark : MarkState → Option Event → MarkState
last_mark Clear o = mark_by o
last_mark m o = m

-- what an event does to an URB that is queued
module _ (u : ℕ) (s : UrbState) (q : s.queued ≡ true) where
  -- a state that an event leaves
  abbrev Left : Event → UrbState → Type 0
  Left e t = (t.queued ≡ true) × (t.mark ≡ last_mark s.mark (cond (is_ending u e) (Some e) None))

  no_mark : s.mark ≡ last_mark s.mark None
  no_mark = go s.mark
    where
      go : (m : MarkState) → m ≡ last_mark m None
      go Clear = refl
      go (Unlinked w) = refl
      go (Finished c) = refl

  still : (b : Bool) (t : UrbState) → t.queued ≡ s.queued → t.mark ≡ s.mark → ((cond b t s).queued ≡ true) × ((cond b t s).mark ≡ last_mark s.mark None)
  still true t i j = (i ∙ q, j ∙ no_mark)
  still false t i j = (q, no_mark)

  marked : (v : _) (w : Why) (a : Answer) → a ≡ Status (unlinking s) → (cond (unlinks a) (record s { mark = Unlinked w }) s).mark ≡ last_mark s.mark (Some (Mark v w))
  marked v w a is = ap (λ a. (cond (unlinks a) (record s { mark = Unlinked w }) s).mark) is ∙ (ap (λ b. (cond (is_in_progress (cond b (cond (is_clear s.mark) (Fault EINPROGRESS) (Fault EBUSY)) (Fault EIDRM))) (record s { mark = Unlinked w }) s).mark) q ∙ go s.mark)
    where
      go : (m : MarkState) → (cond (is_in_progress (cond (is_clear m) (Fault EINPROGRESS) (Fault EBUSY))) (record s { mark = Unlinked w }) (record s { mark = m })).mark ≡ last_mark m (Some (Mark v w))
      go Clear = refl
      go (Unlinked z) = refl
      go (Finished c) = refl

  ended : (v : _) (c : Code) (a : Answer) → a ≡ Truth (is_clear s.mark) → (cond (finishes a) (record s { mark = Finished c }) s).mark ≡ last_mark s.mark (Some (Finish v c))
  ended v c a is = ap (λ a. (cond (finishes a) (record s { mark = Finished c }) s).mark) is ∙ go s.mark
    where
      go : (m : MarkState) → (cond (is_clear m) (record s { mark = Finished c }) (record s { mark = m })).mark ≡ last_mark m (Some (Finish v c))
      go Clear = refl
      go (Unlinked z) = refl
      go (Finished d) = refl

  queue_kept : (b : Bool) (t : UrbState) → t.queued ≡ s.queued → (cond b t s).queued ≡ true
  queue_kept true t i = i ∙ q
  queue_kept false t i = q

  refused : (a : Answer) → a ≡ Status (refusal s) → accepted a ≡ false
  refused a is = ap accepted is ∙ ap (λ b. is_zero (cond b (Fault EBUSY) (cond s.flags.gone (Fault ENODEV) (cond (eqb 0 s.rejects) (cond s.flags.off (Fault ENOENT) (cond s.flags.down (Fault ESHUTDOWN) Zero)) (Fault EPERM))))) q

  module _ (a : Answer) (us : List ℕ) where
    goes : (e : Event) → (urb_of e ≡ u → a ≡ answer_of e s us) → is_give u e ≡ false → Left e (cond (is_of u e) (after e a s) s)
    goes (Submit v n) is off = by_test v.0 u (λ b. Left (Submit v n) (cond b (after (Submit v n) a s) s))
        (λ same. (ap (λ b. (cond b (record s { queued = true; mark = Clear }) s).queued) (refused a (is same)) ∙ q, ap (λ b. (cond b (record s { queued = true; mark = Clear }) s).mark) (refused a (is same)) ∙ no_mark))
        (λ _. (q, no_mark))
    goes (Mark v w) is off = by_test v.0 u (λ b. ((cond b (after (Mark v w) a s) s).queued ≡ true) × ((cond b (after (Mark v w) a s) s).mark ≡ last_mark s.mark (cond b (Some (Mark v w)) None)))
        (λ same. (queue_kept (unlinks a) _ refl, marked v w a (is same)))
        (λ _. (q, no_mark))
    goes (Finish v c) is off = by_test v.0 u (λ b. ((cond b (after (Finish v c) a s) s).queued ≡ true) × ((cond b (after (Finish v c) a s) s).mark ≡ last_mark s.mark (cond b (Some (Finish v c)) None)))
        (λ same. (queue_kept (finishes a) _ refl, ended v c a (is same)))
        (λ _. (q, no_mark))
    goes (Give v) is off = (ap (λ b. (cond b (after (Give v) a s) s).queued) off ∙ q, ap (λ b. (cond b (after (Give v) a s) s).mark) off ∙ no_mark)
    goes (Take d) is off = (q, no_mark)
    goes (Link v) is off = still (eqb v.0 u) s refl refl
    goes (Rest v n) is off = still (eqb v.0 u) (after (Rest v n) a s) refl refl
    goes (End v) is off = still (eqb v.0 u) (after (End v) a s) refl refl
    goes (Reject v) is off = still (eqb v.0 u) (after (Reject v) a s) refl refl
    goes (Withdraw v) is off = still (eqb v.0 u) (after (Withdraw v) a s) refl refl
    goes (Quiet v) is off = still (eqb v.0 u) s refl refl
    goes (Claim v) is off = still (eqb v.0 u) (after (Claim v) a s) refl refl
    goes (Flag v f) is off = still (eqb v.0 u) (after (Flag v f) a s) refl refl
    goes (Unflag v f) is off = still (eqb v.0 u) (after (Unflag v f) a s) refl refl

-- one ending more before those that follow
joined : (u : ℕ) (m : MarkState) (e : Event) (o : Option Event) → last_mark (last_mark m (cond (is_ending u e) (Some e) None)) o ≡ last_mark m (cond (is_ending u e) (Some e) o)
joined u m (Mark v w) o = go m (eqb v.0 u)
  where
    go : (m : MarkState) (b : Bool) → last_mark (last_mark m (cond b (Some (Mark v w)) None)) o ≡ last_mark m (cond b (Some (Mark v w)) o)
    go Clear true = refl
    go Clear false = refl
    go (Unlinked z) b = refl
    go (Finished c) b = refl
joined u m (Finish v d) o = go m (eqb v.0 u)
  where
    go : (m : MarkState) (b : Bool) → last_mark (last_mark m (cond b (Some (Finish v d)) None)) o ≡ last_mark m (cond b (Some (Finish v d)) o)
    go Clear true = refl
    go Clear false = refl
    go (Unlinked z) b = refl
    go (Finished c) b = refl
joined u m _ o = go m
  where
    go : (m : MarkState) → last_mark (last_mark m None) o ≡ last_mark m o
    go Clear = refl
    go (Unlinked z) = refl
    go (Finished c) = refl

-- while an URB is queued, its mark is that of the first ending
pub mark_of_first : (g : Machine) (u : ℕ) (m xs : List Entry) → IsLegal g (m ++ xs) → (state_of m u).queued ≡ true → NoneGives u xs
    → (state_of (m ++ xs) u).mark ≡ last_mark (state_of m u).mark (first_ending u xs)
mark_of_first g u m [] legal q none = ap (λ l. (state_of l u).mark) (append-nil m) ∙ no_mark u (state_of m u) q
mark_of_first g u m (x ∷ xs) legal q none =
    let f = follows_before g m x xs legal in
    let now = state_of-snoc m x u in
    let one = goes u (state_of m u) q x.answer (line_of g m (end_of x.event)) x.event (λ same. f.answers ∙ ap (λ w. answer_of x.event (state_of m w) (line_of g m (end_of x.event))) same) none.0 in
    let rest = mark_of_first g u (m ++ x ∷ []) xs (subst (IsLegal g) (sym (append_assoc m (x ∷ []) xs)) legal) (ap (λ (t : UrbState). t.queued) now ∙ one.0) none.1 in
    ap (λ l. (state_of l u).mark) (sym (append_assoc m (x ∷ []) xs))
    ∙ (rest
    ∙ (ap (λ (t : UrbState). last_mark t.mark (first_ending u xs)) now
    ∙ (ap (λ t. last_mark t (first_ending u xs)) one.1
    ∙ joined u (state_of m u).mark x.event (first_ending u xs))))

-- an episode in its history: what stood before its Give, and whether the transfer ended by itself
pub record IsGiveAt (b xs : List Entry) (k : ℕ) (e : Episode) : Type 0 where
  pub pre : List Entry
  pub give : Entry
  pub post : List Entry
  pub parts : xs ≡ pre ++ give ∷ post
  pub gives : give.event ≡ Give record { 0 = e.urb }
  pub answers : e.status ≡ give.answer
  pub sent : e.transfer ≡ sent_of (b ++ pre) e.urb
  pub count : length (episodes_after b pre) ≡ k
  pub flag : slice_get (flags_after b xs) k ≡ Some (finished_of (b ++ pre) e.urb)

no_first : (b : List Entry) (x : Entry) (xs : List Entry) (k : ℕ) (e : Episode) → ended_by b x.event x.answer ≡ [] → flag_of b x.event ≡ [] → IsGiveAt (b ++ x ∷ []) xs k e → IsGiveAt b (x ∷ xs) k e
no_first b x xs k e none quiet at = record {
  pre = x ∷ at.pre;
  give = at.give;
  post = at.post;
  parts = ap (λ l. x ∷ l) at.parts;
  gives = at.gives;
  answers = at.answers;
  sent = at.sent ∙ ap (λ l. sent_of l e.urb) (append_assoc b (x ∷ []) at.pre);
  count = ap (λ l. length (l ++ episodes_after (b ++ x ∷ []) at.pre)) none ∙ at.count;
  flag = ap (λ l. slice_get (l ++ flags_after (b ++ x ∷ []) xs) k) quiet ∙ (at.flag ∙ ap (λ l. Some (finished_of l e.urb)) (append_assoc b (x ∷ []) at.pre));
}

give_first : (b : List Entry) (x : Entry) (xs : List Entry) (e : Episode) (v : UrbId) → x.event ≡ Give v → Some (record { urb = v.0; status = x.answer; transfer = sent_of b v.0 }) ≡ Some e → IsGiveAt b (x ∷ xs) 0 e
give_first b x xs e v is same =
    let urb : v.0 ≡ e.urb = cc in
    let status : x.answer ≡ e.status = cc in
    let transfer : sent_of b v.0 ≡ e.transfer = cc in
    record {
      pre = [];
      give = x;
      post = xs;
      parts = refl;
      gives = is ∙ ap (λ (n : ℕ). Give (record { 0 = n })) urb;
      answers = sym status;
      sent = sym transfer ∙ (ap (sent_of b) urb ∙ ap (λ l. sent_of l e.urb) (sym (append-nil b)));
      count = refl;
      flag = ap (λ d. slice_get (flag_of b d ++ flags_after (b ++ x ∷ []) xs) 0) is ∙ (ap (λ u. Some (finished_of b u)) urb ∙ ap (λ l. Some (finished_of l e.urb)) (sym (append-nil b)));
    }

give_later : (b : List Entry) (x : Entry) (xs : List Entry) (k : ℕ) (e : Episode) (v : UrbId) → x.event ≡ Give v → IsGiveAt (b ++ x ∷ []) xs k e → IsGiveAt b (x ∷ xs) (suc k) e
give_later b x xs k e v is at = record {
  pre = x ∷ at.pre;
  give = at.give;
  post = at.post;
  parts = ap (λ l. x ∷ l) at.parts;
  gives = at.gives;
  answers = at.answers;
  sent = at.sent ∙ ap (λ l. sent_of l e.urb) (append_assoc b (x ∷ []) at.pre);
  count = ap (λ d. length (ended_by b d x.answer ++ episodes_after (b ++ x ∷ []) at.pre)) is ∙ ap suc at.count;
  flag = ap (λ d. slice_get (flag_of b d ++ flags_after (b ++ x ∷ []) xs) (suc k)) is ∙ (at.flag ∙ ap (λ l. Some (finished_of l e.urb)) (append_assoc b (x ∷ []) at.pre));
}

pub give_at : (b xs : List Entry) (k : ℕ) (e : Episode) → slice_get (episodes_after b xs) k ≡ Some e → IsGiveAt b xs k e
give_at b [] k e is = cc
give_at b (x ∷ xs) k e is = go x.event refl k is (λ j. give_at (b ++ x ∷ []) xs j e)
  where
    go : (d : Event) → x.event ≡ d → (k : ℕ) → slice_get (ended_by b d x.answer ++ episodes_after (b ++ x ∷ []) xs) k ≡ Some e
        → ((j : ℕ) → slice_get (episodes_after (b ++ x ∷ []) xs) j ≡ Some e → IsGiveAt (b ++ x ∷ []) xs j e) → IsGiveAt b (x ∷ xs) k e
    go (Give v) same zero at rest = give_first b x xs e v same at
    go (Give v) same (suc k) at rest = give_later b x xs k e v same (rest k at)
    go d same k at rest = no_first b x xs k e (ap (λ d. ended_by b d x.answer) same) (ap (flag_of b) same) (rest k at)

pub nth_map : {X Y : Type 0} (f : X → Y) (xs : List X) (k : ℕ) (x : X) → slice_get xs k ≡ Some x → slice_get (map f xs) k ≡ Some (f x)
nth_map f [] k x is = cc
nth_map f (y ∷ xs) zero x is = let same : y ≡ x = cc in ap (λ y. Some (f y)) same
nth_map f (y ∷ xs) (suc k) x is = nth_map f xs k x is

nth_all : {X : Type 0} (P : X → Type 0) (xs : List X) (k : ℕ) (x : X) → All P xs → slice_get xs k ≡ Some x → P x
nth_all P [] k x all is = cc
nth_all P (y ∷ xs) zero x all is = let same : y ≡ x = cc in subst P same (All-head P y xs all)
nth_all P (y ∷ xs) (suc k) x all is = nth_all P xs k x (All-tail P y xs all) is

module _ (s : Scene) (h : List Entry) (call_records : List CallRecord) (rounds : List Giveback) (run : IsRun s h call_records rounds) (k : ℕ) (r : Giveback) (is : slice_get rounds k ≡ Some r) where
  abbrev pub g : Machine
  g = machine_of s

  pub at : IsGiveAt [] h k (episode_of r)
  at = give_at [] h k (episode_of r) (ap (λ l. slice_get l k) run.gives ∙ nth_map episode_of rounds k r is)

  whole : IsLegal g (at.pre ++ at.give ∷ at.post)
  whole = subst (IsLegal g) at.parts run.legal

  pub legal : IsLegal g at.pre
  legal = legal_before g at.pre at.give at.post whole

  last : Follows g at.pre at.give
  last = follows_before g at.pre at.give at.post whole

  may : May g at.pre at.give.pass (Give record { 0 = r.urb })
  may = subst (May g at.pre at.give.pass) at.gives last.may

  pub out : IsOut at.pre r.urb
  out = queued_out r.urb at.pre (pending_is_queued g at.pre r.urb legal may.1)

  abbrev start : List Entry
  start = out.before ++ out.submit ∷ []

  split : at.pre ≡ start ++ out.between
  split = out.parts ∙ sym (append_assoc out.before (out.submit ∷ []) out.between)

  pub first : Follows g out.before out.submit
  first = follows_before g out.before out.submit out.between (subst (IsLegal g) out.parts legal)

  submitted : state_of start r.urb ≡ record (state_of out.before r.urb) { queued = true; mark = Clear }
  submitted = state_of-snoc out.before out.submit r.urb
      ∙ (ap (λ e. cond (is_of r.urb e) (after e out.submit.answer (state_of out.before r.urb)) (state_of out.before r.urb)) out.submits
      ∙ (ap (λ b. cond b (cond (accepted out.submit.answer) (record (state_of out.before r.urb) { queued = true; mark = Clear }) (state_of out.before r.urb)) (state_of out.before r.urb)) (eq-eqb r.urb r.urb refl)
      ∙ ap (λ b. cond b (record (state_of out.before r.urb) { queued = true; mark = Clear }) (state_of out.before r.urb)) out.accepts))

  -- the mark that the Give finds
  mark : (state_of at.pre r.urb).mark ≡ mark_by (first_ending r.urb out.between)
  mark = ap (λ l. (state_of l r.urb).mark) split
      ∙ (mark_of_first g r.urb start out.between (subst (IsLegal g) split legal) (ap (λ (t : UrbState). t.queued) submitted) out.none_gives
      ∙ ap (λ (t : UrbState). last_mark t.mark (first_ending r.urb out.between)) submitted)

  status : r.status ≡ status_of (mark_by (first_ending r.urb out.between))
  status = let says : Status r.status ≡ Status (status_of (mark_by (first_ending r.urb out.between))) =
      at.answers ∙ (last.answers ∙ (ap (λ e. answer_of e (state_of at.pre (urb_of e)) (line_of g at.pre (end_of e))) at.gives ∙ ap (λ m. Status (status_of m)) mark)) in cc

  by_itself : r.finished ≡ is_finished (mark_by (first_ending r.urb out.between))
  by_itself = let flag : Some r.finished ≡ Some (finished_of at.pre r.urb) =
      sym (nth_map (λ (r : Giveback). r.finished) rounds k r is) ∙ (ap (λ l. slice_get l k) (sym (run_flags s h call_records rounds run)) ∙ at.flag) in
      let same : r.finished ≡ finished_of at.pre r.urb = cc in
      same ∙ (sym (finished_is_marked g r.urb at.pre legal) ∙ ap is_finished mark)

  has_status : HasStatusBy s r (first_ending r.urb out.between)
  has_status = go (first_ending r.urb out.between) status by_itself (ap is_clear (sym mark) ∙ may.2)
    where
      go : (o : Option Event) → r.status ≡ status_of (mark_by o) → r.finished ≡ is_finished (mark_by o) → is_clear (mark_by o) ≡ false → HasStatusBy s r o
      go (Some (Mark v why)) says f c = (says, f)
      go (Some (Finish v code)) says f c = ((nth_all (IsGiveback s) rounds k r run.moves is).state f, f)
      go o says f c = absurd (true≢false c)

  pub carries : out.submit.carried ≡ Some r.sent
  carries = sym out.carries ∙ sym at.sent

  number : out.number ≡ r.sent.number
  number = (go out.submit.event out.submits out.submit.carried carries first.carries)
    where
      go : (e : Event) → e ≡ Submit record { 0 = r.urb } out.number → (c : Option Transfer) → c ≡ Some r.sent → Carries g e c → out.number ≡ r.sent.number
      go e is c the carry = sym (subst (λ c. Carries g (Submit record { 0 = r.urb } out.number) c) the (subst (λ e. Carries g e c) is carry)).0

  -- the window of what was sent lies in its buffer
  pub sent_window : HasWindow r.sent
  sent_window = go out.submit.event out.submits out.submit.carried carries first.carries
    where
      go : (e : Event) → e ≡ Submit record { 0 = r.urb } out.number → (c : Option Transfer) → c ≡ Some r.sent → Carries g e c → HasWindow r.sent
      go e is c the carry = (subst (λ c. Carries g (Submit record { 0 = r.urb } out.number) c) the (subst (λ e. Carries g e c) is carry)).1

  given_back : IsGivenBack h k r out.between
  given_back = record {
    give = at.give;
    episode = record {
      before = out.before;
      submit = out.submit;
      behind = at.post;
      parts = at.parts ∙ (ap (λ l. l ++ at.give ∷ at.post) out.parts ∙ append_assoc out.before (out.submit ∷ out.between) (at.give ∷ at.post));
      submits = out.submits ∙ ap (λ n. Submit record { 0 = r.urb } n) number;
      accepts = out.accepts;
      none_gives = out.none_gives;
      gives = at.gives;
    };
    carries = carries;
    answers = sym at.answers;
    place = ap (λ l. length (episodes_of l)) (sym out.parts) ∙ at.count;
  }

  pub status_of_first : (between : List Entry) × (IsGivenBack h k r between) × (HasStatusBy s r (first_ending r.urb between))
  status_of_first = (out.between, given_back, has_status)
