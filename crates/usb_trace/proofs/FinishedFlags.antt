-- Which givebacks are of a transfer that ended by itself: the history and the givebacks say the same.
use Rattle.std.proofs.Common.{ℕ, ◌≡◌, Bool, true, false, not, ◌&&◌, cond, eqb, None, List, [], ◌∷◌, ◌++◌, fold, refl, sym, ap, ◌∙◌, append_assoc, append-nil, eq-eqb, true≢false}
use Rattle.std.specs.Prelude.{map, filter}
use Rattle.std.specs.List.{flat_map}
use Rattle.std.proofs.lemmas.List.Sums.{fold-append}
use Rattle.std.proofs.lemmas.List.Elements.{filter-append}
use Rattle.std.proofs.lemmas.List.Concat.{flat_map-cons}
use Rattle.usb_types.specs.declared.errno.Code.{Code}
use Rattle.usb_types.specs.declared.errno.Code.TheVariants.{Zero, Fault}
use Rattle.usb_types.specs.declared.errno.Errno.TheVariants.{EBUSY, EIDRM, EINPROGRESS}
use Rattle.usb_machine.specs.declared.entry.TheConstants.{SERVER}
use Rattle.usb_machine.specs.declared.event.Event.{Event}
use Rattle.usb_machine.specs.declared.event.Event.TheVariants.{Submit, Link, Take, Mark, Finish, Give, Rest, End, Reject, Withdraw, Quiet, Claim, Flag, Unflag}
use Rattle.usb_machine.specs.declared.event.Answer.{Answer}
use Rattle.usb_machine.specs.declared.event.Answer.TheVariants.{Truth, Code as Status}
use Rattle.usb_machine.specs.declared.state.Mark.{Mark as MarkState}
use Rattle.usb_machine.specs.declared.state.Mark.TheVariants.{Clear, Unlinked, Finished}
use Rattle.usb_machine.specs.declared.state.UrbState.{UrbState}
use Rattle.usb_machine.specs.declared.transfer.Transfer.{Transfer}
use Rattle.usb_machine.specs.declared.entry.Entry.{Entry}
use Rattle.usb_machine.specs.State.{after, is_zero, is_clear, refusal, accepted, unlinks, unlinking, is_in_progress, finishes, answer_of}
use Rattle.usb_machine.specs.History.{Machine, state_of, is_of, line_of}
use Rattle.usb_machine.specs.Parts.{part_of}
use Rattle.usb_machine.specs.Calls.{entry, submit_entries}
use Rattle.usb_machine.specs.Legal.{May, urb_of, end_of, IsLegal, empty, longer}
use Rattle.usb_machine.proofs.Steps.{state_of-snoc}
use Rattle.usb_machine.proofs.Places.{by_test}
use Rattle.usb_machine.proofs.Marks.{accepts_open, mark_of_queued}
use Rattle.usb_scene.specs.declared.scene.Scene.{Scene}
use Rattle.usb_trace.specs.declared.rows.Outcome.{Outcome}
use Rattle.usb_trace.specs.declared.rows.Outcome.TheVariants as outcome
use Rattle.usb_trace.specs.Plan.{machine_of, question_at}
use Rattle.usb_trace.specs.Run.{CallRecord, Giveback, IsRun, is_aside, moved_in, resent, handled_by, handler_entries, given_entries, giveback_entries}
use Rattle.usb_trace.proofs.AskedEach.{asked_each}

-- whether a transfer of URB u ended by itself since its last Give
abbrev finished_after : ℕ → Bool → Event → Answer → Bool
finished_after u b (Finish v c) a = cond (eqb v.0 u && finishes a) true b
finished_after u b (Give v) a = cond (eqb v.0 u) false b
finished_after u b _ a = b

abbrev pub finished_of : List Entry → ℕ → Bool
finished_of h u = fold (λ b x. finished_after u b x.event x.answer) false h

finished-append : (h xs : List Entry) (u : ℕ) → finished_of (h ++ xs) u ≡ fold (λ b x. finished_after u b x.event x.answer) (finished_of h u) xs
finished-append h xs u = fold-append (λ b (x : Entry). finished_after u b x.event x.answer) false h xs

-- and for each Give, whether its transfer had
abbrev pub flag_of : List Entry → Event → List Bool
flag_of before (Give v) = finished_of before v.0 ∷ []
flag_of before _ = []

abbrev pub flags_after : List Entry → List Entry → List Bool
flags_after before [] = []
flags_after before (x ∷ xs) = flag_of before x.event ++ flags_after (before ++ x ∷ []) xs

abbrev pub flags_of : List Entry → List Bool
flags_of h = flags_after [] h

flags-append : (b h xs : List Entry) → flags_after b (h ++ xs) ≡ flags_after b h ++ flags_after (b ++ h) xs
flags-append b [] xs = ap (λ l. flags_after l xs) (sym (append-nil b))
flags-append b (x ∷ h) xs =
    ap (λ l. flag_of b x.event ++ l) (flags-append (b ++ x ∷ []) h xs)
    ∙ (sym (append_assoc (flag_of b x.event) (flags_after (b ++ x ∷ []) h) (flags_after ((b ++ x ∷ []) ++ h) xs))
    ∙ ap (λ l. (flag_of b x.event ++ flags_after (b ++ x ∷ []) h) ++ flags_after l xs) (append_assoc b (x ∷ []) h))

-- the state of an URB says the same
abbrev pub is_finished : MarkState → Bool
is_finished Clear = false
is_finished (Unlinked w) = false
is_finished (Finished c) = true

clear_unfinished : (m : MarkState) → is_clear m ≡ true → is_finished m ≡ false
clear_unfinished Clear is = refl
clear_unfinished (Unlinked w) is = refl
clear_unfinished (Finished c) is = absurd (true≢false (sym is))

unlinks_clear : (s : UrbState) → is_in_progress (unlinking s) ≡ true → is_clear s.mark ≡ true
unlinks_clear s e = go s.queued (is_clear s.mark) e
  where
    go : (q m : Bool) → is_in_progress (cond q (cond m (Fault EINPROGRESS) (Fault EBUSY)) (Fault EIDRM)) ≡ true → m ≡ true
    go true true e = refl
    go true false e = absurd (true≢false (sym e))
    go false m e = absurd (true≢false (sym e))

module _ (u : ℕ) (s : UrbState) (a : Answer) (b : Bool) (old : is_finished s.mark ≡ b) where
  abbrev Agrees : Event → Type 0
  Agrees e = is_finished (cond (is_of u e) (after e a s) s).mark ≡ finished_after u b e a

  abbrev Known : Event → Type 0
  Known (Submit v n) = v.0 ≡ u → accepted a ≡ true → is_clear s.mark ≡ true
  Known (Mark v w) = v.0 ≡ u → unlinks a ≡ true → is_clear s.mark ≡ true
  Known _ = Unit {0}

  unmarked : is_clear s.mark ≡ true → false ≡ b
  unmarked clear = sym (clear_unfinished s.mark clear) ∙ old

  same : (t : Bool) (now : UrbState) → now.mark ≡ s.mark → is_finished (cond t now s).mark ≡ b
  same true now is = ap is_finished is ∙ old
  same false now is = old

  agrees : (e : Event) → Known e → Agrees e
  agrees (Submit v n) k = by_test v.0 u (λ t. is_finished (cond t (after (Submit v n) a s) s).mark ≡ b) (λ is. go (accepted a) (k is)) (λ _. old)
    where
      go : (t : Bool) → (t ≡ true → is_clear s.mark ≡ true) → is_finished (cond t (record s { queued = true; mark = Clear }) s).mark ≡ b
      go true c = unmarked (c refl)
      go false c = old
  agrees (Mark v w) k = by_test v.0 u (λ t. is_finished (cond t (after (Mark v w) a s) s).mark ≡ b) (λ is. go (unlinks a) (k is)) (λ _. old)
    where
      go : (t : Bool) → (t ≡ true → is_clear s.mark ≡ true) → is_finished (cond t (record s { mark = Unlinked w }) s).mark ≡ b
      go true c = unmarked (c refl)
      go false c = old
  agrees (Finish v c) k = by_test v.0 u (λ t. is_finished (cond t (after (Finish v c) a s) s).mark ≡ cond (t && finishes a) true b) (λ is. go (finishes a)) (λ _. old)
    where
      go : (t : Bool) → is_finished (cond t (record s { mark = Finished c }) s).mark ≡ cond t true b
      go true = refl
      go false = old
  agrees (Give v) k = by_test v.0 u (λ t. is_finished (cond t (after (Give v) a s) s).mark ≡ cond t false b) (λ _. refl) (λ _. old)
  agrees (Take e) k = old
  agrees (Link v) k = same (eqb v.0 u) s refl
  agrees (Rest v n) k = same (eqb v.0 u) (after (Rest v n) a s) refl
  agrees (End v) k = same (eqb v.0 u) (after (End v) a s) refl
  agrees (Reject v) k = same (eqb v.0 u) (after (Reject v) a s) refl
  agrees (Withdraw v) k = same (eqb v.0 u) (after (Withdraw v) a s) refl
  agrees (Quiet v) k = same (eqb v.0 u) s refl
  agrees (Claim v) k = same (eqb v.0 u) (after (Claim v) a s) refl
  agrees (Flag v f) k = same (eqb v.0 u) (after (Flag v f) a s) refl
  agrees (Unflag v f) k = same (eqb v.0 u) (after (Unflag v f) a s) refl

known : (g : Machine) (u : ℕ) (h : List Entry) (legal : IsLegal g h) (e : Event) (a : Answer) (b : Bool) (old : is_finished (state_of h u).mark ≡ b)
    → a ≡ answer_of e (state_of h (urb_of e)) (line_of g h (end_of e)) → Known u (state_of h u) a b old e
known g u h legal (Submit v n) a b old i = λ (is : v.0 ≡ u) ok.
    mark_of_queued g u h legal (accepts_open (state_of h u) (ap (λ w. is_zero (refusal (state_of h w))) (sym is) ∙ (sym (ap accepted i) ∙ ok))).queued
known g u h legal (Mark v w) a b old i = λ (is : v.0 ≡ u) ok. unlinks_clear (state_of h u) (ap (λ k. is_in_progress (unlinking (state_of h k))) (sym is) ∙ (sym (ap unlinks i) ∙ ok))
known g u h legal _ a b old i = tt

pub finished_is_marked : (g : Machine) (u : ℕ) (h : List Entry) → IsLegal g h → is_finished (state_of h u).mark ≡ finished_of h u
finished_is_marked g u _ empty = refl
finished_is_marked g u _ (longer h x legal f) =
    let old = finished_is_marked g u h legal in
    ap (λ (s : UrbState). is_finished s.mark) (state_of-snoc h x u)
    ∙ (agrees u (state_of h u) x.answer (finished_of h u) old x.event (known g u h legal x.event x.answer (finished_of h u) old f.answers) ∙ sym (finished-append h (x ∷ []) u))

-- an entry that changes none of this
pub record Skips (e : Event) (a : Answer) : Type 0 where
  pub finished : (u : ℕ) (b : Bool) → finished_after u b e a ≡ b
  pub flags : (m : List Entry) → flag_of m e ≡ []

abbrev pub AllSkip : List Entry → Type 0
AllSkip [] = Unit {0}
AllSkip (x ∷ xs) = Skips x.event x.answer × AllSkip xs

AllSkip-append : (xs ys : List Entry) → AllSkip xs → AllSkip ys → AllSkip (xs ++ ys)
AllSkip-append [] ys a b = b
AllSkip-append (x ∷ xs) ys a b = (a.0, AllSkip-append xs ys a.1 b)

skipped_flags : (m xs : List Entry) → AllSkip xs → flags_after m xs ≡ []
skipped_flags m [] is = refl
skipped_flags m (x ∷ xs) is = ap (λ l. l ++ flags_after (m ++ x ∷ []) xs) (is.0.flags m) ∙ skipped_flags (m ++ x ∷ []) xs is.1

skipped_finished : (u : ℕ) (b : Bool) (xs : List Entry) → AllSkip xs → fold (λ b (x : Entry). finished_after u b x.event x.answer) b xs ≡ b
skipped_finished u b [] is = refl
skipped_finished u b (x ∷ xs) is = ap (λ b. fold (λ b (x : Entry). finished_after u b x.event x.answer) b xs) (is.0.finished u b) ∙ skipped_finished u b xs is.1

-- the server's entries that are of givebacks
abbrev pub served : List Entry → List Entry
served h = filter (λ x. not (is_aside x.event x.answer)) (part_of h SERVER)

abbrev pub is_served : Entry → Bool
is_served x = eqb x.pass SERVER && not (is_aside x.event x.answer)

abbrev pub single : Bool → Entry → List Entry
single b x = cond b (x ∷ []) []

pub served-snoc : (h : List Entry) (x : Entry) → served (h ++ x ∷ []) ≡ served h ++ single (is_served x) x
served-snoc h x = ap (filter (λ (x : Entry). not (is_aside x.event x.answer))) (filter-append (λ (x : Entry). eqb x.pass SERVER) h (x ∷ []))
    ∙ (filter-append (λ (x : Entry). not (is_aside x.event x.answer)) (part_of h SERVER) (single (eqb x.pass SERVER) x)
    ∙ ap (λ l. served h ++ l) (go (eqb x.pass SERVER)))
  where
    go : (b : Bool) → filter (λ (x : Entry). not (is_aside x.event x.answer)) (single b x) ≡ single (b && not (is_aside x.event x.answer)) x
    go true = refl
    go false = refl

-- an entry that is not among them changes none of this
unserved : (g : Machine) (h : List Entry) (x : Entry) (e : Event) → x.event ≡ e → May g h x.pass e → is_served x ≡ false → Skips e x.answer
unserved g h x (Finish v c) is may off = go (finishes x.answer) refl
  where
    go : (b : Bool) → finishes x.answer ≡ b → Skips (Finish v c) x.answer
    go true ok = absurd (true≢false (sym (ap (λ e. eqb x.pass SERVER && not (is_aside e x.answer)) is ∙ (ap (λ b. b && not (not (finishes x.answer))) (eq-eqb x.pass SERVER may.0) ∙ ap (λ b. not (not b)) ok)) ∙ off))
    go false ok = record { finished = λ u b. ap (λ t. cond (eqb v.0 u && t) true b) ok ∙ none (eqb v.0 u) b; flags = λ m. refl }
      where
        none : (t b : Bool) → cond (t && false) true b ≡ b
        none true b = refl
        none false b = refl
unserved g h x (Give v) is may off = absurd (true≢false (sym (ap (λ e. eqb x.pass SERVER && not (is_aside e x.answer)) is ∙ ap (λ b. b && true) (eq-eqb x.pass SERVER may.0)) ∙ off))
unserved g h x _ is may off = record { finished = λ u b. refl; flags = λ m. refl }

-- the whole history says the same as the server's entries
pub record AreServed (h : List Entry) : Type 0 where
  pub finished : (u : ℕ) → finished_of h u ≡ finished_of (served h) u
  pub flags : flags_of h ≡ flags_of (served h)

served_step : (g : Machine) (h : List Entry) (x : Entry) → May g h x.pass x.event → AreServed h → (b : Bool) → is_served x ≡ b
    → ((u : ℕ) → finished_after u (finished_of h u) x.event x.answer ≡ finished_of (served h ++ single b x) u) × (flags_of h ++ (flag_of h x.event ++ []) ≡ flags_of (served h ++ single b x))
served_step g h x may old true is = (
  λ u. ap (λ b. finished_after u b x.event x.answer) (old.finished u) ∙ sym (finished-append (served h) (x ∷ []) u),
  (λ i. old.flags i ++ (same x.event i ++ [])) ∙ sym (flags-append [] (served h) (x ∷ [])),
)
  where
    same : (e : Event) → flag_of h e ≡ flag_of (served h) e
    same (Give v) = ap (λ b. b ∷ []) (old.finished v.0)
    same _ = refl
served_step g h x may old false is =
    let skip = unserved g h x x.event refl may is in (
      λ u. skip.finished u (finished_of h u) ∙ (old.finished u ∙ ap (λ l. finished_of l u) (sym (append-nil (served h)))),
      ap (λ l. flags_of h ++ (l ++ [])) (skip.flags h) ∙ (append-nil (flags_of h) ∙ (old.flags ∙ ap flags_of (sym (append-nil (served h))))),
    )

are_served : (g : Machine) (h : List Entry) → IsLegal g h → AreServed h
are_served g _ empty = record { finished = λ u. refl; flags = refl }
are_served g _ (longer h x legal f) =
    let t = served_step g h x f.may (are_served g h legal) (is_served x) refl in
    record {
      finished = λ u. finished-append h (x ∷ []) u ∙ (t.0 u ∙ ap (λ l. finished_of l u) (sym (served-snoc h x)));
      flags = flags-append [] h (x ∷ []) ∙ (t.1 ∙ ap flags_of (sym (served-snoc h x)));
    }

skip_plain : (e : Event) (a : Answer) → ((u : ℕ) (b : Bool) → finished_after u b e a ≡ b) → ((m : List Entry) → flag_of m e ≡ []) → Skips e a
skip_plain e a f g = record { finished = f; flags = g }

submit_skips : (p u : ℕ) (t : Transfer) (c : Code) → AllSkip (submit_entries p u t c)
submit_skips p u t Zero = (skip_plain _ _ (λ u b. refl) (λ m. refl), (skip_plain _ _ (λ u b. refl) (λ m. refl), tt))
submit_skips p u t (Fault e) = (skip_plain _ _ (λ u b. refl) (λ m. refl), tt)

module _ (s : Scene) (r : Giveback) where
  handler_skips : AllSkip (handler_entries s r)
  handler_skips = AllSkip-append (handled_by s r.urb (moved_in s r) (resent s r) (question_at s r.urb) r.outcome) _ (go r.outcome) (skip_plain _ _ (λ u b. refl) (λ m. refl), tt)
    where
      go : (o : Outcome) → AllSkip (handled_by s r.urb (moved_in s r) (resent s r) (question_at s r.urb) o)
      go outcome.Rest = (skip_plain _ _ (λ u b. refl) (λ m. refl), tt)
      go (outcome.Again Zero) = (skip_plain _ _ (λ u b. refl) (λ m. refl), (skip_plain _ _ (λ u b. refl) (λ m. refl), tt))
      go (outcome.Again (Fault e)) = (skip_plain _ _ (λ u b. refl) (λ m. refl), (skip_plain _ _ (λ u b. refl) (λ m. refl), tt))
      go (outcome.Asked c) = (skip_plain _ _ (λ u b. refl) (λ m. refl), asked_each s AllSkip (question_at s r.urb) c tt (λ a is none. submit_skips SERVER a.urb a.transfer c))

  module _ (m : List Entry) (none : (u : ℕ) → finished_of m u ≡ false) where
    abbrev finish : Entry
    finish = entry SERVER (Finish record { 0 = r.urb } r.status) (Truth true) None

    abbrev give : Entry
    give = entry SERVER (Give record { 0 = r.urb }) (Status r.status) None

    one_flag : flags_after m (giveback_entries s r) ≡ r.finished ∷ []
    one_flag = go r.finished
      where
        go : (b : Bool) → flags_after m (given_entries r.urb r.status b ++ handler_entries s r) ≡ b ∷ []
        go true = (λ i. (finished-append m (finish ∷ []) r.urb ∙ ap (λ t. cond (t && true) true (finished_of m r.urb)) (eq-eqb r.urb r.urb refl)) i
            ∷ skipped_flags ((m ++ finish ∷ []) ++ give ∷ []) (handler_entries s r) handler_skips i)
        go false = (λ i. none r.urb i ∷ skipped_flags (m ++ give ∷ []) (handler_entries s r) handler_skips i)

    none_finished : (u : ℕ) → finished_of (m ++ giveback_entries s r) u ≡ false
    none_finished u = finished-append m (giveback_entries s r) u
        ∙ (fold-append (λ b (x : Entry). finished_after u b x.event x.answer) (finished_of m u) (given_entries r.urb r.status r.finished) (handler_entries s r)
        ∙ (skipped_finished u (fold (λ b (x : Entry). finished_after u b x.event x.answer) (finished_of m u) (given_entries r.urb r.status r.finished)) (handler_entries s r) handler_skips ∙ (ap (λ b. fold (λ b (x : Entry). finished_after u b x.event x.answer) b (given_entries r.urb r.status r.finished)) (none u) ∙ go r.finished)))
      where
        go : (b : Bool) → fold (λ b (x : Entry). finished_after u b x.event x.answer) false (given_entries r.urb r.status b) ≡ false
        go true = both (eqb r.urb u)
          where
            both : (t : Bool) → cond t false (cond (t && true) true false) ≡ false
            both true = refl
            both false = refl
        go false = one (eqb r.urb u)
          where
            one : (t : Bool) → cond t false false ≡ false
            one true = refl
            one false = refl

rounds_flags : (s : Scene) (rounds : List Giveback) (m : List Entry) → ((u : ℕ) → finished_of m u ≡ false) → flags_after m (flat_map (giveback_entries s) rounds) ≡ map (λ r. r.finished) rounds
rounds_flags s [] m none = refl
rounds_flags s (r ∷ rounds) m none = ap (flags_after m) (flat_map-cons (giveback_entries s) r rounds)
    ∙ (flags-append m (giveback_entries s r) (flat_map (giveback_entries s) rounds)
    ∙ (λ i. one_flag s r m none i ++ rounds_flags s rounds (m ++ giveback_entries s r) (none_finished s r m none) i))

-- a giveback says whether the transfer that it gave back ended by itself
pub run_flags : (s : Scene) (h : List Entry) (call_records : List CallRecord) (rounds : List Giveback) → IsRun s h call_records rounds → flags_of h ≡ map (λ r. r.finished) rounds
run_flags s h call_records rounds run = (are_served (machine_of s) h run.legal).flags ∙ (ap flags_of (run.together refl) ∙ rounds_flags s rounds [] (λ u. refl))
