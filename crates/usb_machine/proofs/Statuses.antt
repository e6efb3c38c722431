-- An episode's status is the one that its only Mark or Finish settled.
use Rattle.std.proofs.Common.{◌≡◌, ℕ, Bool, true, false, ◌&&◌, cond, eqb, List, [], ◌∷◌, ◌++◌, fold, sym, refl, ap, ◌∙◌, subst, true≢false, append_assoc, append-nil}
use Rattle.std.proofs.lemmas.List.Sums.{fold-append}
use Rattle.usb_types.specs.declared.errno.Errno.TheVariants.{EBUSY, EIDRM, EINPROGRESS}
use Rattle.usb_types.specs.declared.errno.Code.{Code}
use Rattle.usb_types.specs.declared.errno.Code.TheVariants.{Fault}
use Rattle.usb_types.specs.Codes.{errno_of}
use Rattle.usb_machine.specs.declared.event.Event.{Event}
use Rattle.usb_machine.specs.declared.event.Event.TheVariants.{Submit, Link, Take, Mark, Finish, Give, Rest, End, Reject, Withdraw, Quiet, Claim, Flag, Unflag}
use Rattle.usb_machine.specs.declared.event.Answer.{Answer}
use Rattle.usb_machine.specs.declared.state.Mark.{Mark as MarkState}
use Rattle.usb_machine.specs.declared.state.Mark.TheVariants.{Clear, Unlinked, Finished}
use Rattle.usb_machine.specs.declared.entry.Entry.{Entry}
use Rattle.usb_machine.specs.declared.state.UrbState.{UrbState}
use Rattle.usb_machine.specs.State.{after, is_zero, is_clear, status_of, refusal, accepted, unlinks, unlinking, is_in_progress, finishes, answer_of}
use Rattle.usb_machine.specs.History.{Machine, state_of, is_of, line_of}
use Rattle.usb_machine.specs.Legal.{May, urb_of, end_of, IsLegal, empty, longer}
use Rattle.usb_machine.specs.Laws.{settling, settled, is_give, NoneGives, HasEpisode, HasOneStatus}
use Rattle.usb_machine.proofs.Steps.{state_of-snoc}
use Rattle.usb_machine.proofs.Places.{by_test}
use Rattle.usb_machine.proofs.Marks.{accepts_open, mark_of_queued}
use Rattle.usb_machine.proofs.Prefixes.{legal_before, follows_before}

-- the statuses that are settled since the last Give of u
abbrev settled_after : ℕ → List Code → Event → Answer → List Code
settled_after u cs (Give v) a = cond (eqb v.0 u) [] cs
settled_after u cs e a = cs ++ settling u e a

abbrev pub settled_since : List Entry → ℕ → List Code
settled_since h u = fold (λ cs x. settled_after u cs x.event x.answer) [] h

settled_since-snoc : (h : List Entry) (x : Entry) (u : ℕ) → settled_since (h ++ x ∷ []) u ≡ settled_after u (settled_since h u) x.event x.answer
settled_since-snoc h x u = fold-append (λ (cs : List Code) y. settled_after u cs y.event y.answer) [] h (x ∷ [])

-- the statuses that a mark stands for
abbrev pub codes_of : MarkState → List Code
codes_of Clear = []
codes_of (Unlinked why) = Fault (errno_of why) ∷ []
codes_of (Finished code) = code ∷ []

clear_codes : (m : MarkState) → is_clear m ≡ true → codes_of m ≡ []
clear_codes Clear e = refl
clear_codes (Unlinked why) e = absurd (true≢false (sym e))
clear_codes (Finished code) e = absurd (true≢false (sym e))

one_code : (m : MarkState) → is_clear m ≡ false → codes_of m ≡ status_of m ∷ []
one_code Clear e = absurd (true≢false e)
one_code (Unlinked why) e = refl
one_code (Finished code) e = refl

-- a Mark is answered EINPROGRESS only where no mark stands
unlinks_clear : (s : UrbState) → is_in_progress (unlinking s) ≡ true → is_clear s.mark ≡ true
unlinks_clear s e = go s.queued (is_clear s.mark) e
  where
    go : (q m : Bool) → is_in_progress (cond q (cond m (Fault EINPROGRESS) (Fault EBUSY)) (Fault EIDRM)) ≡ true → m ≡ true
    go true true e = refl
    go true false e = absurd (true≢false (sym e))
    go false m e = absurd (true≢false (sym e))

module _ (u : ℕ) (s : UrbState) (a : Answer) (cs : List Code) (stands : codes_of s.mark ≡ cs) where
  abbrev Stands : Event → Type 0
  Stands e = codes_of (cond (is_of u e) (after e a s) s).mark ≡ settled_after u cs e a

  -- what is known where an event comes
  abbrev Known : Event → Type 0
  Known (Submit v n) = v.0 ≡ u → accepted a ≡ true → is_clear s.mark ≡ true
  Known (Mark v w) = v.0 ≡ u → unlinks a ≡ true → is_clear s.mark ≡ true
  Known (Finish v c) = v.0 ≡ u → finishes a ≡ true → is_clear s.mark ≡ true
  Known _ = Unit {0}

  empty_then : is_clear s.mark ≡ true → (c : Code) → c ∷ [] ≡ cs ++ c ∷ []
  empty_then clear c = ap (λ xs. xs ++ c ∷ []) (sym (clear_codes s.mark clear) ∙ stands)

  still : cs ≡ cs ++ []
  still = sym (append-nil cs)

  same_mark : (b : Bool) (t : UrbState) → t.mark ≡ s.mark → codes_of (cond b t s).mark ≡ cs ++ []
  same_mark true t e = ap codes_of e ∙ (stands ∙ still)
  same_mark false t e = stands ∙ still

  either : (b : Bool) (c : Code) (m : MarkState) → codes_of m ≡ c ∷ [] → (b ≡ true → is_clear s.mark ≡ true) → codes_of (cond b (record s { mark = m }) s).mark ≡ cs ++ cond b (c ∷ []) []
  either true c m is k = is ∙ empty_then (k refl) c
  either false c m is k = stands ∙ still

  accept : (b : Bool) → (b ≡ true → is_clear s.mark ≡ true) → codes_of (cond b (record s { queued = true; mark = Clear }) s).mark ≡ cs ++ []
  accept true k = sym (clear_codes s.mark (k refl)) ∙ (stands ∙ still)
  accept false k = stands ∙ still

  settles : (e : Event) → Known e → Stands e
  settles (Submit v n) k = by_test v.0 u (λ t. codes_of (cond t (after (Submit v n) a s) s).mark ≡ cs ++ []) (λ is. accept (accepted a) (k is)) (λ _. stands ∙ still)
  settles (Mark v w) k = by_test v.0 u (λ t. codes_of (cond t (after (Mark v w) a s) s).mark ≡ cs ++ cond (t && unlinks a) (Fault (errno_of w) ∷ []) []) (λ is. either (unlinks a) _ (Unlinked w) refl (k is)) (λ _. stands ∙ still)
  settles (Finish v c) k = by_test v.0 u (λ t. codes_of (cond t (after (Finish v c) a s) s).mark ≡ cs ++ cond (t && finishes a) (c ∷ []) []) (λ is. either (finishes a) c (Finished c) refl (k is)) (λ _. stands ∙ still)
  settles (Give v) k = by_test v.0 u (λ t. codes_of (cond t (after (Give v) a s) s).mark ≡ cond t [] cs) (λ _. refl) (λ _. stands)
  settles (Take e) k = stands ∙ still
  settles (Link v) k = same_mark (eqb v.0 u) s refl
  settles (Rest v n) k = same_mark (eqb v.0 u) (after (Rest v n) a s) refl
  settles (End v) k = same_mark (eqb v.0 u) (after (End v) a s) refl
  settles (Reject v) k = same_mark (eqb v.0 u) (after (Reject v) a s) refl
  settles (Withdraw v) k = same_mark (eqb v.0 u) (after (Withdraw v) a s) refl
  settles (Quiet v) k = same_mark (eqb v.0 u) s refl
  settles (Claim v) k = same_mark (eqb v.0 u) (after (Claim v) a s) refl
  settles (Flag v f) k = same_mark (eqb v.0 u) (after (Flag v f) a s) refl
  settles (Unflag v f) k = same_mark (eqb v.0 u) (after (Unflag v f) a s) refl

known : (g : Machine) (u : ℕ) (h : List Entry) (legal : IsLegal g h) (e : Event) (a : Answer) (cs : List Code) (stands : codes_of (state_of h u).mark ≡ cs)
    → a ≡ answer_of e (state_of h (urb_of e)) (line_of g h (end_of e)) → Known u (state_of h u) a cs stands e
known g u h legal (Submit v n) a cs st i = λ (is : v.0 ≡ u) ok.
    mark_of_queued g u h legal (accepts_open (state_of h u) (ap (λ w. is_zero (refusal (state_of h w))) (sym is) ∙ (sym (ap accepted i) ∙ ok))).queued
known g u h legal (Mark v w) a cs st i = λ (is : v.0 ≡ u) ok. unlinks_clear (state_of h u) (ap (λ k. is_in_progress (unlinking (state_of h k))) (sym is) ∙ (sym (ap unlinks i) ∙ ok))
known g u h legal (Finish v c) a cs st i = λ (is : v.0 ≡ u) ok. ap (λ k. is_clear (state_of h k).mark) (sym is) ∙ (sym (ap finishes i) ∙ ok)
known g u h legal _ a cs st i = tt

-- the mark of an URB is what was settled since its last Give
pub mark_is_settled : (g : Machine) (u : ℕ) (h : List Entry) → IsLegal g h → codes_of (state_of h u).mark ≡ settled_since h u
mark_is_settled g u _ empty = refl
mark_is_settled g u _ (longer h x legal f) = let old = mark_is_settled g u h legal in
    ap (λ (s : UrbState). codes_of s.mark) (state_of-snoc h x u) ∙ (settles u (state_of h u) x.answer (settled_since h u) old x.event (known g u h legal x.event x.answer (settled_since h u) old f.answers) ∙ sym (settled_since-snoc h x u))

-- where none gives, what is settled is added
settled_on : (u : ℕ) (xs : List Entry) (cs : List Code) → NoneGives u xs → fold (λ ds x. settled_after u ds x.event x.answer) cs xs ≡ cs ++ settled u xs
settled_on u [] cs n = sym (append-nil cs)
settled_on u (x ∷ xs) cs n = ap (λ ds. fold (λ es y. settled_after u es y.event y.answer) ds xs) (step x.event n.0) ∙ (settled_on u xs (cs ++ settling u x.event x.answer) n.1 ∙ append_assoc cs _ _)
  where
    step : (e : Event) → is_give u e ≡ false → settled_after u cs e x.answer ≡ cs ++ settling u e x.answer
    step (Give v) off = ap (λ b. cond b [] cs) off ∙ sym (append-nil cs)
    step _ off = refl

pub one_status : (g : Machine) (h : List Entry) (u number : ℕ) (within : List Entry) (give : Entry) → IsLegal g h → HasEpisode h u number within give → HasOneStatus u within give.answer
one_status g h u number within give legal e =
    let h2 = e.before ++ e.submit ∷ within in
    let whole : IsLegal g (h2 ++ give ∷ e.behind) = subst (IsLegal g) (e.parts ∙ sym (append_assoc e.before (e.submit ∷ within) (give ∷ e.behind))) legal in
    let legal2 = legal_before g h2 give e.behind whole in let last = follows_before g h2 give e.behind whole in
    let first = follows_before g e.before e.submit within legal2 in let legal1 = legal_before g e.before e.submit within legal2 in
    let clear : is_clear (state_of e.before u).mark ≡ true = known g u e.before legal1 (Submit record { 0 = u } number) e.submit.answer _ refl
    (first.answers ∙ ap (λ d. answer_of d (state_of e.before (urb_of d)) (line_of g e.before (end_of d))) e.submits) refl e.accepts in
    let none : settled_since e.before u ≡ [] = sym (mark_is_settled g u e.before legal1) ∙ clear_codes (state_of e.before u).mark clear in
    let no_give : NoneGives u (e.submit ∷ within) = (ap (is_give u) e.submits, e.none_gives) in
    let quiet : settled u (e.submit ∷ within) ≡ settled u within = ap (λ d. settling u d e.submit.answer ++ settled u within) e.submits in
    let all : settled_since h2 u ≡ settled u within = fold-append (λ (cs : List Code) y. settled_after u cs y.event y.answer) [] e.before (e.submit ∷ within)
    ∙ (ap (λ cs. fold (λ (ds : List Code) y. settled_after u ds y.event y.answer) cs (e.submit ∷ within)) none ∙ (settled_on u (e.submit ∷ within) [] no_give ∙ quiet)) in
    let marked : is_clear (state_of h2 u).mark ≡ false = (subst (May g h2 give.pass) e.gives last.may).2 in record {
      status = status_of (state_of h2 u).mark;
      answers = last.answers ∙ ap (λ d. answer_of d (state_of h2 (urb_of d)) (line_of g h2 (end_of d))) e.gives;
      only = sym all ∙ (sym (mark_is_settled g u h2 legal2) ∙ one_code (state_of h2 u).mark marked);
    }
