-- What the server knows of the whole history from its own entries and from what it has seen.
use Rattle.std.proofs.Common.{◌≡◌, ◌≢◌, ◌⊎◌, inl, inr, ⊎_elim, ℕ, ◌+◌, ◌≤◌, Bool, true, false, cond, eqb, List, [], ◌∷◌, ◌++◌, length, sym, refl, ap, ◌∙◌, subst, arith, eqb-true, true≢false, length-append, fold, le_refl, le_trans}
use Rattle.std.proofs.lemmas.List.Sums.{fold-append}
use mathlib.Core.List.{IsPrefix}
use mathlib.Core.Logic.{dite}
use native.Mathlib.Decide.{ℕ_discrete}
use Rattle.usb_machine.specs.declared.event.Event.{Event}
use Rattle.usb_machine.specs.declared.event.Event.TheVariants.{Submit, Link, Take, Mark, Finish, Give, Rest, End, Reject, Withdraw, Quiet, Claim, Flag, Unflag}
use Rattle.usb_machine.specs.declared.state.Mark.TheVariants.{Clear, Unlinked, Finished}
use Rattle.usb_machine.specs.declared.event.Answer.{Answer}
use Rattle.usb_machine.specs.declared.entry.Entry.{Entry}
use Rattle.usb_machine.specs.History.{Machine}
use Rattle.usb_machine.specs.declared.state.UrbState.{UrbState}
use Rattle.usb_machine.specs.State.{after, is_zero, is_clear, finishes, refusal, accepted, unlinks, answer_of}
use Rattle.usb_machine.specs.History.{state_of, is_of, pending_of, pending_after, line_of}
use Rattle.usb_machine.specs.Parts.{part_of}
use Rattle.usb_machine.specs.Legal.{urb_of, end_of, May, IsLegal, empty, longer}
use Rattle.usb_machine.proofs.Steps.{state_of-snoc, pending_of-snoc, part_own, part_other}
use Rattle.usb_machine.proofs.Marks.{accepts_open, mark_of_queued}

-- the pending lists are those of the server's own part
pub pending_own : (g : Machine) (e : ℕ) (h : List Entry) → IsLegal g h → pending_of g h e ≡ pending_of g (part_of h 0) e
pending_own g e _ empty = refl
pending_own g e _ (longer h x legal f) = let old = pending_own g e h legal in dite (ℕ_discrete 0 x.pass)
    (λ is. pending_of-snoc h x g e ∙ ap (λ us. pending_after g e us x.event x.answer) old ∙ sym (pending_of-snoc (part_of h 0) x g e)
    ∙ ap (λ m. pending_of g m e) (sym (subst (λ q. part_of (h ++ x ∷ []) q ≡ part_of h q ++ x ∷ []) (sym is) (part_own h x))))
    (λ other. pending_of-snoc h x g e ∙ none x.event f.may (λ i. other (sym i)) ∙ old ∙ ap (λ m. pending_of g m e) (sym (part_other h x 0 other)))
  where
    none : (ev : Event) → May g h x.pass ev → x.pass ≢ 0 → pending_after g e (pending_of g h e) ev x.answer ≡ pending_of g h e
    none (Take d) m ne = absurd (ne m.0)
    none (Give u) m ne = absurd (ne m.0)
    none _ m ne = refl

cons_of : {A : Type 0} (x : A) (xs ys : List A) → xs ≡ ys → x ∷ xs ≡ x ∷ ys
cons_of x xs ys e = ap (λ l. x ∷ l) e

-- a beginning of a list with one more entry is the whole, or begins the list
pub prefix_last : (xs h : List Entry) (x : Entry) → IsPrefix xs (h ++ x ∷ []) → (xs ≡ h ++ x ∷ []) ⊎ IsPrefix xs h
prefix_last [] h x p = inr (h, refl)
prefix_last (y ∷ xs) [] x p = inl (short xs p.0 p.1)
  where
    short : (xs rest : List Entry) → y ∷ (xs ++ rest) ≡ x ∷ [] → y ∷ xs ≡ x ∷ []
    short [] rest e = let i : y ≡ x = cc (e) in ap (λ z. z ∷ []) i
    short (z ∷ xs) rest e = absurd (cc (e))
prefix_last (y ∷ xs) (z ∷ h) x p = let same : y ≡ z = cc (p.1) in let more : xs ++ p.0 ≡ h ++ x ∷ [] = cc (p.1) in
    ⊎_elim (λ e. inl (λ i. same i ∷ e i)) (λ (q : IsPrefix xs h). inr (q.0, λ i. same i ∷ q.1 i)) (prefix_last xs h x (p.0, more))

pub part_length : (xs h : List Entry) (q : ℕ) → IsPrefix xs h → length (part_of xs q) ≤ length (part_of h q)
part_length [] h q p = omega arith
part_length (y ∷ xs) [] q p = absurd (cc (p.1))
part_length (y ∷ xs) (z ∷ h) q p = let same : y ≡ z = cc (p.1) in let a = part_length xs h q (p.0, cc (p.1)) in go (eqb y.pass q) (eqb z.pass q) (ap (λ (e : Entry). eqb e.pass q) same) a
  where
    go : (b c : Bool) → b ≡ c → length (part_of xs q) ≤ length (part_of h q) → length (cond b (y ∷ part_of xs q) (part_of xs q)) ≤ length (cond c (z ∷ part_of h q) (part_of h q))
    go true true e a = omega arith
    go false false e a = a
    go true false e a = absurd (true≢false e)
    go false true e a = absurd (true≢false (sym e))

abbrev Marked : UrbState → Type 0
Marked s = is_clear s.mark ≡ false

marked_after : (e : Event) (a : Answer) (s : UrbState) → ((u : _) → e ≡ Give u → ⊥) → ((u : _) (n : ℕ) → e ≡ Submit u n → accepted a ≡ false) → Marked s → Marked (after e a s)
marked_after (Submit u n) a s give sub m = go (accepted a) (sub u n refl)
  where
    go : (b : Bool) → b ≡ false → Marked (cond b (record s { queued = true; mark = Clear }) s)
    go true e = absurd (true≢false e)
    go false e = m
marked_after (Mark u w) a s give sub m = go (unlinks a)
  where
    go : (b : Bool) → Marked (cond b (record s { mark = Unlinked w }) s)
    go true = refl
    go false = m
marked_after (Finish u c) a s give sub m = go (finishes a)
  where
    go : (b : Bool) → Marked (cond b (record s { mark = Finished c }) s)
    go true = refl
    go false = m
marked_after (Give u) a s give sub m = absurd (give u refl)
marked_after _ a s give sub m = m

-- a mark that the server has seen stands until its own Give
pub mark_stands : (g : Machine) (u : ℕ) (seen h : List Entry) → IsLegal g h → IsPrefix seen h → part_of seen 0 ≡ part_of h 0 → Marked (state_of seen u) → Marked (state_of h u)
mark_stands g u seen _ empty p same m = subst (λ l. Marked (state_of l u)) (none seen p) m
  where
    none : (xs : List Entry) → IsPrefix xs [] → xs ≡ []
    none [] p = refl
    none (y ∷ xs) p = absurd (cc (p.1))
mark_stands g u seen _ (longer h x legal f) p same m =
    ⊎_elim (λ e. subst (λ l. Marked (state_of l u)) e m)
    (λ (q : IsPrefix seen h). dite (ℕ_discrete 0 x.pass)
    (λ is. let short = part_length seen h 0 q in let long = ap length (same ∙ subst (λ k. part_of (h ++ x ∷ []) k ≡ part_of h k ++ x ∷ []) (sym is) (part_own h x)) in absurd (omega (arith, length-append (part_of h 0) (x ∷ []))))
    (λ other. let old = mark_stands g u seen h legal q (same ∙ part_other h x 0 other) m in
    subst Marked (sym (state_of-snoc h x u)) (step (is_of u x.event) refl (λ v i. other (sym (give v x.event i f.may))) old (mark_of_queued g u h legal))))
    (prefix_last seen h x p)
  where
    give : (v : _) (e : Event) → e ≡ Give v → May g h x.pass e → x.pass ≡ 0
    give v e i may = (subst (May g h x.pass) i may).0

    sub : (e : Event) → is_of u e ≡ true → x.answer ≡ answer_of e (state_of h (urb_of e)) (line_of g h (end_of e)) → Marked (state_of h u) → ((state_of h u).queued ≡ false → is_clear (state_of h u).mark ≡ true) → (v : _) (k : ℕ) → e ≡ Submit v k → accepted x.answer ≡ false
    sub e is a old marks v k i = go (accepted x.answer) refl
      where
        go : (b : Bool) → accepted x.answer ≡ b → b ≡ false
        go false _ = refl
        go true y = let here : v.0 ≡ u = eqb-true v.0 u (ap (is_of u) (sym i) ∙ is) in
            let z : is_zero (refusal (state_of h u)) ≡ true = ap (λ w. is_zero (refusal (state_of h w))) (sym here) ∙ (sym (ap accepted (a ∙ ap (λ d. answer_of d (state_of h (urb_of d)) (line_of g h (end_of d))) i)) ∙ y) in
            absurd (true≢false (sym (marks (accepts_open (state_of h u) z).queued) ∙ old))

    step : (b : Bool) → is_of u x.event ≡ b → ((v : _) → x.event ≡ Give v → ⊥) → Marked (state_of h u) → ((state_of h u).queued ≡ false → is_clear (state_of h u).mark ≡ true) → Marked (cond b (after x.event x.answer (state_of h u)) (state_of h u))
    step true e ng old marks = marked_after x.event x.answer (state_of h u) ng (sub x.event e f.answers old marks) old
    step false e ng old marks = old

-- how many Gives there are
abbrev pub give_after : ℕ → Event → ℕ
give_after n (Give u) = n + 1
give_after n _ = n

abbrev pub gives_of : List Entry → ℕ
gives_of h = fold (λ n x. give_after n x.event) 0 h

running_after : (e : Event) (a : Answer) (s : UrbState) (n : ℕ) → s.handlers ≤ n → (after e a s).handlers ≤ give_after n e
running_after (Submit u k) a s n l = go (accepted a)
  where
    go : (b : Bool) → (cond b (record s { queued = true; mark = Clear }) s).handlers ≤ n
    go true = l
    go false = l
running_after (Mark u w) a s n l = go (unlinks a)
  where
    go : (b : Bool) → (cond b (record s { mark = Unlinked w }) s).handlers ≤ n
    go true = l
    go false = l
running_after (Finish u c) a s n l = go (finishes a)
  where
    go : (b : Bool) → (cond b (record s { mark = Finished c }) s).handlers ≤ n
    go true = l
    go false = l
running_after (Give u) a s n l = omega arith
running_after (End u) a s n l = omega arith
running_after _ a s n l = l

more_gives : (n : ℕ) (e : Event) → n ≤ give_after n e
more_gives n (Give u) = omega arith
more_gives n _ = le_refl n

-- no more handlers of an URB run than the server made Gives
pub running_few : (g : Machine) (u : ℕ) (h : List Entry) → IsLegal g h → (state_of h u).handlers ≤ gives_of (part_of h 0)
running_few g u _ empty = omega arith
running_few g u _ (longer h x legal f) = let old = running_few g u h legal in let now = ap (λ (s : UrbState). s.handlers) (state_of-snoc h x u) in dite (ℕ_discrete 0 x.pass)
    (λ is. let mine : gives_of (part_of (h ++ x ∷ []) 0) ≡ give_after (gives_of (part_of h 0)) x.event
    = ap gives_of (subst (λ q. part_of (h ++ x ∷ []) q ≡ part_of h q ++ x ∷ []) (sym is) (part_own h x)) ∙ fold-append (λ n y. give_after n y.event) 0 (part_of h 0) (x ∷ []) in
    let step = by_server (is_of u x.event) old in omega arith)
    (λ other. let mine = ap gives_of (part_other h x 0 other) in let step = by_other (is_of u x.event) x.event (λ i. other (sym i)) f.may old in omega arith)
  where
    by_server : (b : Bool) → (state_of h u).handlers ≤ gives_of (part_of h 0) → (cond b (after x.event x.answer (state_of h u)) (state_of h u)).handlers ≤ give_after (gives_of (part_of h 0)) x.event
    by_server true l = running_after x.event x.answer (state_of h u) (gives_of (part_of h 0)) l
    by_server false l = le_trans l (more_gives (gives_of (part_of h 0)) x.event)

    by_other : (b : Bool) (e : Event) → x.pass ≢ 0 → May g h x.pass e → (state_of h u).handlers ≤ gives_of (part_of h 0) → (cond b (after e x.answer (state_of h u)) (state_of h u)).handlers ≤ gives_of (part_of h 0)
    by_other false e ne m l = l
    by_other true (Give v) ne m l = absurd (ne m.0)
    by_other true (Submit v k) ne m l = running_after (Submit v k) x.answer (state_of h u) _ l
    by_other true (Link v) ne m l = l
    by_other true (Take v) ne m l = l
    by_other true (Mark v w) ne m l = running_after (Mark v w) x.answer (state_of h u) _ l
    by_other true (Finish v w) ne m l = running_after (Finish v w) x.answer (state_of h u) _ l
    by_other true (Rest v k) ne m l = l
    by_other true (End v) ne m l = running_after (End v) x.answer (state_of h u) _ l
    by_other true (Reject v) ne m l = l
    by_other true (Withdraw v) ne m l = l
    by_other true (Quiet v) ne m l = l
    by_other true (Claim v) ne m l = l
    by_other true (Flag v k) ne m l = l
    by_other true (Unflag v k) ne m l = l
