-- Accepted Submits and Gives of an URB take turns.
use Rattle.std.proofs.Common.{◌≡◌, ℕ, ◌+◌, ◌<◌, Bool, true, false, ◌&&◌, cond, eqb, List, [], ◌∷◌, sym, refl, ap, ◌∙◌, subst, arith}
use Rattle.std.proofs.lemmas.List.Sums.{fold-append}
use Rattle.usb_machine.specs.declared.event.Event.{Event}
use Rattle.usb_machine.specs.declared.event.Event.TheVariants.{Submit, Link, Take, Mark, Finish, Give, Rest, End, Reject, Withdraw, Quiet, Claim, Flag, Unflag}
use Rattle.usb_machine.specs.declared.event.Answer.{Answer}
use Rattle.usb_machine.specs.declared.entry.Entry.{Entry}
use Rattle.usb_machine.specs.History.{Machine}
use Rattle.usb_machine.specs.declared.state.UrbState.{UrbState}
use Rattle.usb_machine.specs.State.{after, is_zero, refusal, accepted, unlinks, finishes, answer_of}
use Rattle.usb_machine.specs.History.{state_of, is_of, pending_of, line_of, home_of}
use Rattle.usb_machine.specs.Legal.{times, urb_of, end_of, May, IsLegal, empty, longer}
use Rattle.usb_machine.specs.Laws.{bit, Placed, submits, submits_after, gives, gives_after, ends, ends_after, TakesTurns}
use Rattle.usb_machine.proofs.Steps.{state_of-snoc}
use Rattle.usb_machine.proofs.Places.{placed, by_test}
use Rattle.usb_machine.proofs.Marks.{accepts_open}

module _ (u : ℕ) (s : UrbState) (a : Answer) (n k m : ℕ) (even : n ≡ k + bit s.queued) (run : k ≡ m + s.handlers) where
  abbrev Even : ℕ → ℕ → ℕ → UrbState → Type 0
  Even n k m s = (n ≡ k + bit s.queued) × (k ≡ m + s.handlers)

  abbrev After : Event → Type 0
  After e = Even (submits_after u n e a) (gives_after u k e) (ends_after u m e) (cond (is_of u e) (after e a s) s)

  abbrev Known : Event → Type 0
  Known (Submit v i) = v.0 ≡ u → accepted a ≡ true → s.queued ≡ false
  Known (Give v) = v.0 ≡ u → s.queued ≡ true
  Known (End v) = v.0 ≡ u → 0 < s.handlers
  Known _ = Unit {0}

  kept : (b : Bool) (t : UrbState) → t.queued ≡ s.queued → t.handlers ≡ s.handlers → Even n k m (cond b t s)
  kept true t q r = let e = ap bit q in (omega arith, omega arith)
  kept false t q r = (even, run)

  either : (b c : Bool) (t : UrbState) → t.queued ≡ s.queued → t.handlers ≡ s.handlers → Even n k m (cond b (cond c t s) s)
  either true true t q r = let e = ap bit q in (omega arith, omega arith)
  either true false t q r = (even, run)
  either false c t q r = (even, run)

  submitted : (b : Bool) (t : UrbState) → t.queued ≡ true → t.handlers ≡ s.handlers → (b ≡ true → s.queued ≡ false) → Even (cond b (n + 1) n) k m (cond b t s)
  submitted true t q r f = let e = ap bit q in let z = ap bit (f refl) in (omega arith, omega arith)
  submitted false t q r f = (even, run)

  turn : (e : Event) → Known e → After e
  turn (Submit v i) w = by_test v.0 u (λ t. Even (cond (t && accepted a) (n + 1) n) k m (cond t (after (Submit v i) a s) s)) (λ is. submitted (accepted a) _ refl refl (w is)) (λ _. (even, run))
  turn (Give v) w = by_test v.0 u (λ t. Even n (cond t (k + 1) k) m (cond t (after (Give v) a s) s)) (λ is. let z = ap bit (w is) in (omega arith, omega arith)) (λ _. (even, run))
  turn (End v) w = by_test v.0 u (λ t. Even n k (cond t (m + 1) m) (cond t (after (End v) a s) s)) (λ is. let l = w is in (even, omega arith)) (λ _. (even, run))
  turn (Mark v y) w = either (eqb v.0 u) (unlinks a) _ refl refl
  turn (Finish v y) w = either (eqb v.0 u) (finishes a) _ refl refl
  turn (Take e) w = (even, run)
  turn (Link v) w = kept (eqb v.0 u) s refl refl
  turn (Rest v i) w = kept (eqb v.0 u) (after (Rest v i) a s) refl refl
  turn (Reject v) w = kept (eqb v.0 u) (after (Reject v) a s) refl refl
  turn (Withdraw v) w = kept (eqb v.0 u) (after (Withdraw v) a s) refl refl
  turn (Quiet v) w = kept (eqb v.0 u) s refl refl
  turn (Claim v) w = kept (eqb v.0 u) (after (Claim v) a s) refl refl
  turn (Flag v f) w = kept (eqb v.0 u) (after (Flag v f) a s) refl refl
  turn (Unflag v f) w = kept (eqb v.0 u) (after (Unflag v f) a s) refl refl

module _ (g : Machine) (u : ℕ) (h : List Entry) (x : Entry) (pl : Placed g h u) (k m : ℕ) (even : k ≡ m + bit (state_of h u).queued) where
  known : (i : ℕ) (run : m ≡ i + (state_of h u).handlers) (e : Event) → May g h x.pass e → x.answer ≡ answer_of e (state_of h (urb_of e)) (line_of g h (end_of e)) → Known u (state_of h u) x.answer k m i even run e
  known i run (Submit v j) may a = λ (is : v.0 ≡ u) ok. (accepts_open (state_of h u) (ap (λ w. is_zero (refusal (state_of h w))) (sym is) ∙ (sym (ap accepted a) ∙ ok))).queued
  known i run (Give v) may a = λ (is : v.0 ≡ u). go (state_of h u).queued refl (subst (λ w. 0 < times w (pending_of g h (home_of g w))) is may.1)
    where
      go : (b : Bool) → (state_of h u).queued ≡ b → 0 < times u (pending_of g h (home_of g u)) → (state_of h u).queued ≡ true
      go true e l = e
      go false e l = let o = pl.once in let z = ap bit e in absurd (omega arith)
  known i run (End v) may a = λ (is : v.0 ≡ u). subst (λ w. 0 < (state_of h w).handlers) is may.1
  known i run _ may a = tt

pub takes_turns : (g : Machine) (u : ℕ) (h : List Entry) → IsLegal g h → TakesTurns h u
takes_turns g u _ empty = record { turns = refl; handlers = refl }
takes_turns g u _ (longer h x legal f) =
    let old = takes_turns g u h legal in
    let t = turn u (state_of h u) x.answer (submits h u) (gives h u) (ends h u) old.turns old.handlers x.event
    (known g u h x (placed g u h legal) (submits h u) (gives h u) old.turns (ends h u) old.handlers x.event f.may f.answers) in
    let a = fold-append (λ n y. submits_after u n y.event y.answer) 0 h (x ∷ []) in let b = fold-append (λ n y. gives_after u n y.event) 0 h (x ∷ []) in let c = fold-append (λ n y. ends_after u n y.event) 0 h (x ∷ []) in
    let q = ap (λ (s : UrbState). bit s.queued) (state_of-snoc h x u) in let r = ap (λ (s : UrbState). s.handlers) (state_of-snoc h x u) in
    let t0 = t.0 in let t1 = t.1 in record { turns = omega arith; handlers = omega arith }
