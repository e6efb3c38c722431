-- A Claim answers the last Rest of its URB, and no Claim stands between the two.
use Rattle.std.proofs.Common.{◌≡◌, ℕ, Bool, true, false, cond, eqb, List, [], ◌∷◌, ◌++◌, sym, refl, ap, ◌∙◌, subst, eqb-true, append_assoc, Option, Some}
use Rattle.usb_types.specs.declared.urb.UrbId.{UrbId}
use Rattle.usb_machine.specs.declared.event.Event.{Event}
use Rattle.usb_machine.specs.declared.event.Event.TheVariants.{Submit, Link, Take, Mark, Finish, Give, Rest, End, Reject, Withdraw, Quiet, Claim, Flag, Unflag}
use Rattle.usb_machine.specs.declared.event.Answer.TheVariants.{Number}
use Rattle.usb_machine.specs.declared.state.Mark.TheVariants.{Clear, Unlinked, Finished}
use Rattle.usb_machine.specs.declared.entry.Entry.{Entry}
use Rattle.usb_machine.specs.declared.state.UrbState.{UrbState}
use Rattle.usb_machine.specs.State.{after, accepted, unlinks, finishes, answer_of}
use Rattle.usb_machine.specs.History.{Machine, state_of, is_of, line_of}
use Rattle.usb_machine.specs.Legal.{urb_of, end_of, IsLegal}
use Rattle.usb_machine.specs.Laws.{is_rest_or_claim, NoneRestsOrClaims, EndsWithRest}
use Rattle.usb_machine.proofs.Steps.{state_of-snoc}
use Rattle.usb_machine.proofs.Prefixes.{follows_before}
use Rattle.usb_machine.proofs.Ends.{by_end}

none_more : (u : ℕ) (xs : List Entry) (x : Entry) → NoneRestsOrClaims u xs → is_rest_or_claim u x.event ≡ false → NoneRestsOrClaims u (xs ++ x ∷ [])
none_more u [] x all e = (e, tt)
none_more u (y ∷ xs) x all e = (all.0, none_more u xs x all.1 e)

abbrev Rests : ℕ → List Entry → Option ℕ → Type 0
Rests u h rest = (n : ℕ) → rest ≡ Some n → EndsWithRest h u n

same_rest : (b : Bool) (t s : UrbState) → t.rest ≡ s.rest → (cond b t s).rest ≡ s.rest
same_rest true t s e = e
same_rest false t s e = refl

module _ (u : ℕ) (h : List Entry) (x : Entry) (old : Rests u h (state_of h u).rest) where
  goes_on : (b : Bool) → is_rest_or_claim u x.event ≡ false → (t : UrbState) → t.rest ≡ (state_of h u).rest → Rests u (h ++ x ∷ []) (cond b t (state_of h u)).rest
  goes_on b off t e n is = let o = old n (sym (same_rest b t (state_of h u) e) ∙ is) in record {
    before = o.before;
    rest = o.rest;
    behind = o.behind ++ x ∷ [];
    parts = ap (λ xs. xs ++ x ∷ []) o.parts ∙ append_assoc o.before (o.rest ∷ o.behind) (x ∷ []);
    rests = o.rests;
    none = none_more u o.behind x o.none off;
  }

  either : (b c : Bool) → is_rest_or_claim u x.event ≡ false → (t : UrbState) → t.rest ≡ (state_of h u).rest → Rests u (h ++ x ∷ []) (cond b (cond c t (state_of h u)) (state_of h u)).rest
  either b c off t e = goes_on b off (cond c t (state_of h u)) (same_rest c t (state_of h u) e)

  rested : (v : UrbId) (k : ℕ) → x.event ≡ Rest v k → (b : Bool) → eqb v.0 u ≡ b → Rests u (h ++ x ∷ []) (cond b (after (Rest v k) x.answer (state_of h u)) (state_of h u)).rest
  rested v k e false off = goes_on false (ap (is_rest_or_claim u) e ∙ off) (state_of h u) refl
  rested v k e true is = λ n j. let same : k ≡ n = cc (j) in
      record { before = h; rest = x; behind = []; parts = refl; rests = e ∙ (ap (λ w. Rest record { 0 = w } k) (eqb-true v.0 u is) ∙ ap (Rest record { 0 = u }) same); none = tt }

  claimed : (v : UrbId) → x.event ≡ Claim v → (b : Bool) → eqb v.0 u ≡ b → Rests u (h ++ x ∷ []) (cond b (after (Claim v) x.answer (state_of h u)) (state_of h u)).rest
  claimed v e false off = goes_on false (ap (is_rest_or_claim u) e ∙ off) (state_of h u) refl
  claimed v e true is = λ n j. absurd (cc (j))

  rests_after : (e : Event) → x.event ≡ e → Rests u (h ++ x ∷ []) (cond (is_of u e) (after e x.answer (state_of h u)) (state_of h u)).rest
  rests_after (Rest v k) e = rested v k e (eqb v.0 u) refl
  rests_after (Claim v) e = claimed v e (eqb v.0 u) refl
  rests_after (Submit v k) e = either (eqb v.0 u) (accepted x.answer) (ap (is_rest_or_claim u) e) (record (state_of h u) { queued = true; mark = Clear }) refl
  rests_after (Mark v w) e = either (eqb v.0 u) (unlinks x.answer) (ap (is_rest_or_claim u) e) (record (state_of h u) { mark = Unlinked w }) refl
  rests_after (Finish v c) e = either (eqb v.0 u) (finishes x.answer) (ap (is_rest_or_claim u) e) (record (state_of h u) { mark = Finished c }) refl
  rests_after (Take d) e = goes_on false (ap (is_rest_or_claim u) e) (state_of h u) refl
  rests_after (Link v) e = goes_on (eqb v.0 u) (ap (is_rest_or_claim u) e) (state_of h u) refl
  rests_after (Give v) e = goes_on (eqb v.0 u) (ap (is_rest_or_claim u) e) (after (Give v) x.answer (state_of h u)) refl
  rests_after (End v) e = goes_on (eqb v.0 u) (ap (is_rest_or_claim u) e) (after (End v) x.answer (state_of h u)) refl
  rests_after (Reject v) e = goes_on (eqb v.0 u) (ap (is_rest_or_claim u) e) (after (Reject v) x.answer (state_of h u)) refl
  rests_after (Withdraw v) e = goes_on (eqb v.0 u) (ap (is_rest_or_claim u) e) (after (Withdraw v) x.answer (state_of h u)) refl
  rests_after (Quiet v) e = goes_on (eqb v.0 u) (ap (is_rest_or_claim u) e) (state_of h u) refl
  rests_after (Flag v f) e = goes_on (eqb v.0 u) (ap (is_rest_or_claim u) e) (after (Flag v f) x.answer (state_of h u)) refl
  rests_after (Unflag v f) e = goes_on (eqb v.0 u) (ap (is_rest_or_claim u) e) (after (Unflag v f) x.answer (state_of h u)) refl

-- what rests with an URB is of its last Rest, which no Claim follows
pub rests_last : (u : ℕ) (h : List Entry) (n : ℕ) → (state_of h u).rest ≡ Some n → EndsWithRest h u n
rests_last u = by_end (λ h. Rests u h (state_of h u).rest) (λ n e. absurd (cc (e)))
    (λ h x old. subst (λ (s : UrbState). Rests u (h ++ x ∷ []) s.rest) (sym (state_of-snoc h x u)) (rests_after u h x old x.event refl))

pub claims_last : (g : Machine) (a : List Entry) (x : Entry) (b : List Entry) (u n : ℕ) → IsLegal g (a ++ x ∷ b) → x.event ≡ Claim record { 0 = u } → x.answer ≡ Number (Some n) → EndsWithRest a u n
claims_last g a x b u n legal e said =
    let f = follows_before g a x b legal in
    let given : x.answer ≡ Number (state_of a u).rest = f.answers ∙ ap (λ d. answer_of d (state_of a (urb_of d)) (line_of g a (end_of d))) e in
    let same : Number (state_of a u).rest ≡ Number (Some n) = sym given ∙ said in rests_last u a n (cc (same))
