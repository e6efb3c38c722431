-- A transfer that no handler sent on begins at the first byte of its buffer when it comes back.
use Rattle.std.proofs.Common.{ℕ, ◌≡◌, ◌≢◌, Bool, true, false, cond, eqb, Option, Some, None, List, [], ◌∷◌, ◌++◌, length, refl, sym, ap, ◌∙◌, subst, append_assoc, append-nil, eq-eqb, true≢false}
use Rattle.std.specs.List.{flat_map}
use Rattle.std.proofs.lemmas.List.Concat.{flat_map-cons}
use Rattle.std.proofs.lemmas.Grind.{flat_map-append}
use mathlib.Core.Logic.{dite}
use native.Mathlib.Decide.{ℕ_discrete}
use Rattle.usb_types.specs.declared.errno.Code.TheVariants.{Zero, Fault}
use Rattle.usb_types.specs.declared.urb.UrbId.{UrbId}
use Rattle.usb_machine.specs.declared.entry.TheConstants.{SERVER}
use Rattle.usb_machine.specs.declared.event.Event.{Event}
use Rattle.usb_machine.specs.declared.event.Event.TheVariants.{Submit, Give, End}
use Rattle.usb_machine.specs.declared.event.Answer.{Answer}
use Rattle.usb_machine.specs.declared.transfer.Transfer.{Transfer}
use Rattle.usb_machine.specs.declared.entry.Entry.{Entry}
use Rattle.usb_machine.specs.State.{accepted, answer_of}
use Rattle.usb_machine.specs.History.{state_of, line_of}
use Rattle.usb_machine.specs.Parts.{part_of}
use Rattle.usb_machine.specs.Calls.{plain_entry}
use Rattle.usb_machine.specs.Legal.{IsLegal, urb_of, end_of}
use Rattle.usb_machine.proofs.Places.{by_test}
use Rattle.usb_machine.proofs.Marks.{accepts_open}
use Rattle.usb_machine.proofs.Prefixes.{legal_before}
use Rattle.usb_scene.specs.declared.scene.Scene.{Scene}
use Rattle.usb_trace.specs.declared.rows.Outcome.{Outcome}
use Rattle.usb_trace.specs.declared.rows.Outcome.TheVariants as outcome
use Rattle.usb_trace.specs.Plan.{machine_of, question_at}
use Rattle.usb_trace.specs.Run.{CallRecord, Giveback, IsRun, moved_in, resent, handled_by, handler_entries, given_entries, giveback_entries, episode_of}
use Rattle.usb_trace.proofs.AskedEach.{asked_each}
use Rattle.usb_trace.proofs.OneStatus.{IsOut, IsGiveAt, at as give_of, legal as legal_at, out as out_of, first as first_at, carries as carries_at}
use Rattle.usb_trace.proofs.Carrying.{first_of, carried_after, carry, carried_of, carry-append, stays, leaves, other_gives, is_carried, stands, by_both}
use Rattle.usb_trace.proofs.Beginning.{Begins, AllBegin, AllBegin-append, submit_begins, parts_begin, in_part, asking_begins}

abbrev pub IsFromZero : Option Transfer → Type 0
IsFromZero None = Unit {0}
IsFromZero (Some t) = t.from ≡ 0

-- while nothing is sent on, what the server submitted begins at the first byte
carry_zero : (u : ℕ) (c : Option Transfer) (xs : List Entry) → IsFromZero c → AllBegin u xs → IsFromZero (carry u c xs)
carry_zero u c [] zero all = zero
carry_zero u c (x ∷ xs) zero all = carry_zero u (carried_after u c x.pass x.event x.answer x.carried) xs (go x.event x.carried all.0) all.1
  where
    joined : (c d : Option Transfer) → IsFromZero c → IsFromZero d → IsFromZero (first_of c d)
    joined None d zero is = is
    joined (Some t) d zero is = zero

    submitted : (b f : Bool) (d : Option Transfer) → (b ≡ true → IsFromZero d) → IsFromZero (cond b (cond f (first_of c d) c) c)
    submitted true true d is = joined c d zero (is refl)
    submitted true false d is = zero
    submitted false f d is = zero

    begins : (v : UrbId) (n : ℕ) (d : Option Transfer) → v.0 ≡ u → Begins u (Submit v n) x.answer d → accepted x.answer ≡ true → IsFromZero d
    begins v n None same is ok = tt
    begins v n (Some t) same is ok = is same ok

    given : (b : Bool) → IsFromZero (cond b None c)
    given true = tt
    given false = zero

    go : (e : Event) (d : Option Transfer) → Begins u e x.answer d → IsFromZero (carried_after u c x.pass e x.answer d)
    go (Submit v n) d is = by_test v.0 u (λ b. IsFromZero (cond b (cond (accepted x.answer) (cond (eqb x.pass SERVER) (first_of c d) c) c) c))
        (λ same. submitted (accepted x.answer) (eqb x.pass SERVER) d (begins v n d same is))
        (λ _. zero)
    go (Give v) d is = given (eqb v.0 u)
    go _ d is = zero

-- the outcome sends nothing on with URB u
abbrev IsOff : ℕ → ℕ → Outcome → Type 0
IsOff u v (outcome.Again Zero) = v ≢ u
IsOff u v (outcome.Again (Fault e)) = Unit {0}
IsOff u v outcome.Rest = Unit {0}
IsOff u v (outcome.Asked code) = Unit {0}

off_any : (u v : ℕ) (o : Outcome) → v ≢ u → IsOff u v o
off_any u v (outcome.Again Zero) off = off
off_any u v (outcome.Again (Fault e)) off = tt
off_any u v outcome.Rest off = tt
off_any u v (outcome.Asked code) off = tt

-- what a giveback leaves of its URB's next transfer
abbrev pub Leaves : Scene → Giveback → Outcome → Option Transfer → Type 0
Leaves s p (outcome.Again Zero) c = c ≡ Some (resent s p)
Leaves s p (outcome.Again (Fault e)) c = IsFromZero c
Leaves s p outcome.Rest c = IsFromZero c
Leaves s p (outcome.Asked code) c = IsFromZero c

abbrev pub IsLeft : Scene → Option Giveback → Option Transfer → Type 0
IsLeft s None c = IsFromZero c
IsLeft s (Some p) c = Leaves s p p.outcome c

module _ (s : Scene) (u : ℕ) (r : Giveback) where
  abbrev again : Transfer
  again = resent s r

  handled_begins : (o : Outcome) → IsOff u r.urb o → AllBegin u (handled_by s r.urb (moved_in s r) again (question_at s r.urb) o)
  handled_begins outcome.Rest off = (tt, tt)
  handled_begins (outcome.Again Zero) off = (λ same ok. absurd (off same), (tt, tt))
  handled_begins (outcome.Again (Fault e)) off = (λ same ok. absurd (true≢false (sym ok)), (tt, tt))
  handled_begins (outcome.Asked c) off =
      (tt, asked_each s (AllBegin u) (question_at s r.urb) c tt (λ a is none. submit_begins u SERVER a.urb a.transfer c (asking_begins s r.urb a is)))

  handler_begins : IsOff u r.urb r.outcome → AllBegin u (handler_entries s r)
  handler_begins off = AllBegin-append u (handled_by s r.urb (moved_in s r) again (question_at s r.urb) r.outcome) (plain_entry SERVER (End record { 0 = r.urb }) ∷ []) (handled_begins r.outcome off) (tt, tt)

  back_begins : IsOff u r.urb r.outcome → AllBegin u (giveback_entries s r)
  back_begins off = AllBegin-append u (given_entries r.urb r.status r.finished) (handler_entries s r) (go r.finished) (handler_begins off)
    where
      go : (b : Bool) → AllBegin u (given_entries r.urb r.status b)
      go true = (tt, (tt, tt))
      go false = (tt, tt)

  module _ (c : Option Transfer) where
    own_carry : r.urb ≡ u → carry u c (giveback_entries s r) ≡ carry u None (handler_entries s r)
    own_carry same = go r.finished
      where
        go : (b : Bool) → carry u c (given_entries r.urb r.status b ++ handler_entries s r) ≡ carry u None (handler_entries s r)
        go true = ap (λ b. carry u (cond b None c) (handler_entries s r)) (eq-eqb r.urb u same)
        go false = ap (λ b. carry u (cond b None c) (handler_entries s r)) (eq-eqb r.urb u same)

    -- a giveback of the URB
    pub left_own : r.urb ≡ u → IsLeft s (Some r) (carry u c (giveback_entries s r))
    left_own same = go r.outcome refl
      where
        quiet : IsOff u r.urb r.outcome → IsFromZero (carry u c (giveback_entries s r))
        quiet off = subst IsFromZero (sym (own_carry same)) (carry_zero u None (handler_entries s r) tt (handler_begins off))

        go : (o : Outcome) → r.outcome ≡ o → Leaves s r o (carry u c (giveback_entries s r))
        go (outcome.Again Zero) is = ap (λ v. carry v c (giveback_entries s r)) (sym same) ∙ leaves s r is c
        go (outcome.Again (Fault e)) is = quiet (subst (IsOff u r.urb) (sym is) tt)
        go outcome.Rest is = quiet (subst (IsOff u r.urb) (sym is) tt)
        go (outcome.Asked code) is = quiet (subst (IsOff u r.urb) (sym is) tt)

  weaker : (o : Option Giveback) (c : Option Transfer) → IsLeft s o None → IsFromZero c → IsLeft s o c
  weaker None c old zero = zero
  weaker (Some p) c old zero = go p.outcome old
    where
      go : (w : Outcome) → Leaves s p w None → Leaves s p w c
      go (outcome.Again Zero) is = cc
      go (outcome.Again (Fault e)) is = zero
      go outcome.Rest is = zero
      go (outcome.Asked code) is = zero

  -- and one of another
  pub left_other : (o : Option Giveback) (c : Option Transfer) → r.urb ≢ u → IsLeft s o c → IsLeft s o (carry u c (giveback_entries s r))
  left_other o (Some t) off old = subst (IsLeft s o) (sym (stays u t (giveback_entries s r) (other_gives s r u off))) old
  left_other o None off old = weaker o (carry u None (giveback_entries s r)) old (carry_zero u None (giveback_entries s r) tt (back_begins (off_any u r.urb r.outcome off)))

-- one giveback more
pub carried_on : (s : Scene) (u : ℕ) (before : List Giveback) (r : Giveback)
    → carried_of (flat_map (giveback_entries s) (before ++ r ∷ [])) u ≡ carry u (carried_of (flat_map (giveback_entries s) before) u) (giveback_entries s r)
carried_on s u before r =
    ap (λ l. carried_of l u) (flat_map-append (giveback_entries s) before (r ∷ [])
    ∙ ap (λ l. flat_map (giveback_entries s) before ++ l) (flat_map-cons (giveback_entries s) r [] ∙ append-nil (giveback_entries s r)))
    ∙ carry-append u None (flat_map (giveback_entries s) before) (giveback_entries s r)

module _ (s : Scene) (h : List Entry) (call_records : List CallRecord) (rounds : List Giveback) (run : IsRun s h call_records rounds)
    (front : List Giveback) (next : Giveback) (behind : List Giveback) (split : rounds ≡ front ++ next ∷ behind) where
  abbrev at : IsGiveAt [] h (length front) (episode_of next)
  at = give_of s h call_records rounds run (length front) next (stands s h call_records rounds run front next behind split)

  abbrev out : IsOut at.pre next.urb
  out = out_of s h call_records rounds run (length front) next (stands s h call_records rounds run front next behind split)

  carries : out.submit.carried ≡ Some next.sent
  carries = carries_at s h call_records rounds run (length front) next (stands s h call_records rounds run front next behind split)

  parts : h ≡ out.before ++ out.submit ∷ (out.between ++ at.give ∷ at.post)
  parts = at.parts ∙ (ap (λ l. l ++ at.give ∷ at.post) out.parts ∙ append_assoc out.before (out.submit ∷ out.between) (at.give ∷ at.post))

  before_legal : IsLegal (machine_of s) out.before
  before_legal = legal_before (machine_of s) out.before out.submit out.between
      (subst (IsLegal (machine_of s)) out.parts (legal_at s h call_records rounds run (length front) next (stands s h call_records rounds run front next behind split)))

  -- the submit found nothing of the URB
  was_none : carried_of out.before next.urb ≡ None
  was_none =
      let first = first_at s h call_records rounds run (length front) next (stands s h call_records rounds run front next behind split) in
      let says = first.answers ∙ ap (λ e. answer_of e (state_of out.before (urb_of e)) (line_of (machine_of s) out.before (end_of e))) out.submits in
      (is_carried (machine_of s) next.urb out.before before_legal).none (accepts_open (state_of out.before next.urb) (sym (ap accepted says) ∙ out.accepts)).queued

  by_server : out.submit.pass ≡ SERVER → carried_of at.pre next.urb ≡ Some next.sent
  by_server is =
      ap (λ l. carried_of l next.urb) out.parts
      ∙ (carry-append next.urb None out.before (out.submit ∷ out.between)
      ∙ (ap (λ c. carry next.urb (carried_after next.urb c out.submit.pass out.submit.event out.submit.answer out.submit.carried) out.between) was_none
      ∙ (ap (λ c. carry next.urb c out.between) (ap (λ e. carried_after next.urb None out.submit.pass e out.submit.answer out.submit.carried) out.submits
      ∙ (put out.submit.carried (eqb next.urb next.urb) (accepted out.submit.answer) (eqb out.submit.pass SERVER) (eq-eqb next.urb next.urb refl) out.accepts (eq-eqb out.submit.pass SERVER is) ∙ carries))
      ∙ stays next.urb next.sent out.between out.none_gives)))
    where
      put : (c : Option Transfer) (b d f : Bool) → b ≡ true → d ≡ true → f ≡ true → cond b (cond d (cond f c None) None) None ≡ c
      put c true true true i j k = refl
      put c true true false i j k = absurd (true≢false (sym k))
      put c true false f i j k = absurd (true≢false (sym j))
      put c false d f i j k = absurd (true≢false (sym i))

  by_other : out.submit.pass ≢ SERVER → next.sent.from ≡ 0
  by_other off = go out.submit.event out.submits out.submit.carried carries out.submit.answer out.accepts
      (in_part next.urb out.before out.submit (out.between ++ at.give ∷ at.post) (subst (λ l. AllBegin next.urb (part_of l out.submit.pass)) parts (parts_begin next.urb s h call_records rounds run out.submit.pass off)))
    where
      go : (e : Event) → e ≡ Submit record { 0 = next.urb } out.number → (c : Option Transfer) → c ≡ Some next.sent → (a : Answer) → accepted a ≡ true → Begins next.urb e a c → next.sent.from ≡ 0
      go e is c the a ok begins = (subst (λ c. Begins next.urb (Submit record { 0 = next.urb } out.number) a c) the (subst (λ e. Begins next.urb e a c) is begins)) refl ok

  -- what was not sent on begins at the first byte
  pub begins_at_first : IsFromZero (carried_of (flat_map (giveback_entries s) front) next.urb) → next.sent.from ≡ 0
  begins_at_first zero = dite (ℕ_discrete out.submit.pass SERVER)
      (λ is. subst IsFromZero (sym (by_both s h call_records rounds run front next behind split) ∙ by_server is) zero)
      (λ off. by_other off)
