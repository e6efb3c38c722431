-- What a call claimed came back with its URB, and was the last that rested there.
use Rattle.std.proofs.Common.{ℕ, zero, suc, ◌≡◌, ◌<◌, Bool, true, false, cond, eqb, fold, Option, Some, None, List, [], ◌∷◌, ◌++◌, length, refl, sym, ap, ◌∙◌, subst, arith, append_assoc, append-nil, eq-eqb, eqb-true, ⊎_elim}
use Rattle.std.specs.Prelude.{Contains, filter}
use Rattle.std.specs.List.{flat_map, zip}
use Rattle.std.proofs.lemmas.List.Concat.{flat_map-cons}
use Rattle.std.proofs.lemmas.List.Sums.{fold-append}
use Rattle.std.proofs.lemmas.List.Elements.{All-contains, Contains-append_left, Contains-append_right, Contains-append_cases}
use Rattle.usb_types.specs.declared.errno.Errno.{Errno}
use Rattle.usb_types.specs.declared.errno.Code.{Code}
use Rattle.usb_types.specs.declared.errno.Code.TheVariants.{Zero, Fault}
use Rattle.usb_machine.specs.declared.event.Event.{Event}
use Rattle.usb_machine.specs.declared.event.Event.TheVariants.{Rest, Claim}
use Rattle.usb_machine.specs.declared.event.Answer.TheVariants.{Number}
use Rattle.usb_machine.specs.declared.transfer.Transfer.{Transfer}
use Rattle.usb_machine.specs.declared.entry.Entry.{Entry}
use Rattle.usb_machine.specs.Shapes.{shape_fault}
use Rattle.usb_machine.specs.State.{answer_of}
use Rattle.usb_machine.specs.History.{Machine, state_of, line_of}
use Rattle.usb_machine.specs.Parts.{part_of}
use Rattle.usb_machine.specs.Legal.{May, IsLegal, urb_of, end_of}
use Rattle.usb_machine.specs.Laws.{is_rest_or_claim, NoneRestsOrClaims}
use Rattle.usb_machine.specs.HostCalls.{rested_of, rested_after, number_of}
use Rattle.usb_machine.proofs.Prefixes.{follows_before, legal_before}
use Rattle.usb_machine.proofs.Claims.{rests_last}
use Rattle.usb_scene.specs.declared.scene.Scene.{Scene}
use Rattle.usb_prepare.specs.Ends.{shape_at}
use Rattle.usb_prepare.specs.Layout.{home}
use Rattle.usb_trace.specs.declared.rows.HostCall.{HostCall}
use Rattle.usb_trace.specs.declared.rows.HostCall.TheVariants as host_call
use Rattle.usb_trace.specs.declared.rows.CallAnswer.{CallAnswer}
use Rattle.usb_trace.specs.declared.rows.CallAnswer.TheVariants as told
use Rattle.usb_trace.specs.declared.rows.Outcome.{Outcome}
use Rattle.usb_trace.specs.declared.rows.Outcome.TheVariants as outcome
use Rattle.usb_trace.specs.Plan.{machine_of, owner_of, pass_of, handlers_pass, DriverQuestion, question_at, host_call_of}
use Rattle.usb_trace.specs.Claims.{claim_at, claimed_after, numbers_of}
use Rattle.usb_trace.specs.Run.{CallRecord, submit_of, claimed_urbs, claims_in, IsDownAnswer, IsAnswered, IsMade, Giveback, moved_in, resent, asked_entries, handled_by, handler_entries, is_handlers, done_by, IsRun}
use Rattle.usb_trace.specs.RunLaws.{left_by, left_with, IsLastRest}
use Rattle.usb_trace.proofs.Claims.{rest_number}
use Rattle.usb_trace.proofs.Moves.{moved_same}
use Rattle.usb_trace.proofs.Resent.{resent_number}

-- elements of lists that were filtered or put together
module _ {X : Type 0} where
  filtered : (q : X → Bool) (xs : List X) (x : X) → Contains xs x → q x ≡ true → Contains (filter q xs) x
  filtered q [] x (k, l, is) pass = absurd (omega arith)
  filtered q (y ∷ xs) x (zero, l, is) pass = subst (λ b. Contains (cond b (y ∷ filter q xs) (filter q xs)) x) (sym (ap q is ∙ pass)) (zero, (omega arith), is)
  filtered q (y ∷ xs) x (suc k, l, is) pass = go (q y) (filtered q xs x (k, (omega arith), is) pass)
    where
      go : (b : Bool) → Contains (filter q xs) x → Contains (cond b (y ∷ filter q xs) (filter q xs)) x
      go true c = Contains-append_right (y ∷ []) (filter q xs) x c
      go false c = c

module _ {X Y : Type 0} where
  put_together : (f : X → List Y) (xs : List X) (x : X) (y : Y) → Contains xs x → Contains (f x) y → Contains (flat_map f xs) y
  put_together f [] x y (k, l, is) here = absurd (omega arith)
  put_together f (z ∷ xs) x y (zero, l, is) here = subst (λ l. Contains l y) (sym (flat_map-cons f z xs)) (Contains-append_left (f z) (flat_map f xs) y (subst (λ w. Contains (f w) y) (sym is) here))
  put_together f (z ∷ xs) x y (suc k, l, is) here =
      subst (λ l. Contains l y) (sym (flat_map-cons f z xs)) (Contains-append_right (f z) (flat_map f xs) y (put_together f xs x y (k, (omega arith), is) here))

  taken_apart : (f : X → List Y) (xs : List X) (y : Y) → Contains (flat_map f xs) y → (x : X) × (Contains xs x) × (Contains (f x) y)
  taken_apart f [] y (k, l, is) = absurd (omega arith)
  taken_apart f (z ∷ xs) y has = ⊎_elim
      (λ (first : Contains (f z) y). (z, (zero, (omega arith), refl), first))
      (λ (more : Contains (flat_map f xs) y). let r = taken_apart f xs y more in (r.0, Contains-append_right (z ∷ []) xs r.0 r.1, r.2))
      (Contains-append_cases (f z) (flat_map f xs) y (subst (λ l. Contains l y) (flat_map-cons f z xs) has))

-- what a pass claimed, it claimed by an entry
record IsClaim (p : ℕ) (before xs : List Entry) (w : ℕ × Option Transfer) : Type 0 where
  pub earlier : List Entry
  pub claim : Entry
  pub behind : List Entry
  pub parts : xs ≡ earlier ++ claim ∷ behind
  pub pass : claim.pass ≡ p
  pub claims : claim.event ≡ Claim record { 0 = w.0 }
  pub rested : w.1 ≡ rested_of (before ++ earlier) w.0

claims_one : (before : List Entry) (e : Event) (w : ℕ × Option Transfer) → Contains (claim_at before e) w → (e ≡ Claim record { 0 = w.0 }) × (w.1 ≡ rested_of before w.0)
claims_one before (Claim v) w (zero, l, is) = (ap (λ (w : ℕ × Option Transfer). Claim record { 0 = w.0 }) is, sym (ap (λ (w : ℕ × Option Transfer). w.1) is) ∙ ap (λ (w : ℕ × Option Transfer). rested_of before w.0) is)
claims_one before (Claim v) w (suc k, l, is) = absurd (omega arith)
claims_one before _ w (k, l, is) = absurd (omega arith)

claims_here : (p : ℕ) (before : List Entry) (x : Entry) (b : Bool) (w : ℕ × Option Transfer) → eqb x.pass p ≡ b → Contains (cond b (claim_at before x.event) []) w
    → (x.pass ≡ p) × (x.event ≡ Claim record { 0 = w.0 }) × (w.1 ≡ rested_of before w.0)
claims_here p before x true w e has = let one = claims_one before x.event w has in (eqb-true x.pass p e, one.0, one.1)
claims_here p before x false w e (k, l, is) = absurd (omega arith)

claim_entry : (p : ℕ) (before xs : List Entry) (w : ℕ × Option Transfer) → Contains (claimed_after p before xs) w → IsClaim p before xs w
claim_entry p before [] w (k, l, is) = absurd (omega arith)
claim_entry p before (x ∷ xs) w has = ⊎_elim
    (λ (first : Contains (cond (eqb x.pass p) (claim_at before x.event) []) w).
    let f = claims_here p before x (eqb x.pass p) w refl first in
    record { earlier = []; claim = x; behind = xs; parts = refl; pass = f.0; claims = f.1; rested = f.2 ∙ ap (λ l. rested_of l w.0) (sym (append-nil before)) })
    (λ (more : Contains (claimed_after p (before ++ x ∷ []) xs) w).
    let r = claim_entry p (before ++ x ∷ []) xs w more in
    record { earlier = x ∷ r.earlier; claim = r.claim; behind = r.behind; parts = ap (λ l. x ∷ l) r.parts; pass = r.pass; claims = r.claims; rested = r.rested ∙ ap (λ l. rested_of l w.0) (append_assoc before (x ∷ []) r.earlier) })
    (Contains-append_cases (cond (eqb x.pass p) (claim_at before x.event) []) (claimed_after p (before ++ x ∷ []) xs) w has)

-- what rests stays while nothing is rested or claimed
left_alone : (u : ℕ) (t : Option Transfer) (e : Event) (c : Option Transfer) → is_rest_or_claim u e ≡ false → rested_after u t e c ≡ t
left_alone u t (Rest v n) c is = ap (λ b. cond b c t) is
left_alone u t (Claim v) c is = ap (λ b. cond b None t) is
left_alone u t _ c is = refl

still_rests : (u : ℕ) (xs : List Entry) (t : Option Transfer) → NoneRestsOrClaims u xs → fold (λ (t : Option Transfer) x. rested_after u t x.event x.carried) t xs ≡ t
still_rests u [] t none = refl
still_rests u (x ∷ xs) t none = ap (λ (t : Option Transfer). fold (λ (t : Option Transfer) x. rested_after u t x.event x.carried) t xs) (left_alone u t x.event x.carried none.0) ∙ still_rests u xs t none.1

module _ (s : Scene) (h : List Entry) (call_records : List CallRecord) (rounds : List Giveback) (run : IsRun s h call_records rounds) (d : CallRecord) (made : Contains call_records d) where
  abbrev g : Machine
  g = machine_of s

  abbrev p : ℕ
  p = pass_of s d.thread

  is_made : IsMade s d
  is_made = All-contains (IsMade s) call_records d run.told made

  module _ (u : ℕ) (t : Transfer) (claims : Contains (claims_in s d) (u, Some t)) where
    claim : IsClaim p [] h (u, Some t)
    claim = claim_entry p [] h (u, Some t) (subst (λ l. Contains l (u, Some t)) (sym (run.claims d.thread is_made.thread))
        (put_together (claims_in s) (done_by d.thread call_records) d (u, Some t) (filtered (λ c. eqb c.thread d.thread) call_records d made (eq-eqb d.thread d.thread refl)) claims))

    legal : IsLegal g claim.earlier
    legal = legal_before g claim.earlier claim.claim claim.behind (subst (IsLegal g) claim.parts run.legal)

    number : (state_of claim.earlier u).rest ≡ Some t.number
    number = rest_number g u claim.earlier legal ∙ ap number_of (sym claim.rested)

    pub was_last : IsLastRest h p u t
    was_last =
        let e = rests_last u claim.earlier t.number number in
        let x : Entry = claim.claim in
        let follows = follows_before g claim.earlier x claim.behind (subst (IsLegal g) claim.parts run.legal) in
        let step : Option Transfer → Entry → Option Transfer = λ t x. rested_after u t x.event x.carried in
        record {
          before = e.before;
          rest = e.rest;
          between = e.behind;
          claim = x;
          behind = claim.behind;
          parts = claim.parts ∙ (ap (λ l. l ++ x ∷ claim.behind) e.parts ∙ append_assoc e.before (e.rest ∷ e.behind) (x ∷ claim.behind));
          rests = e.rests;
          carries =
              sym (claim.rested ∙ (ap (λ l. rested_of l u) e.parts ∙ (fold-append step None e.before (e.rest ∷ e.behind)
              ∙ (still_rests u e.behind (rested_after u (rested_of e.before u) e.rest.event e.rest.carried) e.none
              ∙ (ap (λ event. rested_after u (rested_of e.before u) event e.rest.carried) e.rests ∙ ap (λ b. cond b e.rest.carried (rested_of e.before u)) (eq-eqb u u refl))))));
          none = e.none;
          claims = claim.claims;
          pass = claim.pass;
          answers = follows.answers ∙ (ap (λ e. answer_of e (state_of claim.earlier (urb_of e)) (line_of g claim.earlier (end_of e))) claim.claims ∙ ap Number number);
        }

-- what an entry rests is of this URB, and is this transfer
abbrev IsLeft : ℕ → Option Transfer → Event → Option Transfer → Type 0
IsLeft u o (Rest v n) c = (u ≡ v.0) × (o ≡ c)
IsLeft u o _ c = Unit {0}

abbrev AreLeft : ℕ → Option Transfer → List Entry → Type 0
AreLeft u o [] = Unit {0}
AreLeft u o (x ∷ xs) = IsLeft u o x.event x.carried × AreLeft u o xs

left_in : (u : ℕ) (o : Option Transfer) (xs : List Entry) (x : Entry) → AreLeft u o xs → Contains xs x → IsLeft u o x.event x.carried
left_in u o [] x are (k, l, is) = absurd (omega arith)
left_in u o (y ∷ xs) x are (zero, l, is) = subst (λ (x : Entry). IsLeft u o x.event x.carried) is are.0
left_in u o (y ∷ xs) x are (suc k, l, is) = left_in u o xs x are.1 (k, (omega arith), is)

AreLeft-append : (u : ℕ) (o : Option Transfer) (xs ys : List Entry) → AreLeft u o xs → AreLeft u o ys → AreLeft u o (xs ++ ys)
AreLeft-append u o [] ys is js = js
AreLeft-append u o (x ∷ xs) ys is js = (is.0, AreLeft-append u o xs ys is.1 js)

submit_left : (u : ℕ) (o : Option Transfer) (f : Option Errno) (p v : ℕ) (t : Transfer) (c : Code) → AreLeft u o (submit_of f p v t c)
submit_left u o (Some e) p v t c = tt
submit_left u o None p v t Zero = (tt, (tt, tt))
submit_left u o None p v t (Fault e) = (tt, tt)

asked_left : (s : Scene) (u : ℕ) (o : Option Transfer) (asking : Option DriverQuestion) (c : Code) → AreLeft u o (asked_entries s asking c)
asked_left s u o None c = tt
asked_left s u o (Some a) c = submit_left u o (shape_fault (shape_at s (home s a.urb)) a.transfer) (handlers_pass s) a.urb a.transfer c

handled_left : (s : Scene) (u : ℕ) (back again : Transfer) (asking : Option DriverQuestion) (o : Outcome) → AreLeft u (left_by back again o) (handled_by s u back again asking o)
handled_left s u back again asking outcome.Rest = ((refl, refl), tt)
handled_left s u back again asking (outcome.Again Zero) = (tt, (tt, tt))
handled_left s u back again asking (outcome.Again (Fault e)) = (tt, ((refl, refl), tt))
handled_left s u back again asking (outcome.Asked c) = ((refl, refl), asked_left s u (Some back) asking c)

handler_left : (s : Scene) (r : Giveback) → AreLeft r.urb (left_with s r) (handler_entries s r)
handler_left s r = AreLeft-append r.urb (left_with s r) (handled_by s r.urb (moved_in s r) (resent s r) (question_at s r.urb) r.outcome) _
    (handled_left s r.urb (moved_in s r) (resent s r) (question_at s r.urb) r.outcome) (tt, tt)

left_number : (s : Scene) (r : Giveback) (t : Transfer) (o : Outcome) → left_by (moved_in s r) (resent s r) o ≡ Some t → t.number ≡ r.sent.number
left_number s r t outcome.Rest is = let same : moved_in s r ≡ t = cc in sym (ap (λ (t : Transfer). t.number) same) ∙ (moved_same (shape_at s (home s r.urb)) r.sent r.replies).number
left_number s r t (outcome.Again Zero) is = cc
left_number s r t (outcome.Again (Fault e)) is =
    let same : resent s r ≡ t = cc in
    sym (ap (λ (t : Transfer). t.number) same) ∙ (resent_number (owner_of s r.urb) r.status (moved_in s r) ∙ (moved_same (shape_at s (home s r.urb)) r.sent r.replies).number)
left_number s r t (outcome.Asked c) is = let same : moved_in s r ≡ t = cc in sym (ap (λ (t : Transfer). t.number) same) ∙ (moved_same (shape_at s (home s r.urb)) r.sent r.replies).number

pub came_back : (s : Scene) (h : List Entry) (call_records : List CallRecord) (rounds : List Giveback) → IsRun s h call_records rounds → (d : CallRecord) → Contains call_records d → (u : ℕ) (t : Transfer)
    → Contains (claims_in s d) (u, Some t) → (r : Giveback) × (Contains rounds r) × (r.urb ≡ u) × (left_with s r ≡ Some t) × (t.number ≡ r.sent.number)
came_back s h call_records rounds run d made u t claims =
    let last = was_last s h call_records rounds run d made u t claims in
    let x : Entry = last.rest in
    let later : List Entry = last.between ++ last.claim ∷ last.behind in
    let follows = follows_before (machine_of s) last.before x later (subst (IsLegal (machine_of s)) last.parts run.legal) in
    let may : May (machine_of s) last.before x.pass (Rest record { 0 = u } t.number) = subst (May (machine_of s) last.before x.pass) last.rests follows.may in
    let there : Contains h x = subst (λ l. Contains l x) (sym last.parts) (Contains-append_right last.before (x ∷ later) x (zero, (omega arith), refl)) in
    let own : Contains (part_of h (handlers_pass s)) x = filtered (λ x. eqb x.pass (handlers_pass s)) h x there (eq-eqb x.pass (handlers_pass s) may.0) in
    let kept : Contains (filter (λ x. is_handlers x.event) (part_of h (handlers_pass s))) x = filtered (λ x. is_handlers x.event) (part_of h (handlers_pass s)) x own (ap is_handlers last.rests) in
    let from = taken_apart (handler_entries s) rounds x (subst (λ l. Contains l x) run.handlers kept) in
    let left : IsLeft from.0.urb (left_with s from.0) (Rest record { 0 = u } t.number) x.carried
    = subst (λ e. IsLeft from.0.urb (left_with s from.0) e x.carried) last.rests (left_in from.0.urb (left_with s from.0) (handler_entries s from.0) x (handler_left s from.0) from.2) in
    let kept_so = left.1 ∙ last.carries in (from.0, from.1, left.0, kept_so, left_number s from.0 t from.0.outcome kept_so)

-- a call that answers what rested claimed just that
one_claimed : (u : ℕ) (n : Option ℕ) (rests : List (Option Transfer)) → length rests ≡ 1 → numbers_of rests ≡ n ∷ [] → (v : ℕ) × (rest : Option Transfer) × (zip (u ∷ []) rests ≡ (v, rest) ∷ []) × (n ≡ number_of rest)
one_claimed u n [] few is = absurd (omega arith)
one_claimed u n (t ∷ []) few is = let same : number_of t ≡ n = cc in (u, t, refl, sym same)
one_claimed u n (t ∷ t2 ∷ more) few is = absurd (omega arith)

answer_told : (s : Scene) (d : CallRecord) (c : HostCall) (n : Option ℕ) → IsAnswered s d c (told.Buffer n) → length d.rests ≡ length (claimed_urbs s c (told.Buffer n))
    → (u : ℕ) × (rest : Option Transfer) × (zip (claimed_urbs s c (told.Buffer n)) d.rests ≡ (u, rest) ∷ []) × (n ≡ number_of rest)
answer_told s d (host_call.Kill u) n is all = one_claimed u n d.rests all is.1
answer_told s d (host_call.Poison u) n is all = one_claimed u n d.rests all is.1
answer_told s d (host_call.Unpoison u) n is all = cc
answer_told s d (host_call.Block u) n is all = cc
answer_told s d (host_call.Unblock u) n is all = cc
answer_told s d host_call.Serve n is all = cc
answer_told s d host_call.Up n is all = cc
answer_told s d host_call.Absent n is all = cc
answer_told s d host_call.Down n is all = go d.down is.0
  where
    go : (b : Bool) → IsDownAnswer b (told.Buffer n) → (u : ℕ) × (rest : Option Transfer) × (zip [] d.rests ≡ (u, rest) ∷ []) × (n ≡ number_of rest)
    go true is = cc
    go false is = cc
answer_told s d _ n is all = absurd is

pub numbers_told : (s : Scene) (h : List Entry) (call_records : List CallRecord) (rounds : List Giveback) → IsRun s h call_records rounds → (d : CallRecord) → Contains call_records d → (n : Option ℕ)
    → d.answer ≡ told.Buffer n → (u : ℕ) × (rest : Option Transfer) × (claims_in s d ≡ (u, rest) ∷ []) × (n ≡ number_of rest)
numbers_told s h call_records rounds run d made n said =
    let is = All-contains (IsMade s) call_records d run.told made in
    let r = answer_told s d (host_call_of s d.call) n (subst (IsAnswered s d (host_call_of s d.call)) said is.answered) (subst (λ a. length d.rests ≡ length (claimed_urbs s (host_call_of s d.call) a)) said is.claims) in
    (r.0, r.1, ap (λ a. zip (claimed_urbs s (host_call_of s d.call) a) d.rests) said ∙ r.2, r.3)
