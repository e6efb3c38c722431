-- What each call of the server leaves of what it knows.
use Rattle.std.proofs.Common.{◌≡◌, ◌≢◌, ℕ, zero, ◌<◌, ◌≤◌, Bool, true, false, cond, eqb, Option, Some, None, List, [], ◌∷◌, ◌++◌, length, sym, refl, ap, ◌∙◌, subst, arith, eq-eqb, ne_eqb, true≢false, length-append}
use Rattle.std.specs.Prelude.{slice_get, Contains, IfSome}
use Rattle.std.proofs.lemmas.List.Elements.{Contains-append_right}
use mathlib.Core.Logic.{dite}
use native.Mathlib.Decide.{ℕ_discrete}
use Rattle.usb_types.specs.declared.urb.UrbId.{UrbId}
use Rattle.usb_types.specs.declared.errno.Code.{Code}
use Rattle.usb_machine.specs.declared.entry.TheConstants.{SERVER}
use Rattle.usb_machine.specs.declared.entry.Entry.{Entry}
use Rattle.usb_machine.specs.declared.event.Event.{Event}
use Rattle.usb_machine.specs.declared.event.Event.TheVariants.{Submit, Take, Mark, Finish, Give}
use Rattle.usb_machine.specs.declared.event.Answer.{Answer}
use Rattle.usb_machine.specs.declared.event.Answer.TheVariants.{Urb, Truth}
use Rattle.usb_machine.specs.declared.state.UrbState.{UrbState}
use Rattle.usb_machine.specs.declared.state.Mark.TheVariants.{Clear, Unlinked, Finished}
use Rattle.usb_machine.specs.declared.transfer.Transfer.{Transfer}
use Rattle.usb_machine.specs.Shapes.{HasWindow, Accepts}
use Rattle.usb_machine.specs.State.{is_clear, after, accepted, unlinks, first_of}
use Rattle.usb_machine.specs.History.{Machine, home_of, state_of, is_of, after_entry, line_of, pending_of, pending_after, sent_of, without, taken}
use Rattle.usb_machine.specs.Legal.{IsLegal, empty, longer, May, IsFirst, times}
use Rattle.usb_machine.specs.Calls.{entry}
use Rattle.usb_machine.proofs.Mays.{first_times}
use Rattle.usb_machine.proofs.Rooms.{pending_has_room}
use Rattle.usb_machine.proofs.Places.{placed, bit, times-without, times-without_other}
use Rattle.usb_machine.proofs.Sent.{IsSent, queued_is_sent}
use Rattle.usb_machine.proofs.Steps.{state_of-snoc, pending_of-snoc, sent_of-snoc}
use Rattle.usb_machine.specs.Fresh.{Known, Sound, Fresh, Looked}
use Rattle.usb_machine.specs.HostCalls.{Took, Finds, IfMarked}
use Rattle.usb_machine.specs.declared.host_answers.Look.{Look}
use Rattle.usb_machine.specs.declared.host_answers.Look.TheVariants.{Clean, Marked}
use Rattle.usb_machine.specs.declared.state.Mark.{Mark as MarkState}
use Rattle.usb_types.specs.declared.urb.Why.{Why}
use Rattle.usb_machine.specs.Tokens.{is_finished}
use Rattle.usb_serve.specs.Knows.{Keeps, FinishesNone, FinishesOnly, Takes, Leaves}
use Rattle.usb_side.specs.Side.{side_knows}
use Rattle.usb_machine.proofs.AtHome.{times_contains, without_one, first_split}
use Rattle.usb_side.proofs.Knowing.{Behind, behind, looked_later, later_pending, later_marked, keeps, none, only, home, seen_pending}

bit_most : (b : Bool) → bit b ≤ 1
bit_most true = omega arith
bit_most false = omega arith

is_true : (b : Bool) → 0 < bit b → b ≡ true
is_true true l = refl
is_true false l = absurd (omega arith)

-- only a pending URB is finished
module _ (g : Machine) (u : ℕ) where
  abbrev fin : UrbState → Type 0
  fin s = is_finished s.mark ≡ true

  same_mark : (b : Bool) (s now : UrbState) → now.mark ≡ s.mark → fin (cond b now s) → fin s
  same_mark true s now e f = ap is_finished (sym e) ∙ f
  same_mark false s now e f = f

  step : (h : List Entry) (p d : ℕ) (e : Event) (a : Answer) (s : UrbState) (us : List ℕ) → d ≡ home_of g u → us ≡ pending_of g h d → May g h p e → (fin s → 0 < times u us) → fin (cond (is_of u e) (after e a s) s) → 0 < times u (pending_after g d us e a)
  step h p d (Submit v n) a s us hd is m old f = go (eqb v.0 u) (accepted a) f
    where
      go : (b c : Bool) → fin (cond b (cond c (record s { queued = true; mark = Clear }) s) s) → 0 < times u us
      go true true f = absurd (true≢false (sym f))
      go true false f = old f
      go false c f = old f
  step h p d (Mark v w) a s us hd is m old f = go (eqb v.0 u) (unlinks a) f
    where
      go : (b c : Bool) → fin (cond b (cond c (record s { mark = Unlinked w }) s) s) → 0 < times u us
      go true true f = absurd (true≢false (sym f))
      go true false f = old f
      go false c f = old f
  step h p d (Take t) a s us hd is m old f = let o = old f in go (eqb t d)
    where
      more : (ys : List ℕ) (xs : List ℕ) → times u xs ≤ times u (xs ++ ys)
      more ys [] = omega arith
      more ys (x ∷ xs) = let r = more ys xs in omega arith

      go : (b : Bool) → 0 < times u (cond b (us ++ taken a) us)
      go true = let o = old f in let l = more (taken a) us in omega arith
      go false = old f
  step h p d (Finish v c) a s us hd is m old f = dite (ℕ_discrete v.0 u)
      (λ same. let first : IsFirst u us = subst (IsFirst u) (sym (is ∙ ap (pending_of g h) hd)) (subst (λ w. IsFirst w (pending_of g h (home_of g w))) same m.1) in first_times u us first)
      (λ off. old (ap (λ b. is_finished (cond b (after (Finish v c) a s) s).mark) (sym (ne_eqb v.0 u off)) ∙ f))
  step h p d (Give v) a s us hd is m old f = dite (ℕ_discrete v.0 u)
      (λ same. absurd (true≢false (sym f ∙ ap (λ b. is_finished (cond b (after (Give v) a s) s).mark) (eq-eqb v.0 u same))))
      (λ off. let o : 0 < times u us = old (ap (λ b. is_finished (cond b (after (Give v) a s) s).mark) (sym (ne_eqb v.0 u off)) ∙ f) in go off o (eqb (home_of g v.0) d))
    where
      go : v.0 ≢ u → 0 < times u us → (b : Bool) → 0 < times u (cond b (without v.0 us) us)
      go off o true = let z = times-without_other u v.0 us off in omega arith
      go off o false = o
  step h p d e a s us hd is m old f = old (same_mark (is_of u e) s (after e a s) refl f)

  pub finished_pending : (h : List Entry) → IsLegal g h → is_finished (state_of h u).mark ≡ true → 0 < times u (pending_of g h (home_of g u))
  finished_pending _ empty f = absurd (true≢false (sym f))
  finished_pending _ (longer h x legal follows) f = subst (λ us. 0 < times u us) (sym (pending_of-snoc h x g (home_of g u)))
      (step h x.pass (home_of g u) x.event x.answer (state_of h u) (pending_of g h (home_of g u)) refl refl follows.may (finished_pending h legal) (sym (ap (λ (s : UrbState). is_finished s.mark) (state_of-snoc h x u)) ∙ f))

-- what a look found, where it found no mark, and where it read one
pub found_clean : (m : MarkState) (look : Look) (soon : Type 0) → look ≡ Clean → Finds m look soon → is_clear m ≡ true
found_clean m look soon is f = subst (λ l. Finds m l soon) is f

pub found_marked : (look : Look) (P : Type 0) (why : Why) → look ≡ Marked why → IfMarked look P → P
found_marked look P why is f = subst (λ l. IfMarked l P) is f

module _ (g : Machine) (p q : Known) (server : p.number ≡ SERVER) (sound : Sound g p) where
  -- a look
  pub look_keeps : Looked g p q → (m n : ℕ) (P Q : Type 0) (X Y : ℕ → Type 0) → Keeps (side_knows g p m P X) (side_knows g q n Q Y)
  look_keeps l m n P Q X Y = keeps g p server sound q.seen (looked_later g p q server l) q m n P Q X Y (λ e v a b. (refl, λ is. is))

  pub look_none : Looked g p q → (m n : ℕ) (P Q : Type 0) (X Y : ℕ → Type 0) → FinishesNone (side_knows g p m P X) (side_knows g q n Q Y)
  look_none l m n P Q X Y = none g p server sound q.seen (looked_later g p q server l) q m n P Q X Y (λ e v a b is. is)

  pub look_clean : Looked g p q → (u : ℕ) → is_clear (state_of q.seen u).mark ≡ true → is_clear (state_of p.seen u).mark ≡ false → ⊥
  look_clean l u clear marked = true≢false (sym clear ∙ later_marked g p server sound q.seen (looked_later g p q server l) u marked)

  module _ (x : Entry) (by : x.pass ≡ p.number) (f : Fresh g p q (x ∷ [])) where
    abbrev b : Behind g p q x
    b = behind g p q x server sound.own by f

    state_next : (v : ℕ) → state_of q.seen v ≡ after_entry v (state_of b.before v) x
    state_next v = ap (λ k. state_of k v) b.seen ∙ state_of-snoc b.before x v

    pending_next : (e : ℕ) → pending_of g q.mine e ≡ pending_after g e (pending_of g p.mine e) x.event x.answer
    pending_next e = ap (λ m. pending_of g m e) b.mine ∙ pending_of-snoc p.mine x g e

  -- a take
  pub take_keeps : (ep : ℕ) (r : Option (UrbId × Transfer)) (cause : Type 0) → Took g p q ep r cause → (m n : ℕ) (P Q : Type 0) (X Y : ℕ → Type 0) → Keeps (side_knows g p m P X) (side_knows g q n Q Y)
  take_keeps ep None cause t m n P Q X Y = look_keeps t.0 m n P Q X Y
  take_keeps ep (Some r) cause t m n P Q X Y =
      let x : Entry = entry p.number (Take ep) (Urb r.0) None in let k = behind g p q x server sound.own refl t.0 in
      keeps g p server sound k.before k.later q m n P Q X Y (λ e v a b. (ap (λ h. sent_of h v) k.seen ∙ sent_of-snoc k.before x v, λ is. ap (λ (s : UrbState). is_clear s.mark) (state_next x refl t.0 v) ∙ is))

  pub take_none : (ep : ℕ) (r : Option (UrbId × Transfer)) (cause : Type 0) → Took g p q ep r cause → (m n : ℕ) (P Q : Type 0) (X Y : ℕ → Type 0) → FinishesNone (side_knows g p m P X) (side_knows g q n Q Y)
  take_none ep None cause t m n P Q X Y = look_none t.0 m n P Q X Y
  take_none ep (Some r) cause t m n P Q X Y =
      let x : Entry = entry p.number (Take ep) (Urb r.0) None in let k = behind g p q x server sound.own refl t.0 in
      none g p server sound k.before k.later q m n P Q X Y (λ e v a b is. sym (ap (λ (s : UrbState). is_finished s.mark) (state_next x refl t.0 v)) ∙ is)

  pub take_taken : (ep : ℕ) (r : Option (UrbId × Transfer)) (cause : Type 0) → Took g p q ep r cause → (n : ℕ) (Q : Type 0) (Y : ℕ → Type 0) → IfSome r (λ r. Takes (side_knows g q n Q Y) ep r.0.0 r.1)
  take_taken ep None cause t n Q Y = tt
  take_taken ep (Some r) cause t n Q Y =
      let x : Entry = entry p.number (Take ep) (Urb r.0) None in let k = behind g p q x server sound.own refl t.0 in
      let u = r.0.0 in let h = k.before in
      let split = first_split (line_of g h ep) k.follows.may.1 in
      let answers : Urb r.0 ≡ Urb record { 0 = split.0 } = k.follows.answers ∙ ap first_of split.2 in
      let same : u ≡ split.0 = cc in
      let pl = placed g u h k.later.legal in let once = pl.once in
      let here : 0 < times u (line_of g h ep) = (let a = ap (times u) split.2 in let c = ap (λ b. cond {A = ℕ} b 1 0) (eq-eqb split.0 u (sym same)) in omega arith) in
      let at : ep ≡ home_of g u = dite (ℕ_discrete ep (home_of g u)) (λ is. is) (λ off. let z = pl.line_else ep off in absurd (omega arith)) in
      let line : times u (line_of g h (home_of g u)) ≡ times u (line_of g h ep) = ap (λ d. times u (line_of g h d)) (sym at) in
      let most = bit_most (state_of h u).queued in
      let sent : IsSent g u (sent_of h u) = queued_is_sent g u h k.later.legal (is_true (state_of h u).queued (omega arith)) in
      let now : sent_of q.seen u ≡ sent_of h u = ap (λ l. sent_of l u) k.seen ∙ sent_of-snoc h x u in
      let both : Some r.1 ≡ Some sent.transfer = sym t.1 ∙ (now ∙ sent.is) in
      let is : r.1 ≡ sent.transfer = cc in
      record {
        window = subst HasWindow (sym is) sent.window;
        unmoved = ap (λ (t : Transfer). t.actual) is ∙ sent.actual;
        fits = subst (λ d. Accepts (slice_get g.layout.shapes d) r.1) (sym at) (subst (Accepts (slice_get g.layout.shapes (home_of g u))) (sym is) sent.taken);
        sent = t.1;
        unfinished = λ f. (let l = finished_pending g u h k.later.legal (sym (ap (λ (s : UrbState). is_finished s.mark) (state_next x refl t.0 u)) ∙ f) in absurd (omega arith));
        room = (let l = pending_has_room g h ep k.later.legal k.follows.may.1 in
            let a = ap length (later_pending g p server sound h k.later ep) in
            let c = ap length (pending_next x refl t.0 ep ∙ ap (λ b. cond b (pending_of g p.mine ep ++ u ∷ []) (pending_of g p.mine ep)) (eq-eqb ep ep refl)) in
            let d = length-append (pending_of g p.mine ep) (u ∷ []) in omega arith);
      }

  -- a finish
  module _ (u : UrbId) (code : Code) (done : Bool) (f : Fresh g p q (entry p.number (Finish u code) (Truth done) None ∷ [])) where
    abbrev y : Entry
    y = entry p.number (Finish u code) (Truth done) None

    abbrev k : Behind g p q y
    k = behind g p q y server sound.own refl f

    answers : done ≡ is_clear (state_of k.before u.0).mark
    answers = let a : Truth done ≡ Truth (is_clear (state_of k.before u.0).mark) = k.follows.answers in cc

    marked : (v : ℕ) → is_clear (state_of k.before v).mark ≡ false → is_clear (state_of q.seen v).mark ≡ false
    marked v is = ap (λ (s : UrbState). is_clear s.mark) (state_next y refl f v) ∙ go (eqb u.0 v) done
      where
        go : (b c : Bool) → is_clear (cond b (cond c (record (state_of k.before v) { mark = Finished code }) (state_of k.before v)) (state_of k.before v)).mark ≡ false
        go true true = refl
        go true false = is
        go false c = is

    pub finish_unmarked : done ≡ true → is_clear (state_of p.seen u.0).mark ≡ false → ⊥
    finish_unmarked is stood = true≢false (sym is ∙ (answers ∙ later_marked g p server sound k.before k.later u.0 stood))

    pub finish_keeps : (m n : ℕ) (P Q : Type 0) (X Y : ℕ → Type 0) → Keeps (side_knows g p m P X) (side_knows g q n Q Y)
    finish_keeps m n P Q X Y = keeps g p server sound k.before k.later q m n P Q X Y (λ e v a b. (ap (λ h. sent_of h v) k.seen ∙ sent_of-snoc k.before y v, marked v))

    pub finish_only : (m n : ℕ) (P Q : Type 0) (X Y : ℕ → Type 0) → FinishesOnly u.0 (side_knows g p m P X) (side_knows g q n Q Y)
    finish_only m n P Q X Y = only g p server sound k.before k.later q m n P Q X Y u.0
        (λ v off is. sym (ap (λ (s : UrbState). is_finished s.mark) (state_next y refl f v ∙ ap (λ b. cond b (cond done (record (state_of k.before v) { mark = Finished code }) (state_of k.before v)) (state_of k.before v)) (ne_eqb u.0 v (λ i. off (sym i))))) ∙ is)

    pub finish_late : done ≡ false → (m n : ℕ) (P Q : Type 0) (X Y : ℕ → Type 0) → (is_clear (state_of q.seen u.0).mark ≡ false) × FinishesNone (side_knows g p m P X) (side_knows g q n Q Y)
    finish_late late m n P Q X Y = (marked u.0 (sym answers ∙ late), none g p server sound k.before k.later q m n P Q X Y (λ e v a b is. go v (eqb u.0 v) done late (sym (ap (λ (s : UrbState). is_finished s.mark) (state_next y refl f v)) ∙ is)))
      where
        go : (v : ℕ) (b c : Bool) → c ≡ false → is_finished (cond b (cond c (record (state_of k.before v) { mark = Finished code }) (state_of k.before v)) (state_of k.before v)).mark ≡ true → is_finished (state_of k.before v).mark ≡ true
        go v true true no_ is = absurd (true≢false no_)
        go v true false no_ is = is
        go v false c no_ is = is

  -- a giveback
  module _ (u : UrbId) (a : Answer) (f : Fresh g p q (entry p.number (Give u) a None ∷ [])) where
    abbrev z : Entry
    z = entry p.number (Give u) a None

    abbrev j : Behind g p q z
    j = behind g p q z server sound.own refl f

    at : (d : ℕ) → pending_of g q.mine d ≡ cond (eqb (home_of g u.0) d) (without u.0 (pending_of g p.mine d)) (pending_of g p.mine d)
    at = pending_next z refl f

    once : (e : ℕ) → Contains (pending_of g p.mine e) u.0 → times u.0 (pending_of g p.mine e) ≤ 1
    once e c = let o = (placed g u.0 p.seen sound.legal).once in let l = bit_most (state_of p.seen u.0).queued in
        let is = ap (times u.0) (seen_pending g p server sound e) in let same = ap (λ d. times u.0 (pending_of g p.seen d)) (home g p server sound e u.0 c) in omega arith

    here : (e : ℕ) (xs ys : List ℕ) → pending_of g p.mine e ≡ xs ++ u.0 ∷ ys → pending_of g q.mine e ≡ xs ++ ys
    here e xs ys is = let c : Contains (pending_of g p.mine e) u.0 = subst (λ (us : List ℕ). Contains us u.0) (sym is) (Contains-append_right xs (u.0 ∷ ys) u.0 (zero, omega arith, refl)) in
        at e ∙ (ap (λ b. cond b (without u.0 (pending_of g p.mine e)) (pending_of g p.mine e)) (eq-eqb (home_of g u.0) e (sym (home g p server sound e u.0 c)))
        ∙ (ap (without u.0) is ∙ without_one u.0 xs ys (subst (λ us. times u.0 us ≤ 1) is (once e c))))

    gone : ((d : ℕ) × Contains (pending_of g p.mine d) u.0) → (e : ℕ) → Contains (pending_of g q.mine e) u.0 → ⊥
    gone w e c = let l = times_contains (pending_of g q.mine e) u.0 c in let is = ap (times u.0) (at e) in
        dite (ℕ_discrete (home_of g u.0) e)
        (λ same. let m = ap (λ b. times u.0 (cond b (without u.0 (pending_of g p.mine e)) (pending_of g p.mine e))) (eq-eqb (home_of g u.0) e same) in let n = times-without u.0 (pending_of g p.mine e) in absurd (omega arith))
        (λ off. let m = ap (λ b. times u.0 (cond b (without u.0 (pending_of g p.mine e)) (pending_of g p.mine e))) (ne_eqb (home_of g u.0) e off) in
        let n = ap (times u.0) (seen_pending g p server sound e) in let o = (placed g u.0 p.seen sound.legal).pending_else e (λ i. off (sym i)) in absurd (omega arith))

    pub give_leaves : ((d : ℕ) × Contains (pending_of g p.mine d) u.0) → (m n : ℕ) (P Q : Type 0) (X Y : ℕ → Type 0) → Leaves (side_knows g p m P X) (side_knows g q n Q Y) u.0
    give_leaves w m n P Q X Y = record {
      here = here;
      elsewhere = λ e d c off. at d ∙ ap (λ b. cond b (without u.0 (pending_of g p.mine d)) (pending_of g p.mine d)) (ne_eqb (home_of g u.0) d (λ i. off (sym i ∙ sym (home g p server sound e u.0 c))));
      gone = gone w;
    }

    pub apart : ((d : ℕ) × Contains (pending_of g p.mine d) u.0) → (e v : ℕ) → Contains (pending_of g q.mine e) v → v ≢ u.0
    apart w e v c is = gone w e (subst (λ (k : ℕ). Contains (pending_of g q.mine e) k) is c)

    others : (v : ℕ) → v ≢ u.0 → state_of q.seen v ≡ state_of j.before v
    others v off = state_next z refl f v ∙ ap (λ b. cond b (after (Give u) a (state_of j.before v)) (state_of j.before v)) (ne_eqb u.0 v (λ i. off (sym i)))

    pub give_keeps : ((d : ℕ) × Contains (pending_of g p.mine d) u.0) → (m n : ℕ) (P Q : Type 0) (X Y : ℕ → Type 0) → Keeps (side_knows g p m P X) (side_knows g q n Q Y)
    give_keeps w m n P Q X Y = keeps g p server sound j.before j.later q m n P Q X Y (λ e v _ c. (ap (λ h. sent_of h v) j.seen ∙ sent_of-snoc j.before z v, λ is. ap (λ (s : UrbState). is_clear s.mark) (others v (apart w e v c)) ∙ is))

    pub give_none : ((d : ℕ) × Contains (pending_of g p.mine d) u.0) → (m n : ℕ) (P Q : Type 0) (X Y : ℕ → Type 0) → FinishesNone (side_knows g p m P X) (side_knows g q n Q Y)
    give_none w m n P Q X Y = none g p server sound j.before j.later q m n P Q X Y (λ e v _ c is. sym (ap (λ (s : UrbState). is_finished s.mark) (others v (apart w e v c))) ∙ is)
