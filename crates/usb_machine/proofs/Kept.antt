-- While a pass keeps an URB, nothing stirs it.
use mathlib.Core.Logic.{dite}
use native.Mathlib.Decide.{ℕ_discrete}
use Rattle.std.proofs.Common.{◌≡◌, ◌≢◌, ◌⊎◌, inl, inr, ⊎_elim, ℕ, ◌+◌, ◌<◌, Bool, true, false, not, ◌&&◌, ◌||◌, cond, eqb, List, [], ◌∷◌, ◌++◌, fold, sym, refl, ap, ◌∙◌, subst, arith, eq-eqb, ne_eqb, eqb-true, true≢false}
use Rattle.usb_machine.specs.declared.event.Event.{Event}
use Rattle.usb_machine.specs.declared.event.Event.TheVariants.{Submit, Link, Take, Mark, Finish, Give, Rest, End, Reject, Withdraw, Quiet, Claim, Flag, Unflag}
use Rattle.usb_types.specs.declared.urb.Flag.{Flag as FlagName}
use Rattle.usb_types.specs.declared.urb.Flag.TheVariants.{Gone, Off, Down}
use Rattle.usb_machine.specs.declared.state.Flags.{Flags}
use Rattle.usb_machine.specs.declared.event.Answer.{Answer}
use Rattle.usb_machine.specs.declared.state.Mark.TheVariants.{Clear}
use Rattle.usb_machine.specs.declared.entry.Entry.{Entry}
use Rattle.usb_machine.specs.History.{Machine}
use Rattle.usb_machine.specs.declared.state.UrbState.{UrbState}
use Rattle.usb_machine.specs.State.{after, is_zero, refusal, accepted, unlinks, finishes, answer_of, first_of, with_flag}
use Rattle.usb_machine.specs.History.{state_of, is_of, home_of, line_of, pending_of}
use Rattle.usb_machine.specs.Parts.{owes, part_of, any_flag, holds_any, Held, held_of, held_after, nothing_held, keeps}
use Rattle.usb_machine.specs.Legal.{times, urb_of, end_of, May, IsLegal, empty, longer}
use Rattle.usb_machine.specs.Laws.{stirs, answers_urb, begins, goes_on, NoneStirs, IsKept}
use Rattle.usb_machine.proofs.Steps.{state_of-snoc, held_at, held_own, held_other}
use Rattle.usb_machine.proofs.Totals.{part_of_total}
use Rattle.usb_machine.proofs.Held.{rejects_are_held, flags_are_held, no_flag_or_hub, held_flags_stay, SetsNoFlag}
use Rattle.usb_machine.proofs.Places.{Placed, placed, bit}
use Rattle.usb_machine.proofs.Marks.{accepts_open}

pub fold_keeps : {A B : Type 0} (F : B → Type 0) (f : B → A → B) → ((b : B) (x : A) → F b → F (f b x)) → (a : B) (xs : List A) → F a → F (fold f a xs)
fold_keeps F f step a [] i = i
fold_keeps F f step a (x ∷ xs) i = fold_keeps F f step (f a x) xs (step a x i)

abbrev Backs : Held → Type 0
Backs d = d.kept ≡ true → holds_any d ≡ true

or_true : (b : Bool) → (b || true) ≡ true
or_true true = refl
or_true false = refl

raised : (f : FlagName) (d : Flags) → any_flag (with_flag f true d) ≡ true
raised Gone d = refl
raised Off d = or_true2 d.gone d.down
  where
    or_true2 : (b c : Bool) → ((b || true) || c) ≡ true
    or_true2 true c = refl
    or_true2 false c = refl
raised Down d = or_true (d.gone || d.off)

both_true : (a b : Bool) → (a && b) ≡ true → (a ≡ true) × (b ≡ true)
both_true true b e = (refl, e)
both_true false b e = absurd (true≢false (sym e))

while_backs : (a b : Bool) → (a && b) ≡ true → b ≡ true
while_backs a b e = (both_true a b e).1

backs_after : (d : Held) (e : Event) → Backs d → Backs (held_after d e)
backs_after d (Reject u) old k = ap (λ b. not b || any_flag d.flags) (ne_eqb (d.rejects + 1) 0 (λ i. absurd (omega arith)))
backs_after d (Withdraw u) old k = while_backs _ _ k
backs_after d (Flag u f) old k = ap (λ b. not (eqb d.rejects 0) || b) (raised f d.flags) ∙ or_true (not (eqb d.rejects 0))
backs_after d (Unflag u f) old k = while_backs _ _ k
backs_after d (Quiet u) old k = k
backs_after d _ old k = old k

pub kept_holds : (m : List Entry) (u : ℕ) → keeps m u ≡ true → holds_any (held_of m u) ≡ true
kept_holds m u = fold_keeps Backs (λ d x. cond (is_of u x.event) (held_after d x.event) d) (λ d x i. go (is_of u x.event) d x i) nothing_held m (λ k. absurd (true≢false (sym k)))
  where
    go : (b : Bool) (d : Held) (x : Entry) → Backs d → Backs (cond b (held_after d x.event) d)
    go true d x i = backs_after d x.event i
    go false d x i = i

-- no pass but the hub's holds a flag
flags_of_others : (g : Machine) (p u : ℕ) (h : List Entry) → p ≢ 1 → IsLegal g h → any_flag (held_of (part_of h p) u).flags ≡ false
flags_of_others g p u _ ne empty = refl
flags_of_others g p u _ ne (longer h x legal f) = let old = flags_of_others g p u h ne legal in dite (ℕ_discrete p x.pass)
    (λ is. ap (λ (k : Held). any_flag k.flags) (subst (λ q. held_of (part_of (h ++ x ∷ []) q) u ≡ held_at u (held_of (part_of h q) u) x) (sym is) (held_own h x u))
    ∙ ap any_flag (same (is_of u x.event) (held_of (part_of h p) u) (⊎_elim (λ k. k) (λ hub. absurd (ne (is ∙ hub))) (no_flag_or_hub g h x.pass x.event f.may))) ∙ old)
    (λ other. ap (λ (k : Held). any_flag k.flags) (held_other h x u p other) ∙ old)
  where
    same : (b : Bool) (d : Held) → SetsNoFlag x.event → (cond b (held_after d x.event) d).flags ≡ d.flags
    same true d k = held_flags_stay x.event d k
    same false d k = refl

-- what a pass holds keeps every Submit out
pub blocked : (g : Machine) (p u : ℕ) (h : List Entry) → IsLegal g h → p < g.passes → holds_any (held_of (part_of h p) u) ≡ true → is_zero (refusal (state_of h u)) ≡ false
blocked g p u h legal l any = go (is_zero (refusal (state_of h u))) refl
  where
    none : (d : Held) → d.rejects ≡ 0 → any_flag d.flags ≡ false → holds_any d ≡ false
    none d r f = ap (λ b. not b || any_flag d.flags) (eq-eqb d.rejects 0 r) ∙ f

    no_flag : (f : Flags) → f.gone ≡ false → f.off ≡ false → f.down ≡ false → any_flag f ≡ false
    no_flag f a b c = λ i. (a i || b i) || c i

    go : (b : Bool) → is_zero (refusal (state_of h u)) ≡ b → b ≡ false
    go false e = refl
    go true e = let o = accepts_open (state_of h u) e in let sum = rejects_are_held g u h legal in let most = part_of_total g.passes p (λ q. (held_of (part_of h q) u).rejects) l in let z = o.rejects in
        let flags : any_flag (held_of (part_of h p) u).flags ≡ false = dite (ℕ_discrete p 1)
        (λ is. ap (λ q. any_flag (held_of (part_of h q) u).flags) is ∙ (ap any_flag (flags_are_held g u h legal) ∙ no_flag (state_of h u).flags o.gone o.off o.down)) (λ ne. flags_of_others g p u h ne legal) in
        absurd (true≢false (sym any ∙ none (held_of (part_of h p) u) (omega arith) flags))

-- an event that comes while u is blocked, not queued and without handlers leaves it so
module _ (g : Machine) (u : ℕ) (h : List Entry) (q : ℕ) (pl : Placed g h u) (l : q < g.passes) (blocks : is_zero (refusal (state_of h u)) ≡ false) (idle : (state_of h u).queued ≡ false) (calm : (state_of h u).handlers ≡ 0) where
  abbrev Calm : Event → Answer → Bool → Type 0
  Calm e a b = (stirs u e a ≡ false) × (((cond b (after e a (state_of h u)) (state_of h u)).queued ≡ false) × ((cond b (after e a (state_of h u)) (state_of h u)).handlers ≡ 0))

  stay : (b : Bool) (s t : UrbState) → t.queued ≡ s.queued → t.handlers ≡ s.handlers → s.queued ≡ false → s.handlers ≡ 0 → ((cond b t s).queued ≡ false) × ((cond b t s).handlers ≡ 0)
  stay true s t e f i c = (e ∙ i, f ∙ c)
  stay false s t e f i c = (i, c)

  either_same : (b : Bool) (t s : UrbState) → t.queued ≡ s.queued → t.handlers ≡ s.handlers → ((cond b t s).queued ≡ s.queued) × ((cond b t s).handlers ≡ s.handlers)
  either_same true t s e f = (e, f)
  either_same false t s e f = (refl, refl)

  other : (e : Event) (a : Answer) (v : ℕ) → (v ≡ u → ⊥) → stirs u e a ≡ eqb v u → Calm e a (eqb v u)
  other e a v ne i = (i ∙ ne_eqb v u ne, let f = ne_eqb v u ne in (ap (λ b. (cond b (after e a (state_of h u)) (state_of h u)).queued) f ∙ idle, ap (λ b. (cond b (after e a (state_of h u)) (state_of h u)).handlers) f ∙ calm))

  not_given : 0 < times u (pending_of g h (home_of g u)) → ⊥
  not_given k = let o = pl.once in let z = ap bit idle in absurd (omega arith)

  not_owed : owes (part_of h q) u ≡ true → ⊥
  not_owed k = let o = pl.once in let z = ap bit idle in let m = part_of_total g.passes q (λ p. bit (owes (part_of h p) u)) l in let y = ap bit k in absurd (omega arith)

  calm_after : (e : Event) (a : Answer) → May g h q e → a ≡ answer_of e (state_of h (urb_of e)) (line_of g h (end_of e)) → Calm e a (is_of u e)
  calm_after (Submit v k) a m i = dite (ℕ_discrete v.0 u)
      (λ is. let f : accepted a ≡ false = ap accepted i ∙ (ap (λ w. is_zero (refusal (state_of h w))) is ∙ blocks) in
      (ap (λ b. eqb v.0 u && b) f ∙ and_false (eqb v.0 u), refused (eqb v.0 u) (accepted a) f))
      (λ ne. other (Submit v k) a v.0 ne (ap (λ b. b && accepted a) (ne_eqb v.0 u ne) ∙ sym (ne_eqb v.0 u ne)))
    where
      and_false : (b : Bool) → (b && false) ≡ false
      and_false true = refl
      and_false false = refl

      refused : (b z : Bool) → z ≡ false → ((cond b (cond z (record (state_of h u) { queued = true; mark = Clear }) (state_of h u)) (state_of h u)).queued ≡ false) × ((cond b (cond z (record (state_of h u) { queued = true; mark = Clear }) (state_of h u)) (state_of h u)).handlers ≡ 0)
      refused b true e = absurd (true≢false e)
      refused true false e = (idle, calm)
      refused false false e = (idle, calm)
  calm_after (Link v) a m i = other (Link v) a v.0 (λ is. not_owed (subst (λ w. owes (part_of h q) w ≡ true) is m)) refl
  calm_after (Take e) a m i = (ap (answers_urb u) i ∙ head (line_of g h e) (none e), (idle, calm))
    where
      none : (e : ℕ) → times u (line_of g h e) ≡ 0
      none e = let o = pl.once in let z = ap bit idle in dite (ℕ_discrete e (home_of g u)) (λ is. ap (λ d. times u (line_of g h d)) is ∙ (omega arith)) (λ off. pl.line_else e off)

      head : (us : List ℕ) → times u us ≡ 0 → answers_urb u (first_of us) ≡ false
      head [] z = refl
      head (v ∷ us) z = ne_eqb v u (λ is. let b = ap bit (eq-eqb v u is) in absurd (omega arith))
  calm_after (Give v) a m i = other (Give v) a v.0 (λ is. not_given (subst (λ w. 0 < times w (pending_of g h (home_of g w))) is m.1)) refl
  calm_after (Rest v k) a m i = other (Rest v k) a v.0 (λ is. let z = ap (λ w. (state_of h w).handlers) is in let r = m.1 in let c = calm in absurd (omega arith)) refl
  calm_after (End v) a m i = other (End v) a v.0 (λ is. let z = ap (λ w. (state_of h w).handlers) is in let r = m.1 in let c = calm in absurd (omega arith)) refl
  calm_after (Mark v w) a m i = let e = either_same (unlinks a) _ (state_of h u) refl refl in let s = stay (eqb v.0 u) (state_of h u) (after (Mark v w) a (state_of h u)) e.0 e.1 idle calm in (refl, (s.0, s.1))
  calm_after (Finish v w) a m i = let e = either_same (finishes a) _ (state_of h u) refl refl in let s = stay (eqb v.0 u) (state_of h u) (after (Finish v w) a (state_of h u)) e.0 e.1 idle calm in (refl, (s.0, s.1))
  calm_after (Reject v) a m i = let s = stay (eqb v.0 u) (state_of h u) (after (Reject v) a (state_of h u)) refl refl idle calm in (refl, (s.0, s.1))
  calm_after (Withdraw v) a m i = let s = stay (eqb v.0 u) (state_of h u) (after (Withdraw v) a (state_of h u)) refl refl idle calm in (refl, (s.0, s.1))
  calm_after (Quiet v) a m i = let s = stay (eqb v.0 u) (state_of h u) (state_of h u) refl refl idle calm in (refl, (s.0, s.1))
  calm_after (Claim v) a m i = let s = stay (eqb v.0 u) (state_of h u) (after (Claim v) a (state_of h u)) refl refl idle calm in (refl, (s.0, s.1))
  calm_after (Flag v f) a m i = let s = stay (eqb v.0 u) (state_of h u) (after (Flag v f) a (state_of h u)) refl refl idle calm in (refl, (s.0, s.1))
  calm_after (Unflag v f) a m i = let s = stay (eqb v.0 u) (state_of h u) (after (Unflag v f) a (state_of h u)) refl refl idle calm in (refl, (s.0, s.1))

none_more : (u : ℕ) (xs : List Entry) (x : Entry) → NoneStirs u xs → stirs u x.event x.answer ≡ false → NoneStirs u (xs ++ x ∷ [])
none_more u [] x all e = (e, tt)
none_more u (y ∷ xs) x all e = (all.0, none_more u xs x all.1 e)

-- who is kept after an event was kept before, or the event is a Quiet of it
pub kept_before : (d : Held) (e : Event) → (held_after d e).kept ≡ true → (d.kept ≡ true) ⊎ ((u : _) × (e ≡ Quiet u))
kept_before d (Withdraw u) k = inl (both_true _ _ k).0
kept_before d (Unflag u f) k = inl (both_true _ _ k).0
kept_before d (Quiet u) k = inr (u, refl)
kept_before d (Submit u n) k = inl k
kept_before d (Link u) k = inl k
kept_before d (Take e) k = inl k
kept_before d (Mark u w) k = inl k
kept_before d (Finish u c) k = inl k
kept_before d (Give u) k = inl k
kept_before d (Rest u n) k = inl k
kept_before d (End u) k = inl k
kept_before d (Reject u) k = inl k
kept_before d (Claim u) k = inl k
kept_before d (Flag u f) k = inl k

pub is_kept : (g : Machine) (p u : ℕ) (h : List Entry) → IsLegal g h → p < g.passes → keeps (part_of h p) u ≡ true → IsKept h p u
is_kept g p u _ empty l k = absurd (true≢false (sym k))
is_kept g p u _ (longer h x legal f) l k =
    let was : (b : Bool) → keeps (part_of h p) u ≡ b → IsKept (h ++ x ∷ []) p u = λ b. elim b as (λ b. keeps (part_of h p) u ≡ b → IsKept (h ++ x ∷ []) p u) [
      | true ↦ (λ i. let old = is_kept g p u h legal l i in
          let c = calm_after g u h x.pass (placed g u h legal) f.pass (blocked g p u h legal l (kept_holds (part_of h p) u i)) old.queued old.handlers x.event x.answer f.may f.answers in
          record {
            since = old.since ++ x ∷ [];
            entries = goes_on h old.since x old.entries k;
            unstirred = none_more u old.since x old.unstirred c.0;
            queued = ap (λ (s : UrbState). s.queued) (state_of-snoc h x u) ∙ c.1.0;
            handlers = ap (λ (s : UrbState). s.handlers) (state_of-snoc h x u) ∙ c.1.1;
          })
      | false ↦ (λ i. let m = new i in
          record { since = []; entries = begins h x m.0 m.1 i k; unstirred = tt; queued = ap (λ (s : UrbState). s.queued) (state_of-snoc h x u) ∙ m.2; handlers = ap (λ (s : UrbState). s.handlers) (state_of-snoc h x u) ∙ m.3 })
    ] in was (keeps (part_of h p) u) refl
  where
    quiet : (e : Event) (v : _) → e ≡ Quiet v → is_of u e ≡ true → May g h x.pass e → ((state_of h u).queued ≡ false) × ((state_of h u).handlers ≡ 0)
    quiet e v i is m = let here : v.0 ≡ u = eqb-true v.0 u (ap (is_of u) (sym i) ∙ is) in subst (λ w. ((state_of h w).queued ≡ false) × ((state_of h w).handlers ≡ 0)) here (subst (May g h x.pass) i m)

    unchanged : (e : Event) (v : _) → e ≡ Quiet v → (b : Bool) → cond b (after e x.answer (state_of h u)) (state_of h u) ≡ state_of h u
    unchanged e v i true = ap (λ y. after y x.answer (state_of h u)) i
    unchanged e v i false = refl

    new : keeps (part_of h p) u ≡ false → (x.pass ≡ p) × (x.event ≡ Quiet record { 0 = u }) × ((cond (is_of u x.event) (after x.event x.answer (state_of h u)) (state_of h u)).queued ≡ false) × ((cond (is_of u x.event) (after x.event x.answer (state_of h u)) (state_of h u)).handlers ≡ 0)
    new i = dite (ℕ_discrete p x.pass)
        (λ is. let now : (cond (is_of u x.event) (held_after (held_of (part_of h p) u) x.event) (held_of (part_of h p) u)).kept ≡ true
        = ap (λ (d : Held). d.kept) (sym (subst (λ q. held_of (part_of (h ++ x ∷ []) q) u ≡ held_at u (held_of (part_of h q) u) x) (sym is) (held_own h x u))) ∙ k in let q = go (is_of u x.event) refl now in (sym is, q.0, q.1, q.2))
        (λ other. absurd (true≢false (sym k ∙ (ap (λ (d : Held). d.kept) (held_other h x u p other) ∙ i))))
      where
        go : (b : Bool) → is_of u x.event ≡ b → (cond b (held_after (held_of (part_of h p) u) x.event) (held_of (part_of h p) u)).kept ≡ true
            → (x.event ≡ Quiet record { 0 = u }) × ((cond (is_of u x.event) (after x.event x.answer (state_of h u)) (state_of h u)).queued ≡ false) × ((cond (is_of u x.event) (after x.event x.answer (state_of h u)) (state_of h u)).handlers ≡ 0)
        go false e now = absurd (true≢false (sym now ∙ i))
        go true e now = ⊎_elim (λ old. absurd (true≢false (sym old ∙ i)))
            (λ (q : (v : _) × (x.event ≡ Quiet v)). let m = quiet x.event q.0 q.1 e f.may in let s = unchanged x.event q.0 q.1 (is_of u x.event) in
            (q.1 ∙ ap (λ w. Quiet record { 0 = w }) (eqb-true q.0.0 u (ap (is_of u) (sym q.1) ∙ e)), ap (λ (z : UrbState). z.queued) s ∙ m.0, ap (λ (z : UrbState). z.handlers) s ∙ m.1)) (kept_before (held_of (part_of h p) u) x.event now)
