-- Only a queued URB has a mark.
use Rattle.std.proofs.Common.{◌≡◌, ℕ, ◌<◌, Bool, true, false, cond, eqb, List, [], ◌∷◌, sym, refl, ap, ◌∙◌, subst, arith, eq-eqb, eqb-true, true≢false}
use Rattle.usb_types.specs.declared.errno.Errno.TheVariants.{EBUSY, ENODEV, ENOENT, ESHUTDOWN, EPERM, EIDRM, EINPROGRESS}
use Rattle.usb_types.specs.declared.errno.Code.{Code}
use Rattle.usb_types.specs.declared.errno.Code.TheVariants.{Zero, Fault}
use Rattle.usb_machine.specs.declared.event.Event.{Event}
use Rattle.usb_machine.specs.declared.event.Event.TheVariants.{Submit, Mark, Finish, Give}
use Rattle.usb_machine.specs.declared.state.Mark.{Mark as MarkState}
use Rattle.usb_machine.specs.declared.state.Mark.TheVariants.{Clear, Unlinked, Finished}
use Rattle.usb_types.specs.declared.urb.Why.{Why}
use Rattle.usb_machine.specs.declared.event.Answer.{Answer}
use Rattle.usb_machine.specs.declared.entry.Entry.{Entry}
use Rattle.usb_machine.specs.History.{Machine}
use Rattle.usb_machine.specs.declared.state.UrbState.{UrbState}
use Rattle.usb_machine.specs.State.{after, is_zero, is_clear, refusal, accepted, unlinks, unlinking, is_in_progress, finishes, answer_of}
use Rattle.usb_machine.specs.History.{state_of, is_of, line_of, home_of, pending_of}
use Rattle.usb_machine.specs.Legal.{urb_of, end_of, times, IsFirst, May, IsLegal, empty, longer}
use Rattle.usb_machine.proofs.Steps.{state_of-snoc}
use Rattle.usb_machine.proofs.Places.{Placed, placed, bit}

-- what an accepted Submit finds
pub record Open (s : UrbState) : Type 0 where
  pub queued : s.queued ≡ false
  pub gone : s.flags.gone ≡ false
  pub rejects : s.rejects ≡ 0
  pub off : s.flags.off ≡ false
  pub down : s.flags.down ≡ false

pub accepts_open : (s : UrbState) → is_zero (refusal s) ≡ true → Open s
accepts_open s e = let t = go s.queued s.flags.gone (eqb 0 s.rejects) s.flags.off s.flags.down e in record { queued = t.0; gone = t.1; rejects = sym (eqb-true 0 s.rejects t.2); off = t.3; down = t.4 }
  where
    go : (a b c d f : Bool) → is_zero (cond a (Fault EBUSY) (cond b (Fault ENODEV) (cond c (cond d (Fault ENOENT) (cond f (Fault ESHUTDOWN) Zero)) (Fault EPERM)))) ≡ true
        → (a ≡ false) × (b ≡ false) × (c ≡ true) × (d ≡ false) × (f ≡ false)
    go true b c d f e = absurd (true≢false (sym e))
    go false true c d f e = absurd (true≢false (sym e))
    go false false false d f e = absurd (true≢false (sym e))
    go false false true true f e = absurd (true≢false (sym e))
    go false false true false true e = absurd (true≢false (sym e))
    go false false true false false e = (refl, refl, refl, refl, refl)

abbrev change_to : UrbState → Bool → MarkState → UrbState
change_to s q m = record s { queued = q; mark = m }

abbrev Unmarked : UrbState → Type 0
Unmarked s = s.queued ≡ false → is_clear s.mark ≡ true

first_times : (u : ℕ) (us : List ℕ) → IsFirst u us → 0 < times u us
first_times u [] f = absurd f
first_times u (v ∷ us) f = let b = ap bit (eq-eqb v u f) in omega arith

unmarked : (s : UrbState) (e : Event) (a : Answer) → ((u : _) (w : Why) → e ≡ Mark u w → unlinks a ≡ true → s.queued ≡ true) → ((u : _) (c : Code) → e ≡ Finish u c → s.queued ≡ true) → Unmarked s → Unmarked (after e a s)
unmarked s (Submit u n) a m k old = go (accepted a)
  where
    go : (b : Bool) → Unmarked (cond b (change_to s true Clear) s)
    go true q = refl
    go false q = old q
unmarked s (Mark u w) a m k old = go (unlinks a) refl
  where
    go : (b : Bool) → unlinks a ≡ b → Unmarked (cond b (change_to s s.queued (Unlinked w)) s)
    go true e q = absurd (true≢false (sym (m u w refl e) ∙ q))
    go false e q = old q
unmarked s (Finish u c) a m k old = go (finishes a)
  where
    go : (b : Bool) → Unmarked (cond b (change_to s s.queued (Finished c)) s)
    go true q = absurd (true≢false (sym (k u c refl) ∙ q))
    go false q = old q
unmarked s (Give u) a m k old = λ q. refl
unmarked s _ a m k old = old

unlinks_queued : (s : UrbState) → is_in_progress (unlinking s) ≡ true → s.queued ≡ true
unlinks_queued s e = go s.queued e
  where
    go : (b : Bool) → is_in_progress (cond b (cond (is_clear s.mark) (Fault EINPROGRESS) (Fault EBUSY)) (Fault EIDRM)) ≡ true → b ≡ true
    go true e = refl
    go false e = absurd (true≢false (sym e))

mark_queued : (h : List Entry) (v : ℕ) (e : Event) (a : Answer) (us : List ℕ) → is_of v e ≡ true → a ≡ answer_of e (state_of h (urb_of e)) us → (u : _) (w : Why) → e ≡ Mark u w → unlinks a ≡ true → (state_of h v).queued ≡ true
mark_queued h v e a us is i u w m k =
    let here : u.0 ≡ v = eqb-true u.0 v (ap (is_of v) (sym m) ∙ is) in
    let said : a ≡ answer_of (Mark u w) (state_of h u.0) us = i ∙ ap (λ x. answer_of x (state_of h (urb_of x)) us) m in
    subst (λ x. (state_of h x).queued ≡ true) here (unlinks_queued (state_of h u.0) (sym (ap unlinks said) ∙ k))

finish_queued : (g : Machine) (h : List Entry) (p v : ℕ) (e : Event) → Placed g h v → is_of v e ≡ true → May g h p e → (u : _) (c : Code) → e ≡ Finish u c → (state_of h v).queued ≡ true
finish_queued g h p v e pl is m u c i = go (state_of h v).queued refl
  where
    here : is_of v (Finish u c) ≡ true
    here = ap (is_of v) (sym i) ∙ is

    first : 0 < times v (pending_of g h (home_of g v))
    first = let f = subst (May g h p) i m in subst (λ w. 0 < times w (pending_of g h (home_of g w))) (eqb-true u.0 v here) (first_times u.0 _ f.1)

    go : (b : Bool) → (state_of h v).queued ≡ b → (state_of h v).queued ≡ true
    go true e = e
    go false e = let o = pl.once in let z = ap bit e in let f = first in absurd (omega arith)

pub mark_of_queued : (g : Machine) (u : ℕ) (h : List Entry) → IsLegal g h → Unmarked (state_of h u)
mark_of_queued g u _ empty = λ q. refl
mark_of_queued g u _ (longer h x legal f) = let old = mark_of_queued g u h legal in
    subst Unmarked (sym (state_of-snoc h x u)) (go (is_of u x.event) refl old)
  where
    go : (b : Bool) → is_of u x.event ≡ b → Unmarked (state_of h u) → Unmarked (cond b (after x.event x.answer (state_of h u)) (state_of h u))
    go true e old = unmarked (state_of h u) x.event x.answer (mark_queued h u x.event x.answer (line_of g h (end_of x.event)) e f.answers) (finish_queued g h x.pass u x.event (placed g u h legal) e f.may) old
    go false e old = old
