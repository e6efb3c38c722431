-- What stays over the entries of one pass, with those of others in between.
use Rattle.std.proofs.Common.{◌≡◌, ◌≢◌, ℕ, ◌<◌, Bool, true, false, cond, eqb, List, [], ◌∷◌, ◌++◌, sym, refl, ap, ◌∙◌, subst, arith, append_assoc, append-nil, eq-eqb, ne_eqb, true≢false}
use Rattle.std.proofs.lemmas.List.{append_cancel_left}
use Rattle.std.proofs.lemmas.List.Elements.{filter-append}
use mathlib.Core.Logic.{dite}
use native.Mathlib.Decide.{ℕ_discrete}
use Rattle.usb_machine.specs.declared.entry.TheConstants.{SERVER}
use Rattle.usb_machine.specs.declared.entry.Entry.{Entry}
use Rattle.usb_machine.specs.declared.event.Event.{Event}
use Rattle.usb_machine.specs.declared.event.Event.TheVariants.{Submit, Link, Take, Mark, Finish, Give, Rest, End, Reject, Withdraw, Quiet, Claim, Flag, Unflag}
use Rattle.usb_machine.specs.declared.event.Answer.{Answer}
use Rattle.usb_machine.specs.declared.state.UrbState.{UrbState}
use Rattle.usb_machine.specs.declared.state.Mark.TheVariants.{Clear}
use Rattle.usb_machine.specs.State.{after, accepted, unlinks, finishes}
use Rattle.usb_machine.specs.History.{Machine, state_of, is_of, sent_of}
use Rattle.usb_machine.specs.Parts.{part_of}
use Rattle.usb_machine.specs.Legal.{May, Follows, IsLegal}
use Rattle.usb_machine.specs.Laws.{is_give, NoneGives}
use Rattle.usb_machine.proofs.Steps.{state_of-snoc}
use Rattle.usb_machine.proofs.Prefixes.{follows_before}
use Rattle.usb_machine.specs.Fresh.{Known, Sound, Grown}
use Rattle.usb_machine.specs.Tokens.{is_finished}
use Rattle.usb_machine.specs.State.{is_clear}
use Rattle.usb_machine.proofs.SentStands.{sent_stands, refused}

-- each entry is so
abbrev pub AllAre : (Event → Answer → Type 0) → List Entry → Type 0
AllAre Q [] = Unit {0}
AllAre Q (x ∷ xs) = Q x.event x.answer × AllAre Q xs

pub all_append : (Q : Event → Answer → Type 0) (xs ys : List Entry) → AllAre Q xs → AllAre Q ys → AllAre Q (xs ++ ys)
all_append Q [] ys a b = b
all_append Q (x ∷ xs) ys a b = (a.0, all_append Q xs ys a.1 b)

-- what holds of the server's entries, and of all that other passes may make, holds of all
pub all_over : (g : Machine) (Q : Event → Answer → Type 0) → ((h : List Entry) (p : ℕ) (e : Event) (a : Answer) → p ≢ 0 → May g h p e → Q e a) → (seen rest : List Entry) → IsLegal g (seen ++ rest) → AllAre Q (part_of rest 0) → AllAre Q rest
all_over g Q others seen [] legal all = tt
all_over g Q others seen (x ∷ rest) legal all =
    let longer : (seen ++ x ∷ []) ++ rest ≡ seen ++ x ∷ rest = append_assoc seen (x ∷ []) rest in
    let more = subst (IsLegal g) (sym longer) legal in
    dite (ℕ_discrete x.pass 0)
    (λ is. let own : AllAre Q (x ∷ part_of rest 0) = subst (λ b. AllAre Q (cond b (x ∷ part_of rest 0) (part_of rest 0))) (eq-eqb x.pass 0 is) all in (own.0, all_over g Q others (seen ++ x ∷ []) rest more own.1))
    (λ off. let short : AllAre Q (part_of rest 0) = subst (λ b. AllAre Q (cond b (x ∷ part_of rest 0) (part_of rest 0))) (ne_eqb x.pass 0 off) all in (others seen x.pass x.event x.answer off (follows_before g seen x rest legal).may, all_over g Q others (seen ++ x ∷ []) rest more short))

abbrev pub NoGive : ℕ → Event → Answer → Type 0
NoGive u e a = is_give u e ≡ false

no_gives : (u : ℕ) (xs : List Entry) → AllAre (NoGive u) xs → NoneGives u xs
no_gives u [] a = tt
no_gives u (x ∷ xs) a = (a.0, no_gives u xs a.1)

others_give_none : (g : Machine) (u : ℕ) (h : List Entry) (p : ℕ) (e : Event) (a : Answer) → p ≢ 0 → May g h p e → NoGive u e a
others_give_none g u h p (Give v) a ne m = absurd (ne m.0)
others_give_none g u h p _ a ne m = refl

abbrev pub NoEnd : Event → Answer → Type 0
NoEnd (End v) a = ⊥
NoEnd e a = Unit {0}

others_end_none : (g : Machine) → g.bottom ≡ 0 → (h : List Entry) (p : ℕ) (e : Event) (a : Answer) → p ≢ 0 → May g h p e → NoEnd e a
others_end_none g bottom h p (End v) a ne m = absurd (ne (m.0 ∙ bottom))
others_end_none g bottom h p (Submit v n) a ne m = tt
others_end_none g bottom h p (Link v) a ne m = tt
others_end_none g bottom h p (Take v) a ne m = tt
others_end_none g bottom h p (Mark v w) a ne m = tt
others_end_none g bottom h p (Finish v w) a ne m = tt
others_end_none g bottom h p (Give v) a ne m = tt
others_end_none g bottom h p (Rest v n) a ne m = tt
others_end_none g bottom h p (Reject v) a ne m = tt
others_end_none g bottom h p (Withdraw v) a ne m = tt
others_end_none g bottom h p (Quiet v) a ne m = tt
others_end_none g bottom h p (Claim v) a ne m = tt
others_end_none g bottom h p (Flag v w) a ne m = tt
others_end_none g bottom h p (Unflag v w) a ne m = tt

abbrev Runs : UrbState → Type 0
Runs s = 0 < s.handlers

if_either : (b : Bool) (s t : UrbState) → Runs s → Runs t → Runs (cond b s t)
if_either true s t a c = a
if_either false s t a c = c

runs_after : (e : Event) (a : Answer) (s : UrbState) → NoEnd e a → Runs s → Runs (after e a s)
runs_after (Submit u n) a s off r = if_either (accepted a) _ s r r
runs_after (Mark u w) a s off r = if_either (unlinks a) _ s r r
runs_after (Finish u c) a s off r = if_either (finishes a) _ s r r
runs_after (Give u) a s off r = omega arith
runs_after (End u) a s off r = absurd off
runs_after (Link u) a s off r = r
runs_after (Take u) a s off r = r
runs_after (Rest u n) a s off r = r
runs_after (Reject u) a s off r = r
runs_after (Withdraw u) a s off r = r
runs_after (Quiet u) a s off r = r
runs_after (Claim u) a s off r = r
runs_after (Flag u w) a s off r = r
runs_after (Unflag u w) a s off r = r

runs_on : (u : ℕ) (seen rest : List Entry) → AllAre NoEnd rest → Runs (state_of seen u) → Runs (state_of (seen ++ rest) u)
runs_on u seen [] all r = subst (λ h. Runs (state_of h u)) (sym (append-nil seen)) r
runs_on u seen (x ∷ rest) all r = subst (λ h. Runs (state_of h u)) (append_assoc seen (x ∷ []) rest)
    (runs_on u (seen ++ x ∷ []) rest all.1 (subst Runs (sym (state_of-snoc seen x u)) (if_either (is_of u x.event) _ (state_of seen u) (runs_after x.event x.answer (state_of seen u) all.0 r) r)))

abbrev pub NoFinish : Event → Answer → Type 0
NoFinish (Finish v c) a = ⊥
NoFinish e a = Unit {0}

others_finish_none : (g : Machine) (h : List Entry) (p : ℕ) (e : Event) (a : Answer) → p ≢ 0 → May g h p e → NoFinish e a
others_finish_none g h p (Finish v c) a ne m = absurd (ne m.0)
others_finish_none g h p (Submit v n) a ne m = tt
others_finish_none g h p (Link v) a ne m = tt
others_finish_none g h p (Take v) a ne m = tt
others_finish_none g h p (Mark v w) a ne m = tt
others_finish_none g h p (Give v) a ne m = tt
others_finish_none g h p (Rest v n) a ne m = tt
others_finish_none g h p (End v) a ne m = tt
others_finish_none g h p (Reject v) a ne m = tt
others_finish_none g h p (Withdraw v) a ne m = tt
others_finish_none g h p (Quiet v) a ne m = tt
others_finish_none g h p (Claim v) a ne m = tt
others_finish_none g h p (Flag v w) a ne m = tt
others_finish_none g h p (Unflag v w) a ne m = tt

abbrev IsOpenMark : UrbState → Type 0
IsOpenMark s = is_finished s.mark ≡ false

open_if : (b : Bool) (s t : UrbState) → IsOpenMark s → IsOpenMark t → IsOpenMark (cond b s t)
open_if true s t a c = a
open_if false s t a c = c

open_step : (e : Event) (a : Answer) (s : UrbState) → NoFinish e a → IsOpenMark s → IsOpenMark (after e a s)
open_step (Submit u n) a s off r = open_if (accepted a) _ s refl r
open_step (Mark u w) a s off r = open_if (unlinks a) _ s refl r
open_step (Finish u c) a s off r = absurd off
open_step (Give u) a s off r = refl
open_step (End u) a s off r = r
open_step (Link u) a s off r = r
open_step (Take u) a s off r = r
open_step (Rest u n) a s off r = r
open_step (Reject u) a s off r = r
open_step (Withdraw u) a s off r = r
open_step (Quiet u) a s off r = r
open_step (Claim u) a s off r = r
open_step (Flag u w) a s off r = r
open_step (Unflag u w) a s off r = r

open_on : (u : ℕ) (seen rest : List Entry) → AllAre NoFinish rest → IsOpenMark (state_of seen u) → IsOpenMark (state_of (seen ++ rest) u)
open_on u seen [] all r = subst (λ h. IsOpenMark (state_of h u)) (sym (append-nil seen)) r
open_on u seen (x ∷ rest) all r = subst (λ h. IsOpenMark (state_of h u)) (append_assoc seen (x ∷ []) rest)
    (open_on u (seen ++ x ∷ []) rest all.1 (subst IsOpenMark (sym (state_of-snoc seen x u)) (open_if (is_of u x.event) _ (state_of seen u) (open_step x.event x.answer (state_of seen u) all.0 r) r)))

-- a queued URB whose mark stands
abbrev IsMarked : UrbState → Type 0
IsMarked s = (s.queued ≡ true) × (is_clear s.mark ≡ false)

marked_if : (b : Bool) (s t : UrbState) → IsMarked s → IsMarked t → IsMarked (cond b s t)
marked_if true s t a c = a
marked_if false s t a c = c

marked_step : (u : ℕ) (e : Event) (a : Answer) (s : UrbState) → is_give u e ≡ false → ((v : _) (k : ℕ) → e ≡ Submit v k → eqb v.0 u ≡ true → accepted a ≡ false) → IsMarked s → IsMarked (cond (is_of u e) (after e a s) s)
marked_step u (Submit v k) a s none sub m = go (eqb v.0 u) (accepted a) (sub v k refl)
  where
    go : (b z : Bool) → (b ≡ true → z ≡ false) → IsMarked (cond b (cond z (record s { queued = true; mark = Clear }) s) s)
    go true true e = absurd (true≢false (e refl))
    go true false e = m
    go false z e = m
marked_step u (Give v) a s none sub m = subst (λ b. IsMarked (cond b (after (Give v) a s) s)) (sym none) m
marked_step u (Mark v w) a s none sub m = marked_if (eqb v.0 u) _ s (marked_if (unlinks a) _ s (m.0, refl) m) m
marked_step u (Finish v w) a s none sub m = marked_if (eqb v.0 u) _ s (marked_if (finishes a) _ s (m.0, refl) m) m
marked_step u (Take v) a s none sub m = m
marked_step u (Link v) a s none sub m = marked_if (eqb v.0 u) s s m m
marked_step u (Rest v n) a s none sub m = marked_if (eqb v.0 u) _ s (m.0, m.1) m
marked_step u (End v) a s none sub m = marked_if (eqb v.0 u) _ s (m.0, m.1) m
marked_step u (Reject v) a s none sub m = marked_if (eqb v.0 u) _ s (m.0, m.1) m
marked_step u (Withdraw v) a s none sub m = marked_if (eqb v.0 u) _ s (m.0, m.1) m
marked_step u (Quiet v) a s none sub m = marked_if (eqb v.0 u) s s m m
marked_step u (Claim v) a s none sub m = marked_if (eqb v.0 u) _ s (m.0, m.1) m
marked_step u (Flag v w) a s none sub m = marked_if (eqb v.0 u) _ s (m.0, m.1) m
marked_step u (Unflag v w) a s none sub m = marked_if (eqb v.0 u) _ s (m.0, m.1) m

marked_on : (g : Machine) (u : ℕ) (seen rest : List Entry) → IsLegal g (seen ++ rest) → NoneGives u rest → IsMarked (state_of seen u) → IsMarked (state_of (seen ++ rest) u)
marked_on g u seen [] legal none m = subst (λ h. IsMarked (state_of h u)) (sym (append-nil seen)) m
marked_on g u seen (x ∷ rest) legal none m =
    let f : Follows g seen x = follows_before g seen x rest legal in
    let longer : (seen ++ x ∷ []) ++ rest ≡ seen ++ x ∷ rest = append_assoc seen (x ∷ []) rest in
    subst (λ h. IsMarked (state_of h u)) longer (marked_on g u (seen ++ x ∷ []) rest (subst (IsLegal g) (sym longer) legal) none.1
    (subst IsMarked (sym (state_of-snoc seen x u)) (marked_step u x.event x.answer (state_of seen u) none.0 (λ v k is here. refused g u seen m.0 x.event x.answer v k is f.answers here) m)))

-- a server's pass before and after some calls
module _ (g : Machine) (p q : Known) (server : p.number ≡ SERVER) (sound : Sound g p) (now : Sound g q) (more : List Entry) (grown : Grown p q more) where
  rest_is : part_of grown.begins.more 0 ≡ more
  rest_is = append_cancel_left p.mine (part_of grown.begins.more 0) more
      (sym (filter-append (λ (y : Entry). eqb y.pass 0) p.seen grown.begins.more ∙ ap (λ l. l ++ part_of grown.begins.more 0) (subst (λ n. part_of p.seen n ≡ p.mine) server sound.own))
      ∙ (ap (λ h. part_of h 0) (sym grown.begins.is) ∙ (subst (λ n. part_of q.seen n ≡ q.mine) (grown.number ∙ server) now.own ∙ grown.mine)))

  legal : IsLegal g (p.seen ++ grown.begins.more)
  legal = subst (IsLegal g) grown.begins.is now.legal

  pub sent_over : (u : ℕ) → AllAre (NoGive u) more → (state_of p.seen u).queued ≡ true → (sent_of q.seen u ≡ sent_of p.seen u) × ((state_of q.seen u).queued ≡ true)
  sent_over u all queued = subst (λ h. (sent_of h u ≡ sent_of p.seen u) × ((state_of h u).queued ≡ true)) (sym grown.begins.is)
      (sent_stands g u p.seen grown.begins.more legal (no_gives u grown.begins.more (all_over g (NoGive u) (others_give_none g u) p.seen grown.begins.more legal (subst (AllAre (NoGive u)) (sym rest_is) all))) queued)

  pub marked_over : (u : ℕ) → AllAre (NoGive u) more → (state_of p.seen u).queued ≡ true → is_clear (state_of p.seen u).mark ≡ false → is_clear (state_of q.seen u).mark ≡ false
  marked_over u all queued marked = (subst (λ h. IsMarked (state_of h u)) (sym grown.begins.is)
      (marked_on g u p.seen grown.begins.more legal (no_gives u grown.begins.more (all_over g (NoGive u) (others_give_none g u) p.seen grown.begins.more legal (subst (AllAre (NoGive u)) (sym rest_is) all))) (queued, marked))).1

  pub finished_over : (u : ℕ) → AllAre NoFinish more → is_finished (state_of q.seen u).mark ≡ true → is_finished (state_of p.seen u).mark ≡ true
  finished_over u all now_so = go (is_finished (state_of p.seen u).mark) refl
    where
      go : (b : Bool) → is_finished (state_of p.seen u).mark ≡ b → b ≡ true
      go true is = refl
      go false is = absurd (true≢false (sym now_so ∙ subst (λ h. IsOpenMark (state_of h u)) (sym grown.begins.is)
          (open_on u p.seen grown.begins.more (all_over g NoFinish (others_finish_none g) p.seen grown.begins.more legal (subst (AllAre NoFinish) (sym rest_is) all)) is)))

  pub runs_over : (u : ℕ) → g.bottom ≡ 0 → AllAre NoEnd more → 0 < (state_of p.seen u).handlers → 0 < (state_of q.seen u).handlers
  runs_over u bottom all runs = subst (λ h. Runs (state_of h u)) (sym grown.begins.is)
      (runs_on u p.seen grown.begins.more (all_over g NoEnd (others_end_none g bottom) p.seen grown.begins.more legal (subst (AllAre NoEnd) (sym rest_is) all)) runs)
