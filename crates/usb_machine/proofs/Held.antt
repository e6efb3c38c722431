-- The rejects of an URB are those that the passes hold, and its flags are the hub's.
use mathlib.Core.Logic.{dite}
use native.Mathlib.Decide.{ℕ_discrete}
use Rattle.std.proofs.Common.{◌⊎◌, inl, inr, ⊎_elim, ◌≡◌, ℕ, ◌+◌, ◌<◌, ◌≤◌, Bool, true, false, cond, eqb, List, [], ◌∷◌, ◌++◌, sym, refl, ap, ◌∙◌, subst, arith, eqb-true}
use Rattle.usb_machine.specs.declared.event.Event.{Event}
use Rattle.usb_machine.specs.declared.event.Event.TheVariants.{Submit, Link, Take, Mark, Finish, Give, Rest, End, Reject, Withdraw, Quiet, Claim, Flag, Unflag}
use Rattle.usb_machine.specs.declared.event.Answer.{Answer}
use Rattle.usb_machine.specs.declared.entry.Entry.{Entry}
use Rattle.usb_machine.specs.History.{Machine}
use Rattle.usb_machine.specs.declared.state.UrbState.{UrbState}
use Rattle.usb_machine.specs.State.{after, with_flag, accepted, finishes}
use Rattle.usb_machine.specs.History.{state_of, after_entry, is_of}
use Rattle.usb_machine.specs.Parts.{part_of, Held, held_of, held_after}
use Rattle.usb_machine.specs.Legal.{May, IsLegal, empty, longer}
use Rattle.usb_machine.specs.Laws.{rejects_after, rejects, withdraws_after, withdraws}
use Rattle.usb_machine.proofs.Steps.{state_of-snoc, held_of-snoc, part_own, part_other, held_at, held_own, held_other}
use Rattle.std.proofs.lemmas.List.Sums.{fold-append}
use Rattle.usb_machine.proofs.Totals.{total, total_one, part_of_total, total_none}

same_either : (b : Bool) (s t : UrbState) → t.rejects ≡ s.rejects → (cond b t s).rejects ≡ s.rejects
same_either true s t e = e
same_either false s t e = refl

abbrev Backed : Event → ℕ → Type 0
Backed (Withdraw u) n = 0 < n
Backed _ n = Unit {0}

rejects_change : (e : Event) (a : Answer) (s : UrbState) (d : Held) → Backed e d.rejects → d.rejects ≤ s.rejects → (after e a s).rejects + d.rejects ≡ s.rejects + (held_after d e).rejects
rejects_change (Submit u n) a s d b l = ap (λ k. k + d.rejects) (same_either (accepted a) s _ refl)
rejects_change (Link u) a s d b l = refl
rejects_change (Take e) a s d b l = refl
rejects_change (Mark u w) a s d b l = ap (λ k. k + d.rejects) (same_either _ s _ refl)
rejects_change (Finish u c) a s d b l = ap (λ k. k + d.rejects) (same_either (finishes a) s _ refl)
rejects_change (Give u) a s d b l = refl
rejects_change (Rest u n) a s d b l = refl
rejects_change (End u) a s d b l = refl
rejects_change (Reject u) a s d b l = omega arith
rejects_change (Withdraw u) a s d b l = omega arith
rejects_change (Quiet u) a s d b l = refl
rejects_change (Claim u) a s d b l = refl
rejects_change (Flag u f) a s d b l = refl
rejects_change (Unflag u f) a s d b l = refl

backed : (g : Machine) (h : List Entry) (p u : ℕ) (e : Event) → is_of u e ≡ true → May g h p e → Backed e (held_of (part_of h p) u).rejects
backed g h p u (Withdraw v) is m = subst (λ k. 0 < (held_of (part_of h p) k).rejects) (eqb-true v.0 u is) m
backed g h p u _ is m = tt

rejects_step : (u : ℕ) (s : UrbState) (d : Held) (x : Entry) (b : Bool) → (b ≡ true → Backed x.event d.rejects) → d.rejects ≤ s.rejects
    → (cond b (after x.event x.answer s) s).rejects + d.rejects ≡ s.rejects + (cond b (held_after d x.event) d).rejects
rejects_step u s d x true back l = rejects_change x.event x.answer s d (back refl) l
rejects_step u s d x false back l = refl

-- the rejects of u are those that the passes hold
pub rejects_are_held : (g : Machine) (u : ℕ) (h : List Entry) → IsLegal g h → total g.passes (λ p. (held_of (part_of h p) u).rejects) ≡ (state_of h u).rejects
rejects_are_held g u _ empty = total_none g.passes
rejects_are_held g u _ (longer h x legal f) =
    let known = rejects_are_held g u h legal in let d = held_of (part_of h x.pass) u in
    let most = part_of_total g.passes x.pass (λ p. (held_of (part_of h p) u).rejects) f.pass in
    let sums = total_one g.passes x.pass (λ p. (held_of (part_of h p) u).rejects) (λ p. (held_of (part_of (h ++ x ∷ []) p) u).rejects) f.pass (λ q off. ap (λ (k : Held). k.rejects) (held_other h x u q off)) in
    let own : (held_of (part_of (h ++ x ∷ []) x.pass) u).rejects ≡ (held_at u d x).rejects = ap (λ (k : Held). k.rejects) (held_own h x u) in
    let step = rejects_step u (state_of h u) d x (is_of u x.event) (λ is. backed g h x.pass u x.event is f.may) (omega arith) in
    let now : (state_of (h ++ x ∷ []) u).rejects ≡ (after_entry u (state_of h u) x).rejects = ap (λ (s : UrbState). s.rejects) (state_of-snoc h x u) in
    omega arith

-- the event sets and unsets no flag, as each of a pass that is not the hub's
abbrev pub SetsNoFlag : Event → Type 0
SetsNoFlag (Flag u f) = ⊥
SetsNoFlag (Unflag u f) = ⊥
SetsNoFlag _ = Unit {0}

pub no_flag_or_hub : (g : Machine) (h : List Entry) (p : ℕ) (e : Event) → May g h p e → (SetsNoFlag e) ⊎ (p ≡ 1)
no_flag_or_hub g h p (Flag u f) m = inr m.0
no_flag_or_hub g h p (Unflag u f) m = inr m.0
no_flag_or_hub g h p _ m = inl tt

flags_either : (b : Bool) (s t : UrbState) → t.flags ≡ s.flags → (cond b t s).flags ≡ s.flags
flags_either true s t e = e
flags_either false s t e = refl

flags_stay : (e : Event) (a : Answer) (s : UrbState) → SetsNoFlag e → (after e a s).flags ≡ s.flags
flags_stay (Submit u n) a s p = flags_either (accepted a) s _ refl
flags_stay (Mark u w) a s p = flags_either _ s _ refl
flags_stay (Finish u c) a s p = flags_either (finishes a) s _ refl
flags_stay (Flag u f) a s p = absurd p
flags_stay (Unflag u f) a s p = absurd p
flags_stay _ a s p = refl

pub held_flags_stay : (e : Event) (d : Held) → SetsNoFlag e → (held_after d e).flags ≡ d.flags
held_flags_stay (Flag u f) d p = absurd p
held_flags_stay (Unflag u f) d p = absurd p
held_flags_stay _ d p = refl

flags_follow : (e : Event) (a : Answer) (s : UrbState) (d : Held) → d.flags ≡ s.flags → (held_after d e).flags ≡ (after e a s).flags
flags_follow (Submit u n) a s d i = i ∙ sym (flags_either (accepted a) s _ refl)
flags_follow (Mark u w) a s d i = i ∙ sym (flags_either _ s _ refl)
flags_follow (Finish u c) a s d i = i ∙ sym (flags_either (finishes a) s _ refl)
flags_follow (Flag u f) a s d i = ap (with_flag f true) i
flags_follow (Unflag u f) a s d i = ap (with_flag f false) i
flags_follow _ a s d i = i

flags_at : (b : Bool) (e : Event) (a : Answer) (s : UrbState) (d : Held) → d.flags ≡ s.flags → (cond b (held_after d e) d).flags ≡ (cond b (after e a s) s).flags
flags_at true e a s d i = flags_follow e a s d i
flags_at false e a s d i = i

flags_by_other : (b : Bool) (e : Event) (a : Answer) (s : UrbState) → SetsNoFlag e → (cond b (after e a s) s).flags ≡ s.flags
flags_by_other true e a s p = flags_stay e a s p
flags_by_other false e a s p = refl

-- the flags of u are those that the hub holds
pub flags_are_held : (g : Machine) (u : ℕ) (h : List Entry) → IsLegal g h → (held_of (part_of h 1) u).flags ≡ (state_of h u).flags
flags_are_held g u _ empty = refl
flags_are_held g u _ (longer h x legal f) =
    let known = flags_are_held g u h legal in
    let now : (state_of (h ++ x ∷ []) u).flags ≡ (after_entry u (state_of h u) x).flags = ap (λ (s : UrbState). s.flags) (state_of-snoc h x u) in
    dite (ℕ_discrete 1 x.pass)
    (λ is. let own : (held_of (part_of (h ++ x ∷ []) 1) u).flags ≡ (held_at u (held_of (part_of h 1) u) x).flags = subst (λ p. (held_of (part_of (h ++ x ∷ []) p) u).flags ≡ (held_at u (held_of (part_of h p) u) x).flags) (sym is) (ap (λ (k : Held). k.flags) (held_own h x u)) in
    own ∙ flags_at (is_of u x.event) x.event x.answer (state_of h u) (held_of (part_of h 1) u) known ∙ sym now)
    (λ other. ap (λ (k : Held). k.flags) (held_other h x u 1 other) ∙ known
    ∙ ⊎_elim (λ p. sym (flags_by_other (is_of u x.event) x.event x.answer (state_of h u) p)) (λ hub. absurd (other (sym hub))) (no_flag_or_hub g h x.pass x.event f.may) ∙ sym now)

same_held : (t : Bool) (d now : Held) → now.rejects ≡ d.rejects → (cond t now d).rejects ≡ d.rejects
same_held true d now e = e
same_held false d now e = refl

-- what a pass holds in rejects is how many it made less how many it withdrew
counted_after : (u : ℕ) (e : Event) (d : Held) (n k : ℕ) → n ≡ d.rejects + k → (is_of u e ≡ true → Backed e d.rejects) → rejects_after u n e ≡ (cond (is_of u e) (held_after d e) d).rejects + withdraws_after u k e
counted_after u (Reject v) d n k i b = go (eqb v.0 u)
  where
    go : (t : Bool) → cond t (n + 1) n ≡ (cond t (held_after d (Reject v)) d).rejects + k
    go true = omega arith
    go false = i
counted_after u (Withdraw v) d n k i b = go (eqb v.0 u) b
  where
    go : (t : Bool) → (t ≡ true → 0 < d.rejects) → n ≡ (cond t (held_after d (Withdraw v)) d).rejects + cond t (k + 1) k
    go true l = let z = l refl in omega arith
    go false l = i
counted_after u (Take c) d n k i b = i
counted_after u (Submit v m) d n k i b = i ∙ ap (λ r. r + k) (sym (same_held (eqb v.0 u) d (held_after d (Submit v m)) refl))
counted_after u (Link v) d n k i b = i ∙ ap (λ r. r + k) (sym (same_held (eqb v.0 u) d (held_after d (Link v)) refl))
counted_after u (Mark v w) d n k i b = i ∙ ap (λ r. r + k) (sym (same_held (eqb v.0 u) d (held_after d (Mark v w)) refl))
counted_after u (Finish v c) d n k i b = i ∙ ap (λ r. r + k) (sym (same_held (eqb v.0 u) d (held_after d (Finish v c)) refl))
counted_after u (Give v) d n k i b = i ∙ ap (λ r. r + k) (sym (same_held (eqb v.0 u) d (held_after d (Give v)) refl))
counted_after u (Rest v m) d n k i b = i ∙ ap (λ r. r + k) (sym (same_held (eqb v.0 u) d (held_after d (Rest v m)) refl))
counted_after u (End v) d n k i b = i ∙ ap (λ r. r + k) (sym (same_held (eqb v.0 u) d (held_after d (End v)) refl))
counted_after u (Quiet v) d n k i b = i ∙ ap (λ r. r + k) (sym (same_held (eqb v.0 u) d (held_after d (Quiet v)) refl))
counted_after u (Claim v) d n k i b = i ∙ ap (λ r. r + k) (sym (same_held (eqb v.0 u) d (held_after d (Claim v)) refl))
counted_after u (Flag v f) d n k i b = i ∙ ap (λ r. r + k) (sym (same_held (eqb v.0 u) d (held_after d (Flag v f)) refl))
counted_after u (Unflag v f) d n k i b = i ∙ ap (λ r. r + k) (sym (same_held (eqb v.0 u) d (held_after d (Unflag v f)) refl))

pub rejects_are_counted : (g : Machine) (p u : ℕ) (h : List Entry) → IsLegal g h → rejects (part_of h p) u ≡ (held_of (part_of h p) u).rejects + withdraws (part_of h p) u
rejects_are_counted g p u _ empty = refl
rejects_are_counted g p u _ (longer h x legal f) = let old = rejects_are_counted g p u h legal in dite (ℕ_discrete p x.pass)
    (λ is. subst (λ q. rejects (part_of (h ++ x ∷ []) q) u ≡ (held_of (part_of (h ++ x ∷ []) q) u).rejects + withdraws (part_of (h ++ x ∷ []) q) u) (sym is)
    (subst (λ m. rejects m u ≡ (held_of m u).rejects + withdraws m u) (sym (part_own h x)) (more (part_of h x.pass) (backed g h x.pass u x.event) (subst (λ q. rejects (part_of h q) u ≡ (held_of (part_of h q) u).rejects + withdraws (part_of h q) u) is old))))
    (λ other. subst (λ m. rejects m u ≡ (held_of m u).rejects + withdraws m u) (sym (part_other h x p other)) old)
  where
    more : (m : List Entry) → (is_of u x.event ≡ true → May g h x.pass x.event → Backed x.event (held_of m u).rejects) → rejects m u ≡ (held_of m u).rejects + withdraws m u → rejects (m ++ x ∷ []) u ≡ (held_of (m ++ x ∷ []) u).rejects + withdraws (m ++ x ∷ []) u
    more m back old =
        let a = fold-append (λ n y. rejects_after u n y.event) 0 m (x ∷ []) in let b = fold-append (λ n y. withdraws_after u n y.event) 0 m (x ∷ []) in
        let d : (held_of (m ++ x ∷ []) u).rejects ≡ (cond (is_of u x.event) (held_after (held_of m u) x.event) (held_of m u)).rejects = ap (λ (k : Held). k.rejects) (held_of-snoc m x u) in
        let step = counted_after u x.event (held_of m u) (rejects m u) (withdraws m u) old (λ is. back is f.may) in omega arith
