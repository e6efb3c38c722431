-- Parts of longer histories.
use Rattle.std.proofs.Common.{ℕ, ◌≡◌, ◌≢◌, cond, eqb, List, [], ◌∷◌, ◌++◌, length, refl, sym, ap, ◌∙◌, arith, append_assoc, append-nil, length-append, eq-eqb, ne_eqb}
use Rattle.std.proofs.lemmas.List.Elements.{filter-append}
use mathlib.Core.List.{IsPrefix}
use mathlib.Core.Logic.{dite}
use native.Mathlib.Decide.{ℕ_discrete}
use Rattle.usb_machine.specs.declared.entry.Entry.{Entry}
use Rattle.usb_machine.specs.Parts.{part_of}
use Rattle.usb_machine.specs.Fresh.{Begins}
use Rattle.usb_trace.specs.Claims.{claimed_by}
use Rattle.usb_trace.proofs.Claims.{claimed_same}

-- the same beginning, in the library's word
pub begins_prefix : (h a : List Entry) → Begins h a → IsPrefix a h
begins_prefix h a b = (b.more, sym b.is)

pub part-append : (p : ℕ) (h xs : List Entry) → part_of (h ++ xs) p ≡ part_of h p ++ part_of xs p
part-append p h xs = filter-append (λ x. eqb x.pass p) h xs

-- the part of a longer history
pub part_longer : (p : ℕ) (h a : List Entry) (b : Begins h a) → part_of h p ≡ part_of a p ++ part_of b.more p
part_longer p h a b = ap (λ l. part_of l p) b.is ∙ part-append p a b.more

both_nothing : {X : Type 0} (xs ys : List X) → xs ++ ys ≡ [] → (xs ≡ []) × (ys ≡ [])
both_nothing [] ys e = (refl, e)
both_nothing (x ∷ xs) ys e = absurd (cc (e))

no_more : {X : Type 0} (xs ys : List X) → xs ++ ys ≡ xs → ys ≡ []
no_more {X} xs [] e = refl
no_more {X} xs (y ∷ ys) e = let l = ap (λ (k : List X). length k) e in let m = length-append xs (y ∷ ys) in absurd (omega arith)

-- a pass that has nothing at the end has nothing at the beginning
pub nothing_before : (p : ℕ) (h a : List Entry) → Begins h a → part_of h p ≡ [] → part_of a p ≡ []
nothing_before p h a b none = (both_nothing (part_of a p) (part_of b.more p) (sym (part_longer p h a b) ∙ none)).0

-- what a pass had at a beginning, and still has at the end, it has between, and it makes nothing after
pub nothing_after : (p : ℕ) (h a m : List Entry) (b : Begins h a) → part_of a p ≡ m → part_of h p ≡ m → part_of b.more p ≡ []
nothing_after p h a m b at end = no_more m (part_of b.more p) (ap (λ l. l ++ part_of b.more p) (sym at) ∙ (sym (part_longer p h a b) ∙ end))

pub part_between : (p : ℕ) (h b a m : List Entry) → Begins h b → Begins b a → part_of a p ≡ m → part_of h p ≡ m → part_of b p ≡ m
part_between p h b a m hb ba at end =
    let whole : Begins h a = record { more = ba.more ++ hb.more; is = hb.is ∙ (ap (λ l. l ++ hb.more) ba.is ∙ append_assoc a ba.more hb.more) } in
    let none : part_of (ba.more ++ hb.more) p ≡ [] = nothing_after p h a m whole at end in
    let first : part_of ba.more p ≡ [] = (both_nothing (part_of ba.more p) (part_of hb.more p) (sym (part-append p ba.more hb.more) ∙ none)).0 in
    part_longer p b a ba ∙ ((λ i. at i ++ first i) ∙ append-nil m)

-- and what it has claimed at the end it had claimed at the beginning
pub claimed_then : (p : ℕ) (h a m : List Entry) → Begins h a → part_of a p ≡ m → part_of h p ≡ m → claimed_by p h ≡ claimed_by p a
claimed_then p h a m b at end = claimed_same p a h b.more [] b.is (end ∙ (sym at ∙ sym (append-nil (part_of a p)))) tt

-- entries of one pass alone
pub only_part : (q : ℕ) (xs : List Entry) → ((p : ℕ) → p ≢ q → part_of xs p ≡ []) → part_of xs q ≡ xs
only_part q [] none = refl
only_part q (x ∷ xs) none = dite (ℕ_discrete x.pass q)
    (λ is. ap (λ b. cond b (x ∷ part_of xs q) (part_of xs q)) (eq-eqb x.pass q is) ∙ ap (λ l. x ∷ l) (only_part q xs (λ p off. rest p (λ e. off (sym e ∙ is)) (none p off))))
    (λ off. absurd (here (sym (ap (λ b. cond b (x ∷ part_of xs x.pass) (part_of xs x.pass)) (eq-eqb x.pass x.pass refl)) ∙ none x.pass off)))
  where
    rest : (p : ℕ) → x.pass ≢ p → part_of (x ∷ xs) p ≡ [] → part_of xs p ≡ []
    rest p off e = sym (ap (λ b. cond b (x ∷ part_of xs p) (part_of xs p)) (ne_eqb x.pass p off)) ∙ e

    here : x ∷ part_of xs x.pass ≡ [] → ⊥
    here e = absurd (cc (e))
