-- How many elements of joined and of filtered lists pass a test, and how many entries of a history, by its passes.
use Rattle.std.proofs.Common.{ℕ, ◌≡◌, ◌≢◌, ◌+◌, Bool, true, false, cond, eqb, List, [], ◌∷◌, ◌++◌, refl, sym, ap, ◌∙◌, arith, eq-eqb, true≢false}
use Rattle.std.specs.List.{flat_map, filter, count_by, sum_by}
use Rattle.std.proofs.lemmas.Bool.{eqb-true}
use Rattle.std.proofs.lemmas.List.Sums.{sum_by-cons, sum_by-append}
use Rattle.usb_machine.specs.declared.entry.Entry.{Entry}
use Rattle.usb_machine.specs.Parts.{part_of}

-- what one element adds to a count
abbrev pub bit : Bool → ℕ
bit b = cond b 1 0

pub count-cons : {X : Type 0} (p : X → Bool) (x : X) (xs : List X) → count_by p (x ∷ xs) ≡ bit (p x) + count_by p xs
count-cons p x xs = sum_by-cons (λ x. bit (p x)) x xs

pub count-append : {X : Type 0} (p : X → Bool) (xs ys : List X) → count_by p (xs ++ ys) ≡ count_by p xs + count_by p ys
count-append p xs ys = sum_by-append (λ x. bit (p x)) xs ys

pub count-flat_map : {X Y : Type 0} (p : Y → Bool) (f : X → List Y) (xs : List X) → count_by p (flat_map f xs) ≡ sum_by (λ x. count_by p (f x)) xs
count-flat_map p f [] = refl
count-flat_map p f (x ∷ xs) =
    count-append p (f x) (flat_map f xs) ∙ (ap (λ n. count_by p (f x) + n) (count-flat_map p f xs) ∙ sym (sum_by-cons (λ x. count_by p (f x)) x xs))

-- a filter that leaves out none that pass
pub count-filter : {X : Type 0} (p q : X → Bool) → ((x : X) → q x ≡ false → p x ≡ false) → (xs : List X) → count_by p (filter q xs) ≡ count_by p xs
count-filter p q out [] = refl
count-filter {X} p q out (x ∷ xs) = go (q x) refl (count-filter p q out xs)
  where
    go : (b : Bool) → q x ≡ b → count_by p (filter q xs) ≡ count_by p xs → count_by p (cond b (x ∷ filter q xs) (filter q xs)) ≡ count_by p (x ∷ xs)
    go true e same = count-cons p x (filter q xs) ∙ (ap (λ n. bit (p x) + n) same ∙ sym (count-cons p x xs))
    go false e same = let none : bit (p x) ≡ 0 = ap bit (out x e) in let more = count-cons p x xs in omega arith

-- none passes
pub count_none : {X : Type 0} (p : X → Bool) → ((x : X) → p x ≡ false) → (xs : List X) → count_by p xs ≡ 0
count_none p none [] = refl
count_none p none (x ∷ xs) = let here : bit (p x) ≡ 0 = ap bit (none x) in let more = count-cons p x xs in let rest = count_none p none xs in omega arith

-- a part that is left when one entry more is looked at
shorter : (x : Entry) (h : List Entry) (p : ℕ) (b : Bool) → cond b (x ∷ part_of h p) (part_of h p) ≡ [] → part_of h p ≡ []
shorter x h p true none = cc
shorter x h p false none = none

-- where all entries are of three passes, each is counted in the part of one
pub count_by_passes : (p : Entry → Bool) (i j k : ℕ) → i ≢ j → i ≢ k → j ≢ k → (h : List Entry) → ((n : ℕ) → n ≢ i → n ≢ j → n ≢ k → part_of h n ≡ [])
    → count_by p h ≡ count_by p (part_of h i) + (count_by p (part_of h j) + count_by p (part_of h k))
count_by_passes p i j k ij ik jk [] others = refl
count_by_passes p i j k ij ik jk (x ∷ h) others =
    go (eqb x.pass i) (eqb x.pass j) (eqb x.pass k) refl refl refl (count_by_passes p i j k ij ik jk h (λ n a b c. shorter x h n (eqb x.pass n) (others n a b c)))
  where
    is : (n : ℕ) → eqb x.pass n ≡ true → x.pass ≡ n
    is n e = eqb-true x.pass n e

    isnt : (n : ℕ) → eqb x.pass n ≡ false → x.pass ≢ n
    isnt n e same = true≢false (sym (eq-eqb x.pass n same) ∙ e)

    lost : (b : Bool) → b ≡ true → cond b (x ∷ part_of h x.pass) (part_of h x.pass) ≡ [] → ⊥
    lost true e none = cc
    lost false e none = cc

    go : (a b c : Bool) → eqb x.pass i ≡ a → eqb x.pass j ≡ b → eqb x.pass k ≡ c
        → count_by p h ≡ count_by p (part_of h i) + (count_by p (part_of h j) + count_by p (part_of h k))
        → count_by p (x ∷ h)
        ≡ count_by p (cond a (x ∷ part_of h i) (part_of h i)) + (count_by p (cond b (x ∷ part_of h j) (part_of h j)) + count_by p (cond c (x ∷ part_of h k) (part_of h k)))
    go true true c d e f same = absurd (ij (sym (is i d) ∙ is j e))
    go true false true d e f same = absurd (ik (sym (is i d) ∙ is k f))
    go false true true d e f same = absurd (jk (sym (is j e) ∙ is k f))
    go false false false d e f same = absurd (lost (eqb x.pass x.pass) (eq-eqb x.pass x.pass refl) (others x.pass (isnt i d) (isnt j e) (isnt k f)))
    go true false false d e f same = let more = count-cons p x h in let own = count-cons p x (part_of h i) in omega arith
    go false true false d e f same = let more = count-cons p x h in let own = count-cons p x (part_of h j) in omega arith
    go false false true d e f same = let more = count-cons p x h in let own = count-cons p x (part_of h k) in omega arith
