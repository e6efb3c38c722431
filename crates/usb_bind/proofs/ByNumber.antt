-- The interfaces by their numbers.
use Rattle.std.proofs.Common.{◌≡◌, ℕ, Bool, true, false, not, cond, List, [], ◌∷◌, ◌++◌, Option, Some, None, refl, sym, ap, ◌∙◌}
use Rattle.std.specs.Prelude.{◌&&◌, ◌||◌, ◌==◌, find, fold}
use Rattle.std.specs.Option.{option_or}
use Rattle.std.proofs.lemmas.Bool.{eqb-true}
use Rattle.usb_desc.specs.declared.tree.ConfigTree.{ConfigTree}
use Rattle.usb_desc.specs.declared.tree.Alt.{Alt}
use Rattle.usb_bind.specs.Interfaces.{has_number, with_interface, interfaces_of, interface_at}

abbrev at_number : ℕ → Alt → Bool
at_number n a = a.number == n

abbrev first_setting : ℕ → Alt → Bool
first_setting n a = a.setting == 0 && a.number == n

or_none : {X : Type 0} (o : Option X) → option_or o None ≡ o
or_none None = refl
or_none (Some x) = refl

lacks_by : (a : Alt) (alts : List Alt) (n : ℕ) (t : Bool) → (t || has_number alts n) ≡ false → (has_number alts n ≡ false → find (at_number n) alts ≡ None)
    → cond t (Some a) (find (at_number n) alts) ≡ None
lacks_by a alts n true h rest = absurd cc
lacks_by a alts n false h rest = rest h

has_by : (a : Alt) (alts : List Alt) (n : ℕ) (other : Option Alt) (t : Bool) → (t || has_number alts n) ≡ true
    → (has_number alts n ≡ true → option_or (find (at_number n) alts) other ≡ find (at_number n) alts)
    → option_or (cond t (Some a) (find (at_number n) alts)) other ≡ cond t (Some a) (find (at_number n) alts)
has_by a alts n other true h rest = refl
has_by a alts n other false h rest = rest h

push_by : (b : Alt) (found last all : Option Alt) (t : Bool) → all ≡ option_or found last → cond t (Some b) all ≡ option_or (cond t (Some b) found) last
push_by b found last all true h = refl
push_by b found last all false h = h

-- where no interface has a number none is found, and else one is
lacks_find : (alts : List Alt) (n : ℕ) → has_number alts n ≡ false → find (at_number n) alts ≡ None
lacks_find [] n h = refl
lacks_find (a ∷ alts) n h = lacks_by a alts n (a.number == n) h (lacks_find alts n)

has_find : (alts : List Alt) (n : ℕ) (other : Option Alt) → has_number alts n ≡ true → option_or (find (at_number n) alts) other ≡ find (at_number n) alts
has_find [] n other h = absurd cc
has_find (a ∷ alts) n other h = has_by a alts n other (a.number == n) h (has_find alts n other)

-- what is found after one more interface
find_push : (alts : List Alt) (a : Alt) (n : ℕ) → find (at_number n) (alts ++ a ∷ []) ≡ option_or (find (at_number n) alts) (cond (a.number == n) (Some a) None)
find_push [] a n = refl
find_push (b ∷ alts) a n = push_by b (find (at_number n) alts) (cond (a.number == n) (Some a) None) (find (at_number n) (alts ++ a ∷ [])) (b.number == n) (find_push alts a n)

or_both : {X : Type 0} (a b c : Option X) → option_or (option_or a b) c ≡ option_or a (option_or b c)
or_both None b c = refl
or_both (Some x) b c = refl

cond_or : (a : Alt) (t : Bool) (rest : Option Alt) → option_or (cond t (Some a) None) rest ≡ cond t (Some a) rest
cond_or a true rest = refl
cond_or a false rest = refl

-- a number that some interface has already
again_by : (alts : List Alt) (a : Alt) (n : ℕ) (rest : Option Alt) (t : Bool) → (a.number == n) ≡ t → has_number alts a.number ≡ true
    → option_or (find (at_number n) alts) rest ≡ option_or (find (at_number n) alts) (cond t (Some a) rest)
again_by alts a n rest true e h =
    let has : has_number alts n ≡ true = ap (has_number alts) (sym (eqb-true a.number n e)) ∙ h in
    has_find alts n rest has ∙ sym (has_find alts n (Some a) has)
again_by alts a n rest false e h = refl

one_by : (alts : List Alt) (a : Alt) (n : ℕ) (rest : Option Alt) (zero held : Bool) → has_number alts a.number ≡ held
    → option_or (find (at_number n) (cond (zero && not held) (alts ++ a ∷ []) alts)) rest
    ≡ option_or (find (at_number n) alts) (cond (zero && a.number == n) (Some a) rest)
one_by alts a n rest false held h = refl
one_by alts a n rest true true h = again_by alts a n rest (a.number == n) refl h
one_by alts a n rest true false h =
    ap (λ o. option_or o rest) (find_push alts a n)
    ∙ or_both (find (at_number n) alts) (cond (a.number == n) (Some a) None) rest
    ∙ ap (option_or (find (at_number n) alts)) (cond_or a (a.number == n) rest)

found_on : (more alts : List Alt) (n : ℕ)
    → find (at_number n) (fold with_interface alts more) ≡ option_or (find (at_number n) alts) (find (first_setting n) more)
found_on [] alts n = sym (or_none (find (at_number n) alts))
found_on (a ∷ more) alts n =
    found_on more (with_interface alts a) n ∙ one_by alts a n (find (first_setting n) more) (a.setting == 0) (has_number alts a.number) refl

pub by_number : (config : ConfigTree) (n : ℕ) → interface_at config n ≡ find (λ (a : Alt). a.number == n) (interfaces_of config)
by_number config n = sym (found_on config.alts [] n)
