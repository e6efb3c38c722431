-- The first place where a test is passed.
use Rattle.std.proofs.Common.{ℕ, ◌≡◌, ◌+◌, ◌-◌, ◌<◌, ◌≤◌, Bool, true, false, not, ◌||◌, cond, true≢false, Option, Some, None, List, [], ◌∷◌, ◌++◌, length, take, drop, refl, sym, ap, ◌∙◌, subst, arith, length-append, zero-add}
use Rattle.std.specs.List.{list_any, position, position_or_len}
use Rattle.std.specs.Option.{option_map}
use Rattle.std.proofs.Math.Dec.{ltb}
use Rattle.std.proofs.lemmas.Bool.{lt-ltb}
use Rattle.std.proofs.lemmas.Bool.Decides.{nat_tests}
use Rattle.std.proofs.lemmas.Grind.{common_steps}
use Rattle.std.proofs.lemmas.List.{take-append-drop}

-- after items that fail a test, the first that passes
behind_len : {X : Type 0} (p : X → Bool) (xs ys : List X) → list_any p xs ≡ false → position_or_len p (xs ++ ys) ≡ length xs + position_or_len p ys
behind_len p [] ys e = sym (zero-add (position_or_len p ys))
behind_len p (x ∷ xs) ys e = go (p x) refl e (behind_len p xs ys)
  where
    go : (b : Bool) → p x ≡ b → (b || list_any p xs) ≡ false → (list_any p xs ≡ false → position_or_len p (xs ++ ys) ≡ length xs + position_or_len p ys)
        → position_or_len p (x ∷ xs ++ ys) ≡ length (x ∷ xs) + position_or_len p ys
    go true is off rest = cc
    go false is off rest =
        let l = rest off in
        let one : 1 + position_or_len p (xs ++ ys) ≡ length (x ∷ xs) + position_or_len p ys = omega arith in
        ap (λ b. cond {A = ℕ} (not b) (1 + position_or_len p (xs ++ ys)) 0) is ∙ one

same_test : (n a b : ℕ) → ltb (n + a) (n + b) ≡ ltb a b
same_test n a b = grind (arith, nat_tests)

abbrev pub shifted : ℕ → Option ℕ → Option ℕ
shifted n o = option_map (λ k. n + k) o

pub position_after : {X : Type 0} (p : X → Bool) (xs ys : List X) → list_any p xs ≡ false → position p (xs ++ ys) ≡ shifted (length xs) (position p ys)
position_after p xs ys e =
    let n = length xs in let k = position_or_len p ys in
    (λ i. cond (ltb (behind_len p xs ys e i) (length-append xs ys i)) (Some (behind_len p xs ys e i)) None)
    ∙ (ap (λ b. cond b (Some (n + k)) None) (same_test n k (length ys)) ∙ go (ltb k (length ys)))
  where
    go : (b : Bool) → cond b (Some (length xs + position_or_len p ys)) None ≡ shifted (length xs) (cond b (Some (position_or_len p ys)) None)
    go true = refl
    go false = refl

-- a test that none of the first passes is passed first among the others
pub position_from_start : {X : Type 0} (p : X → Bool) (xs : List X) (start : ℕ) → start ≤ length xs → list_any p (take start xs) ≡ false
    → position p xs ≡ shifted start (position p (take (length xs - start) (drop start xs)))
position_from_start p xs start l e =
    let whole : take (length xs - start) (drop start xs) ≡ drop start xs = grind (arith, common_steps) in
    let long : length (take start xs) ≡ start = grind (arith, common_steps) in
    ap (position p) (sym (take-append-drop start xs)) ∙ (position_after p (take start xs) (drop start xs) e ∙ (λ i. shifted (long i) (position p (sym whole i))))

-- a test that some element passes has a first place
pub found : {X : Type 0} (p : X → Bool) (xs : List X) → list_any p xs ≡ true → position_or_len p xs < length xs
found p [] e = absurd (true≢false (sym e))
found p (x ∷ xs) e = go (p x) refl (found p xs)
  where
    go : (b : Bool) → p x ≡ b → (list_any p xs ≡ true → position_or_len p xs < length xs) → position_or_len p (x ∷ xs) < length (x ∷ xs)
    go true is rest = subst (λ b. cond (not b) (1 + position_or_len p xs) 0 < length (x ∷ xs)) (sym is) (omega arith)
    go false is rest = let l = rest (sym (ap (λ b. b || list_any p xs) is) ∙ e) in
        subst (λ b. cond (not b) (1 + position_or_len p xs) 0 < length (x ∷ xs)) (sym is) (omega arith)

pub has_position : {X : Type 0} (p : X → Bool) (xs : List X) → list_any p xs ≡ true → position p xs ≡ Some (position_or_len p xs)
has_position p xs e = ap (λ b. cond b (Some (position_or_len p xs)) None) (lt-ltb (position_or_len p xs) (length xs) (found p xs e))

or-true : (a : Bool) → (a || true) ≡ true
or-true true = refl
or-true false = refl

pub either : (a b : Bool) → b ≡ true → (a || b) ≡ true
either a b e = ap (λ c. a || c) e ∙ or-true a
