-- What holds of each item of a list that grows or changes at its end.
use Rattle.std.proofs.Common.{◌≡◌, ℕ, ◌+◌, ◌-◌, ◌⊎◌, inl, inr, Bool, true, false, cond, List, [], ◌∷◌, ◌++◌, length, zero, suc, Some, None, refl, sym, ap, ◌∙◌, arith, subst}
use Rattle.std.specs.Prelude.{slice_get, position, is_some, nat_lt}
use Rattle.std.specs.List.{All, list_any, position_or_len}
use Rattle.std.specs.Str.{bytes_eq}
use Rattle.std.proofs.lemmas.Bool.{ltb-false, true≢false}
use Rattle.std.proofs.lemmas.Option.{slice_get_within, get_or_from_slice_get, same_Some, none-some}
use Rattle.std.proofs.lemmas.List.{length_push}
use Rattle.std.proofs.lemmas.List.Elements.{All-nil, All-cons, All-head, All-tail}
use Rattle.std.proofs.lemmas.List.Folds.{list_any_at}
use Rattle.std.proofs.lemmas.List.Sums.{fails_before_first}
use Rattle.std.proofs.lemmas.Slice.Eq.{bytes_eq-Decides}
use Rattle.usb_statement.specs.Statements.{is_empty}
use Rattle.usb_scene.specs.Growth.{on_last}
use Rattle.usb_scene.proofs.Scenes.{on_last_push, get_push, has_last}

pub All-empty : {X : Type 0} (P : X → Type 0) (xs : List X) → is_empty xs ≡ true → All P xs
All-empty P [] h = All-nil P
All-empty P (x ∷ xs) h = cc

-- P of each item with its number
abbrev pub Each : {X : Type 0} → (ℕ → X → Type 0) → List X → Type 0
Each {X} P xs = (i : ℕ) (x : X) → slice_get xs i ≡ Some x → P i x

pub each_push : {X : Type 0} (P : ℕ → X → Type 0) (xs : List X) (x : X) → Each P xs → P (length xs) x → Each P (xs ++ x ∷ [])
each_push P [] x h new zero y e = subst (P 0) (same_Some x y e) new
each_push P [] x h new (suc i) y e = absurd (none-some y e)
each_push P (a ∷ xs) x h new zero y e = h zero y e
each_push P (a ∷ xs) x h new (suc i) y e = each_push (λ i. P (suc i)) xs x (λ i z g. h (suc i) z g) new i y e

get_before : {X : Type 0} (xs ys : List X) (i : ℕ) (y : X) → slice_get xs i ≡ Some y → slice_get (xs ++ ys) i ≡ Some y
get_before [] ys i y e = absurd (none-some y e)
get_before (a ∷ xs) ys zero y e = e
get_before (a ∷ xs) ys (suc i) y e = get_before xs ys i y e

-- a change of the last item
pub each_last : {X : Type 0} (P : ℕ → X → Type 0) (f : X → X) (xs : List X) → is_empty xs ≡ false → Each P xs
    → ((x : X) → slice_get xs (length xs - 1) ≡ Some x → P (length xs - 1) x → P (length xs - 1) (f x)) → Each P (on_last f xs)
each_last {X} P f xs some h change =
    let l = has_last xs some in
    let n = length l.before in
    let size : length xs ≡ n + 1 = ap (λ (ys : List X). length ys) l.split ∙ length_push l.before l.last in
    let at_n : slice_get xs n ≡ Some l.last = ap (λ (ys : List X). slice_get ys n) l.split ∙ get_push l.before l.last in
    let end : n ≡ length xs - 1 = omega arith in
    let at_end : slice_get xs (length xs - 1) ≡ Some l.last = ap (slice_get xs) (sym end) ∙ at_n in
    let changed : P n (f l.last) = subst (λ k. P k (f l.last)) (sym end) (change l.last at_end (h (length xs - 1) l.last at_end)) in
    let before : Each P l.before = λ i y e. h i y (ap (λ (ys : List X). slice_get ys i) l.split ∙ get_before l.before (l.last ∷ []) i y e) in
    let same : l.before ++ f l.last ∷ [] ≡ on_last f xs = sym (ap (on_last f) l.split ∙ on_last_push f l.before l.last) in
    subst (Each P) same (each_push P l.before (f l.last) before changed)

-- a change of the last item makes of P what Q asks
pub all_last : {X : Type 0} (P Q : X → Type 0) (f : X → X) (xs : List X) → is_empty xs ≡ false → All P xs → ((x : X) → P x → Q x)
    → ((x : X) → slice_get xs (length xs - 1) ≡ Some x → P x → Q (f x)) → All Q (on_last f xs)
all_last {X} P Q f [] some h keep change = cc
all_last {X} P Q f (x ∷ []) some h keep change = All-cons Q (f x) [] (change x refl (All-head P x [] h)) (All-nil Q)
all_last {X} P Q f (x ∷ y ∷ xs) some h keep change =
    let later : slice_get (x ∷ y ∷ xs) (length (x ∷ y ∷ xs) - 1) ≡ slice_get (y ∷ xs) (length (y ∷ xs) - 1) = ap (slice_get (x ∷ y ∷ xs)) (let e : length (x ∷ y ∷ xs) - 1 ≡ suc (length (y ∷ xs) - 1) = omega arith in e) in
    All-cons Q x (on_last f (y ∷ xs)) (keep x (All-head P x (y ∷ xs) h))
    (all_last P Q f (y ∷ xs) refl (All-tail P x (y ∷ xs) h) keep (λ z e g. change z (later ∙ e) g))

-- no two items have one key
abbrev pub Once : {X K : Type 0} → (X → K) → List X → Type 0
Once {X} {K} key xs = (i j : ℕ) (a b : X) → slice_get xs i ≡ Some a → slice_get xs j ≡ Some b → key a ≡ key b → i ≡ j

-- an item of a list whose last one changed, and the item that stood there
was_there : {X K : Type 0} (key : X → K) (f : X → X) → ((x : X) → key (f x) ≡ key x) → (xs : List X) (i : ℕ) (a : X) → slice_get (on_last f xs) i ≡ Some a
    → (b : X) × (slice_get xs i ≡ Some b) × (key b ≡ key a)
was_there key f same [] i a e = absurd (none-some a e)
was_there key f same (x ∷ []) zero a e = (x, refl, sym (same x) ∙ ap key (same_Some (f x) a e))
was_there key f same (x ∷ []) (suc i) a e = absurd (none-some a e)
was_there key f same (x ∷ y ∷ xs) zero a e = (x, refl, ap key (same_Some x a e))
was_there key f same (x ∷ y ∷ xs) (suc i) a e = was_there key f same (y ∷ xs) i a e

-- a change of the last item that keeps its key
pub once_last : {X K : Type 0} (key : X → K) (f : X → X) → ((x : X) → key (f x) ≡ key x) → (xs : List X) → Once key xs → Once key (on_last f xs)
once_last key f same xs h i j a b e g keys =
    let p = was_there key f same xs i a e in
    let q = was_there key f same xs j b g in
    h i j p.0 q.0 p.1 q.1 (p.2 ∙ keys ∙ sym q.2)

-- an item of a list that grew by one
pub pushed_cases : {X : Type 0} (xs : List X) (x : X) (i : ℕ) (y : X) → slice_get (xs ++ x ∷ []) i ≡ Some y → (slice_get xs i ≡ Some y) ⊎ ((i ≡ length xs) × (x ≡ y))
pushed_cases [] x zero y e = inr (refl, same_Some x y e)
pushed_cases [] x (suc i) y e = absurd (none-some y e)
pushed_cases (a ∷ xs) x zero y e = inl e
pushed_cases (a ∷ xs) x (suc i) y e =
    elim (pushed_cases xs x i y e) as (λ _. (slice_get xs i ≡ Some y) ⊎ ((suc i ≡ suc (length xs)) × (x ≡ y)))
    [ inl g ↦ inl g | inr g ↦ inr (ap suc g.0, g.1) ]

pub once_push : {X K : Type 0} (key : X → K) (xs : List X) (x : X) → Once key xs → ((i : ℕ) (a : X) → slice_get xs i ≡ Some a → key a ≡ key x → ⊥) → Once key (xs ++ x ∷ [])
once_push key xs x h new i j a b e g same =
    elim (pushed_cases xs x i a e) as (λ _. i ≡ j) [
      | inl e0 ↦ elim (pushed_cases xs x j b g) as (λ _. i ≡ j)
          [ inl g0 ↦ h i j a b e0 g0 same | inr g1 ↦ absurd (new i a e0 (same ∙ ap key (sym g1.1))) ]
      | inr e1 ↦ elim (pushed_cases xs x j b g) as (λ _. i ≡ j)
          [ inl g0 ↦ absurd (new j b g0 (sym same ∙ ap key (sym e1.1))) | inr g1 ↦ e1.0 ∙ sym g1.0 ]
    ]

-- no item passes a test that none passes
pub none_passes : {X : Type 0} (p : X → Bool) (xs : List X) (i : ℕ) (a : X) → list_any p xs ≡ false → slice_get xs i ≡ Some a → p a ≡ true → ⊥
none_passes p xs i a none e h =
    true≢false (sym (list_any_at p xs i a (slice_get_within xs i a e) (ap p (get_or_from_slice_get xs i a a e) ∙ h)) ∙ none)

not_within : (t : Bool) (n : ℕ) → is_some (cond t (Some n) None) ≡ false → t ≡ false
not_within true n h = cc
not_within false n h = refl

pub not_found : {X : Type 0} (p : X → Bool) (xs : List X) (i : ℕ) (a : X) → is_some (position p xs) ≡ false → slice_get xs i ≡ Some a → p a ≡ true → ⊥
not_found p xs i a none e h =
    let past = ltb-false (position_or_len p xs) (length xs) (not_within (nat_lt (position_or_len p xs) (length xs)) (position_or_len p xs) none) in
    let low = slice_get_within xs i a e in
    true≢false (sym (ap p (get_or_from_slice_get xs i a a e) ∙ h) ∙ fails_before_first p xs i a (omega arith))

pub same_bytes : (xs ys : List ℕ) → xs ≡ ys → bytes_eq xs ys ≡ true
same_bytes xs ys e = (bytes_eq-Decides xs ys).1 e
