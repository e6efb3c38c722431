-- The items of lists.
use Rattle.std.proofs.Common.{ℕ, zero, suc, ◌≡◌, ◌≢◌, ◌+◌, ◌<◌, ◌≤◌, ◌⊎◌, inl, inr, ⊎_elim, Bool, true, false, true≢false, Some, List, [], ◌∷◌, ◌++◌, length, take, get_or, refl, sym, ap, ◌∙◌, arith, fold, zero-add}
use Rattle.std.specs.Prelude.{slice_get, slice_set}
use Rattle.std.specs.List.{list_any}
use Rattle.std.proofs.lemmas.List.Folds.{list_any_at}
use Rattle.std.proofs.lemmas.Option.{slice_get_within, get_or_from_slice_get}

module _ {X : Type 0} where
  -- the items of two lists one after the other
  pub in_either : (xs ys : List X) (i : ℕ) (x : X) → slice_get (xs ++ ys) i ≡ Some x → (slice_get xs i ≡ Some x) ⊎ ((k : ℕ) × (i ≡ length xs + k) × (slice_get ys k ≡ Some x))
  in_either [] ys i x e = inr (i, (omega arith), e)
  in_either (z ∷ xs) ys zero x e = inl e
  in_either (z ∷ xs) ys (suc i) x e = ⊎_elim (λ (l : slice_get xs i ≡ Some x). inl l)
      (λ (r : (k : ℕ) × (i ≡ length xs + k) × (slice_get ys k ≡ Some x)). let at = r.1 in inr (r.0, (omega arith), r.2))
      (in_either xs ys i x e)

  -- and in a list with one item more
  pub in_longer : (xs : List X) (x z : X) (i : ℕ) → slice_get (xs ++ x ∷ []) i ≡ Some z → (slice_get xs i ≡ Some z) ⊎ ((i ≡ length xs) × (z ≡ x))
  in_longer [] x z zero e = let same : z ≡ x = cc in inr (refl, same)
  in_longer [] x z (suc i) e = cc
  in_longer (y ∷ xs) x z zero e = inl e
  in_longer (y ∷ xs) x z (suc i) e = ⊎_elim (λ (l : slice_get xs i ≡ Some z). inl l) (λ (r : (i ≡ length xs) × (z ≡ x)). inr (ap (λ k. suc k) r.0, r.1)) (in_longer xs x z i e)

  -- the items of the front list, and of the one after it
  pub in_front : (xs ys : List X) (i : ℕ) (x : X) → slice_get xs i ≡ Some x → slice_get (xs ++ ys) i ≡ Some x
  in_front [] ys i x at = cc
  in_front (y ∷ xs) ys zero x at = at
  in_front (y ∷ xs) ys (suc i) x at = in_front xs ys i x at

  pub get_after : (xs ys : List X) (k : ℕ) → slice_get (xs ++ ys) (length xs + k) ≡ slice_get ys k
  get_after [] ys k = ap (slice_get ys) (zero-add k)
  get_after (x ∷ xs) ys k = let next : length (x ∷ xs) + k ≡ suc (length xs + k) = omega arith in ap (slice_get (x ∷ xs ++ ys)) next ∙ get_after xs ys k

  -- an item of the front is one of the list
  pub slice_get-take : (xs : List X) (n j : ℕ) (x : X) → slice_get (take n xs) j ≡ Some x → slice_get xs j ≡ Some x
  slice_get-take [] zero j x e = e
  slice_get-take [] (suc n) j x e = e
  slice_get-take (y ∷ xs) zero j x e = cc
  slice_get-take (y ∷ xs) (suc n) zero x e = e
  slice_get-take (y ∷ xs) (suc n) (suc j) x e = slice_get-take xs n j x e

  -- no item passes a test that the list does not
  pub none_passes : (p : X → Bool) (xs : List X) → list_any p xs ≡ false → (i : ℕ) (x : X) → slice_get xs i ≡ Some x → p x ≡ true → ⊥
  none_passes p xs none i x at is = true≢false (sym (list_any_at p xs i x (slice_get_within xs i x at) (ap p (get_or_from_slice_get xs i x x at) ∙ is)) ∙ none)

  -- a fact that each step keeps holds at the end
  pub fold_keeps : {Y : Type 0} (P : Y → Type 0) (f : Y → X → Y) → ((y : Y) (x : X) → P y → P (f y x)) → (y : Y) (xs : List X) → P y → P (fold f y xs)
  fold_keeps P f step y [] is = is
  fold_keeps P f step y (x ∷ xs) is = fold_keeps P f step (f y x) xs (step y x is)

  -- as many items as there are, or more
  pub take_all : (xs : List X) (k : ℕ) → length xs ≤ k → take k xs ≡ xs
  take_all [] zero l = refl
  take_all [] (suc k) l = refl
  take_all (x ∷ xs) zero l = absurd (omega arith)
  take_all (x ∷ xs) (suc k) l = ap (λ ys. x ∷ ys) (take_all xs k (omega arith))

  -- the item at a place, whatever the default is
  pub any_default : (xs : List X) (i : ℕ) (d e : X) → i < length xs → get_or xs i d ≡ get_or xs i e
  any_default [] i d e l = absurd (omega arith)
  any_default (x ∷ xs) zero d e l = refl
  any_default (x ∷ xs) (suc i) d e l = any_default xs i d e (omega arith)

  -- the items of a list with another one at one place
  pub set_here : (xs : List X) (i : ℕ) (x : X) → i < length xs → slice_get (slice_set xs i x) i ≡ Some x
  set_here [] i x l = absurd (omega arith)
  set_here (y ∷ xs) zero x l = refl
  set_here (y ∷ xs) (suc i) x l = set_here xs i x (omega arith)

  pub set_elsewhere : (xs : List X) (i j : ℕ) (x : X) → j ≢ i → slice_get (slice_set xs i x) j ≡ slice_get xs j
  set_elsewhere [] i j x off = refl
  set_elsewhere (y ∷ xs) zero zero x off = absurd (off refl)
  set_elsewhere (y ∷ xs) zero (suc j) x off = refl
  set_elsewhere (y ∷ xs) (suc i) zero x off = refl
  set_elsewhere (y ∷ xs) (suc i) (suc j) x off = set_elsewhere xs i j x (λ e. off (ap (λ k. suc k) e))

  pub set_long : (xs : List X) (i : ℕ) (x : X) → length (slice_set xs i x) ≡ length xs
  set_long [] i x = refl
  set_long (y ∷ xs) zero x = refl
  set_long (y ∷ xs) (suc i) x = ap (λ k. suc k) (set_long xs i x)

  -- there is an item at each place below the length
  pub is_there : (xs : List X) (i : ℕ) → i < length xs → (x : X) × (slice_get xs i ≡ Some x)
  is_there [] i l = absurd (omega arith)
  is_there (x ∷ xs) zero l = (x, refl)
  is_there (x ∷ xs) (suc i) l = is_there xs i (omega arith)
