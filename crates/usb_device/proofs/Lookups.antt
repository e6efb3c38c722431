-- A list with another item at one place.
use Rattle.std.proofs.Common.{ℕ, zero, suc, ◌≡◌, ◌≢◌, ◌⊎◌, inl, inr, ⊎_elim, Some, List, [], ◌∷◌, refl, sym, ap, ◌∙◌, subst, arith}
use Rattle.std.specs.Prelude.{slice_get, slice_set}

-- at that place is the new item, and elsewhere the old one
pub looked_up : {X : Type 0} (xs : List X) (i j : ℕ) (y x : X) → slice_get (slice_set xs i y) j ≡ Some x → ((j ≡ i) × (x ≡ y)) ⊎ ((j ≢ i) × (slice_get xs j ≡ Some x))
looked_up [] i j y x e = cc
looked_up (z ∷ xs) zero zero y x e = let same : x ≡ y = cc in inl (refl, same)
looked_up (z ∷ xs) zero (suc j) y x e = inr ((λ q. absurd (omega arith)), e)
looked_up (z ∷ xs) (suc i) zero y x e = inr ((λ q. absurd (omega arith)), e)
looked_up (z ∷ xs) (suc i) (suc j) y x e = ⊎_elim (λ same. inl (ap (λ k. suc k) same.0, same.1)) (λ off. inr ((λ q. off.0 (omega arith)), off.1)) (looked_up xs i j y x e)

-- a property of each item by its place, kept by the others and had by the new one
pub each_set : {X : Type 0} (P Q : ℕ → X → Type 0) (xs ys : List X) (i : ℕ) (y : X) → ys ≡ slice_set xs i y → ((j : ℕ) (x : X) → slice_get xs j ≡ Some x → P j x)
    → Q i y → ((j : ℕ) (x : X) → j ≢ i → P j x → Q j x) → (j : ℕ) (x : X) → slice_get ys j ≡ Some x → Q j x
each_set P Q xs ys i y is old new others j x at = ⊎_elim
    (λ here. subst (λ k. Q k x) (sym here.0) (subst (Q i) (sym here.1) new))
    (λ off. others j x off.0 (old j x off.1))
    (looked_up xs i j y x (ap (λ zs. slice_get zs j) (sym is) ∙ at))
