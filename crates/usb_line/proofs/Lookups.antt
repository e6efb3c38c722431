-- A list with another item at one place.
use Rattle.std.proofs.Common.{ℕ, zero, suc, ◌≡◌, ⊎_elim, Option, Some, None, List, [], ◌∷◌, refl, sym, ap, ◌∙◌}
use Rattle.std.specs.Prelude.{slice_get, slice_set}
use Rattle.usb_device.proofs.Lookups.{looked_up}

-- what stands where an item was put is that item
pub set_read : {X : Type 0} (xs ys : List X) (i : ℕ) (y x : X) → ys ≡ slice_set xs i y → slice_get ys i ≡ Some x → x ≡ y
set_read xs ys i y x is at = ⊎_elim (λ here. here.1) (λ off. absurd (off.0 refl)) (looked_up xs i i y x (ap (λ zs. slice_get zs i) (sym is) ∙ at))

-- the later of two items at one place stays
pub set_twice : {X : Type 0} (xs : List X) (i : ℕ) (y z : X) → slice_set (slice_set xs i y) i z ≡ slice_set xs i z
set_twice [] i y z = refl
set_twice (x ∷ xs) zero y z = refl
set_twice (x ∷ xs) (suc i) y z = ap (λ l. x ∷ l) (set_twice xs i y z)

-- an item put where it stands changes nothing
pub set_again : {X : Type 0} (xs : List X) (i : ℕ) (y : X) → slice_get xs i ≡ Some y → slice_set xs i y ≡ xs
set_again [] i y is = cc
set_again (x ∷ xs) zero y is = let same : y ≡ x = cc in ap (λ z. z ∷ xs) same
set_again (x ∷ xs) (suc i) y is = ap (λ l. x ∷ l) (set_again xs i y is)

pub none_of : {X : Type 0} (o : Option X) → ((x : X) → o ≡ Some x → ⊥) → o ≡ None
none_of None off = refl
none_of (Some x) off = absurd (off x refl)
