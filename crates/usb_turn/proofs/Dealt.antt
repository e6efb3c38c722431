-- The passes that `new` gives, by their places.
use Rattle.std.proofs.Common.{◌≡◌, ℕ, zero, suc, ◌<◌, [], ◌∷◌, length, get_or, sym, refl, ap, ◌∙◌, arith, length-append}
use mathlib.Core.Logic.{dite}
use native.Mathlib.Decide.{ℕ_discrete}
use Rattle.std.proofs.lemmas.List.{get_or_append_left, get_or_push}
use Rattle.atomic_table.specs.Seated.{TableId}
use Rattle.usb_turn.specs.Pass.{Pass, fresh, dealt}

module _ (R : Type 0) (t : TableId) where
  pub length-dealt : (n : ℕ) → length (dealt {R = R} t n) ≡ n
  length-dealt zero = refl
  length-dealt (suc n) = omega (arith, length-append (dealt {R = R} t n) (fresh t n ∷ []), length-dealt n)

  pub dealt_at : (n k : ℕ) (d : Pass R) → k < n → get_or (dealt {R = R} t n) k d ≡ fresh t k
  dealt_at zero k d lt = absurd (omega arith)
  dealt_at (suc n) k d lt =
      let len : length (dealt {R = R} t n) ≡ n = length-dealt n in
      dite (ℕ_discrete k n)
      (λ e. get_or_push (dealt {R = R} t n) (fresh t n) d k (omega arith) ∙ ap (λ (j : ℕ). fresh t j) (sym e))
      (λ ne. let below : k < n = omega arith in get_or_append_left (dealt {R = R} t n) (fresh t n ∷ []) d k (omega arith) ∙ dealt_at n k d below)
