-- Worked cases of the definitions, computed by the checker. A row is the number of the pass that made it, and a thing.
use Rattle.std.proofs.Common.{◌≡◌, ℕ, false, List, [], ◌∷◌, refl}
use Rattle.atomic_table.specs.Seated.{TableId}
use Rattle.usb_turn.specs.Rows.{part, longer}
use Rattle.usb_turn.specs.Pass.{Pass, dealt, entered, left, met}

abbrev Row : Type 0
Row = ℕ × ℕ

abbrev three : List Row
three = (1, 7) ∷ (0, 8) ∷ (1, 9) ∷ []

part_of_one : part (λ (r : Row). r.0) 1 three ≡ (1, 7) ∷ (1, 9) ∷ []
part_of_one = refl

part_of_a_pass_without_rows : part (λ (r : Row). r.0) 2 three ≡ []
part_of_a_pass_without_rows = refl

longer_second : longer ((1, 7) ∷ []) three ≡ three
longer_second = refl

longer_first : longer three ((1, 7) ∷ []) ≡ three
longer_first = refl

module _ (t : TableId) where
  abbrev pass : ℕ → List Row → List Row → Pass Row
  pass k seen mine = record { table = t; number = k; seen = seen; mine = mine; has = false }

  -- two passes are dealt, with the numbers 0 and 1
  two_dealt : dealt t 2 ≡ pass 0 [] [] ∷ pass 1 [] [] ∷ []
  two_dealt = refl

  -- pass 0 takes its turn after pass 1 added a row, and adds one
  turn_of_zero : left (entered (pass 0 [] []) ((1, 7) ∷ [])) ((0, 8) ∷ []) ≡ pass 0 ((1, 7) ∷ (0, 8) ∷ []) ((0, 8) ∷ [])
  turn_of_zero = refl

  -- a turn that adds no row
  turn_without_a_row : left (entered (pass 0 [] []) ((1, 7) ∷ [])) [] ≡ pass 0 ((1, 7) ∷ []) []
  turn_without_a_row = refl

  -- pass 1 has seen its own row, meets pass 0, and has then seen that one's row too, which is none of its own
  one_meets_zero : met (pass 1 ((1, 7) ∷ []) ((1, 7) ∷ [])) ((1, 7) ∷ (0, 8) ∷ []) ≡ pass 1 ((1, 7) ∷ (0, 8) ∷ []) ((1, 7) ∷ [])
  one_meets_zero = refl

  -- a pass that has seen more than the one that it meets learns nothing
  zero_meets_one : met (pass 0 three ((0, 8) ∷ [])) ((1, 7) ∷ []) ≡ pass 0 three ((0, 8) ∷ [])
  zero_meets_one = refl
