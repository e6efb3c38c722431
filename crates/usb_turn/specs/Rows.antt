-- Lists of rows, each made by one pass.
use Rattle.std.specs.Prelude.{◌≡◌, ℕ, ◌==◌, List, [], ◌∷◌, ◌++◌, length, filter, nat_lt, if◌then◌else◌}

-- the first list begins with the second
pub record Begins {R : Type 0} (rows seen : List R) : Type 0 where
  pub more : List R
  pub is : rows ≡ seen ++ more

-- the rows that the pass of this number made, in order
abbrev pub part : {R : Type 0} → (R → ℕ) → ℕ → List R → List R
part by number rows = filter (λ r. by r == number) rows

-- the longer of two lists, and the first where they are as long
abbrev pub longer : {R : Type 0} → List R → List R → List R
longer xs ys = if nat_lt (length xs) (length ys) then ys else xs

-- the number of the first part
abbrev pub number_of : {R : Type 0} → List (ℕ × List R) → ℕ
number_of [] = 0
number_of (x ∷ xs) = x.0

-- the rows of the first part
abbrev pub mine_of : {R : Type 0} → List (ℕ × List R) → List R
mine_of [] = []
mine_of (x ∷ xs) = x.1
