-- What contracts see of a pass.
use Rattle.std.specs.Prelude.{◌≡◌, ℕ, ◌%◌, ◌^◌, ◌<◌, ◌⊎◌, Bool, true, false, List, [], ◌∷◌, ◌++◌, length, Option, None, All, Any, suc, zero}
use Rattle.atomic_table.specs.Table.{Me}
use Rattle.atomic_table.specs.Seated.{TableId}
use Rattle.usb_turn.specs.Rows.{Begins, part, longer, number_of, mine_of}
use Rattle.usb_turn.specs.Held.{In, HasOne}
use Rattle.usb_turn.specs.declared.rule.View.{View}

-- the table to whose turns it is a pass, its number, the rows that it has seen, its own rows, and whether it has the turn
pub record Pass (R : Type 0) : Type 0 where
  pub table : TableId
  pub number : ℕ
  pub seen : List R
  pub mine : List R
  pub has : Bool

-- a seat as contracts see it
abbrev pub pass_of : {R : Type 0} → TableId → View R → Pass R
pass_of t v = record { table = t; number = number_of v.parts; seen = v.seen; mine = mine_of v.parts; has = v.has }

-- what is always so of a pass: some value stands for what it has seen, its own rows are its part of that, and it carries
-- the empty slot while it has the turn
pub record Sits {V R : Type 0} (stands : V → List R → Type 0) (by : R → ℕ) (rows : ℕ) (me : Me (Option V) (View R)) : Type 0 where
  pub stood : (v : V) × stands v me.0.seen
  pub parts : HasOne me.0
  pub own : part by (number_of me.0.parts) me.0.seen ≡ mine_of me.0.parts
  pub plain : me.0.spare ≡ 0
  pub idle : me.0.has ≡ false → me.1 ≡ []
  pub busy : me.0.has ≡ true → (me.1 ≡ (0, None) ∷ []) × (rows ≡ length me.0.seen % 2 ^ 64)

module _ {R : Type 0} where
  -- a pass that has seen nothing
  abbrev pub fresh : TableId → ℕ → Pass R
  fresh t n = record { table = t; number = n; seen = []; mine = []; has = false }

  -- new passes of the numbers below n, in order
  abbrev pub dealt : TableId → ℕ → List (Pass R)
  dealt t zero = []
  dealt t (suc n) = dealt t n ++ fresh t n ∷ []

  -- the pass has taken the turn, and has now seen these rows
  abbrev pub entered : Pass R → List R → Pass R
  entered p seen = record p { seen = seen; has = true }

  -- the pass has given the turn back, with these rows added
  abbrev pub left : Pass R → List R → Pass R
  left p more = record p { seen = p.seen ++ more; mine = p.mine ++ more; has = false }

  -- the pass has met another, which had seen these rows
  abbrev pub met : Pass R → List R → Pass R
  met p seen = record p { seen = longer p.seen seen }

module _ {R : Type 0} where
  -- passes of this table without the turn, among them one of each number below n
  pub record AllOf (t : TableId) (n : ℕ) (passes : List (Pass R)) : Type 0 where
    pub each : All (λ p. (p.table ≡ t) × (p.has ≡ false)) passes
    pub all : (k : ℕ) → k < n → Any (λ p. p.number ≡ k) passes

module _ {R : Type 0} (by : R → ℕ) where
  -- no row, or one that this number made
  abbrev pub AtMostOne : ℕ → List R → Type 0
  AtMostOne number more = (more ≡ []) ⊎ ((r : R) × (more ≡ r ∷ []) × (by r ≡ number))

  -- its own rows are its part of what it has seen
  abbrev pub Owns : Pass R → Type 0
  Owns p = part by p.number p.seen ≡ p.mine

  -- the rows begin with what each pass has seen, each pass's own rows are its part of them, and each row was made by one
  -- of the passes
  pub record Closes (rows : List R) (passes : List (Pass R)) : Type 0 where
    pub begins : All (λ p. Begins rows p.seen) passes
    pub own : All (λ p. part by p.number rows ≡ p.mine) passes
    pub made : All (λ r. Any (λ p. p.number ≡ by r) passes) rows

-- the seat has seen what each pass has seen, and has each pass's number with its rows
abbrev pub Gathered : {R : Type 0} → View R → List (Pass R) → Type 0
Gathered v passes = All (λ p. Begins v.seen p.seen × In v.parts p.number p.mine) passes

-- what one turn does to its pass: rows of other passes may come to what it has seen, and then these of its own
pub record Turned {R : Type 0} (by : R → ℕ) (p q : Pass R) (more : List R) : Type 0 where
  pub same : q ≡ record p { seen = q.seen; mine = q.mine; has = false }
  pub between : List R
  pub seen : q.seen ≡ (p.seen ++ between) ++ more
  pub mine : q.mine ≡ p.mine ++ more
  pub own : part by q.number q.seen ≡ q.mine
