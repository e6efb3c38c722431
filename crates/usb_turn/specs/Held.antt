-- The rule of the table, and what its steps do to views.
use Rattle.std.specs.Prelude.{◌≡◌, ℕ, ◌%◌, ◌^◌, ◌<◌, ◌≤◌, ◌⊎◌, true, false, List, [], ◌∷◌, ◌++◌, length, Option, Some, All}
use mathlib.Core.Option.{some, none}
use lib.ListN.{get_elem?}
use Rattle.atomic_table.specs.Table.{State, Me}
use Rattle.usb_turn.specs.Rows.{Begins, part, longer, number_of, mine_of}
use Rattle.usb_turn.specs.declared.rule.View.{View}

-- by these parts the rows m are all that the number k made
abbrev pub In : {R : Type 0} → List (ℕ × List R) → ℕ → List R → Type 0
In [] k m = ⊥
In (x ∷ xs) k m = ((x.0 ≡ k) × (x.1 ≡ m)) ⊎ In xs k m

module _ {R : Type 0} where
  -- the seat that deals the passes, of which n is the next number
  abbrev pub dealer : ℕ → View R
  dealer n = record { parts = []; seen = []; heard = []; spare = n; has = false }

  -- the seat of a new pass
  abbrev pub blank : ℕ → View R
  blank n = record { parts = (n, []) ∷ []; seen = []; heard = []; spare = 0; has = false }

  -- a note of what a seat has seen
  abbrev pub note : List R → View R
  note seen = record { parts = []; seen = seen; heard = []; spare = 0; has = false }

  -- a seat has taken in another, and has heard what that had seen
  abbrev pub both : View R → View R → View R
  both v w = record v { parts = v.parts ++ w.parts; heard = w.seen }

  -- a seat with one number has added rows of its own
  abbrev pub grown : View R → List R → View R
  grown v more = record v { parts = (number_of v.parts, mine_of v.parts ++ more) ∷ []; seen = v.seen ++ more }

  -- the turn was given back
  abbrev pub rested : View R → View R
  rested v = record v { has = false }

  -- the longer of what was seen and what was heard is seen
  abbrev pub compared : View R → View R
  compared v = record v { seen = longer v.seen v.heard; heard = [] }

  -- the turn was taken, and all rows were seen
  abbrev pub busied : View R → List R → View R
  busied v seen = record v { seen = seen; has = true }

  -- all of these rows were seen
  abbrev pub filled : View R → List R → View R
  filled v seen = record v { seen = seen }

  -- a seat with one number, as each pass is
  abbrev pub HasOne : View R → Type 0
  HasOne v = v.parts ≡ (number_of v.parts, mine_of v.parts) ∷ []

module _ {R : Type 0} (by : R → ℕ) where
  -- the longer list begins with both, and what was a number's part of the rows seen is its part of the longer list too
  pub record Compared (v : View R) : Type 0 where
    pub seen : Begins (longer v.seen v.heard) v.seen
    pub heard : Begins (longer v.seen v.heard) v.heard
    pub own : (k : ℕ) (m : List R) → In v.parts k m → part by k v.seen ≡ m → part by k (longer v.seen v.heard) ≡ m

  -- what the seat has seen and heard are beginnings of the history, and each of its numbers has made the rows that it says
  pub record Fits (log : List R) (v : View R) : Type 0 where
    pub seen : Begins log v.seen
    pub heard : Begins log v.heard
    pub parts : (k : ℕ) (m : List R) → In v.parts k m → part by k log ≡ m

  -- each number below `spare` is at one seat at most, and only such numbers made rows. Seat 0 deals the next number
  pub record Common (spare : ℕ) (log : List R) (views : List (View R)) : Type 0 where
    pub fits : (i : ℕ) (v : View R) → get_elem? views i ≡ some v → Fits log v
    pub apart : (i j : ℕ) (v w : View R) (k : ℕ) (l m : List R) → get_elem? views i ≡ some v → get_elem? views j ≡ some w → In v.parts k l → In w.parts k m → i ≡ j
    pub below : (i : ℕ) (v : View R) (k : ℕ) (m : List R) → get_elem? views i ≡ some v → In v.parts k m → k < spare
    pub deals : (d : View R) × (get_elem? views 0 ≡ some d) × (d.parts ≡ []) × (d.spare ≡ spare)
    pub rows : All (λ r. by r < spare) log

-- the value stands for the rows, and its key is as told
abbrev pub keyed : {V R K : Type 0} → (V → List R → Type 0) → (V → K) → (K → Type 0) → V → List R → Type 0
keyed stands key is v rows = stands v rows × is (key v)

module _ {V R : Type 0} (stands : V → List R → Type 0) where
  -- the turn is free: the value is in its slot, stands for the whole history, and no seat has the turn
  pub record Free (log : List R) (s : State (Option V) (View R)) : Type 0 where
    pub value : V
    pub words : s.words ≡ 0 ∷ 0 ∷ (length log % 2 ^ 64) ∷ []
    pub homes : s.homes ≡ some (Some value) ∷ []
    pub stood : stands value log
    pub none_has : (i : ℕ) (v : View R) → get_elem? s.views i ≡ some v → v.has ≡ false

module _ {V R : Type 0} where
  -- the turn is held: the slot is empty, and one seat has the turn, which is a pass and has seen the whole history
  pub record Busy (log : List R) (s : State (Option V) (View R)) : Type 0 where
    pub seat : ℕ
    pub view : View R
    pub number : ℕ
    pub mine : List R
    pub words : s.words ≡ 0 ∷ 1 ∷ (length log % 2 ^ 64) ∷ []
    pub homes : s.homes ≡ none ∷ []
    pub at : get_elem? s.views seat ≡ some view
    pub has : view.has ≡ true
    pub all : view.seen ≡ log
    pub owns : view.parts ≡ (number, mine) ∷ []
    pub only : (i : ℕ) (v : View R) → get_elem? s.views i ≡ some v → v.has ≡ true → i ≡ seat

-- there is one history, which fits all seats, and the turn is free or held. No pass has a number from n on
abbrev pub HoldsTurns : {V R : Type 0} → (V → List R → Type 0) → (R → ℕ) → ℕ → State (Option V) (View R) → Type 0
HoldsTurns stands by n s = (log : List _) × (spare : ℕ) × (spare ≤ n) × Common by spare log s.views × (Free stands log s ⊎ Busy log s)

module _ {V R : Type 0} (stands : V → List R → Type 0) (by : R → ℕ) where
  -- the seat has the turn and the value, which stands for all rows. They begin with what it had seen, and its own rows are
  -- its part of them
  pub record Took (m w : Me (Option V) (View R)) : Type 0 where
    pub value : V
    pub seen : List R
    pub view : w ≡ (busied m.0 seen, (0, Some value) ∷ [])
    pub stood : stands value seen
    pub begins : Begins seen m.0.seen
    pub own : part by (number_of m.0.parts) seen ≡ mine_of m.0.parts

module _ {V R : Type 0} (stands : V → List R → Type 0) (by : R → ℕ) (most : ℕ) where
  -- the seat has seen all rows, for which some value stands. They begin with what it had seen, each of its numbers has made
  -- the rows that it says, and only numbers below `most` made rows
  pub record Filled (m w : Me (Option V) (View R)) : Type 0 where
    pub value : V
    pub seen : List R
    pub view : w ≡ (filled m.0 seen, m.1)
    pub stood : stands value seen
    pub begins : Begins seen m.0.seen
    pub parts : (k : ℕ) (l : List R) → In m.0.parts k l → part by k seen ≡ l
    pub made : All (λ r. by r < most) seen
