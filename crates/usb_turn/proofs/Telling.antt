-- The steps between two seats keep the rule: a seat gives a note of what it has seen, takes in another seat, and
-- compares; and the seat that has all numbers sees all rows.
use Rattle.std.proofs.Common.{◌≡◌, ℕ, ◌<◌, ◌≤◌, ◌≢◌, ◌⊎◌, false, List, [], ◌∷◌, ◌++◌, length, Option, set, slice_set, slice_index, sym, refl, ap, subst, ◌∙◌, inl, inr, ⊎_elim, arith}
use mathlib.Core.Option.{some, some-injective}
use lib.ListN.{get_elem?}
use Rattle.atomic_table.proofs.Lists.{at_set, set_else, set_again, at_longer}
use Rattle.atomic_table.specs.Table.{State, Me, keeps, Allows, Splits, Joins}
use Rattle.usb_turn.specs.Rows.{longer}
use Rattle.usb_turn.specs.Held.{In, Fits, Common, Free, Busy, HoldsTurns, keyed, filled, Filled, note, both, compared, Compared}
use Rattle.usb_turn.specs.declared.rule.View.{View}
use Rattle.usb_turn.proofs.Rows.{begins_self, begins_nil, part_between, longer_begins}
use Rattle.usb_turn.proofs.Views.{at_end, true_false, looked, noted, joined}

module _ {V R : Type 0} (stands : V → List R → Type 0) (by : R → ℕ) (n slots id : ℕ) (v : View R) where
  -- a seat without the turn changes its view, and the turn stays where it is
  pub still : (log : List R) (s : State (Option V) (View R)) (w : View R) → get_elem? s.views id ≡ some v → v.has ≡ false → w.has ≡ false → Free stands log s ⊎ Busy log s
      → Free stands log (record { words = s.words; homes = s.homes; views = set s.views id w }) ⊎ Busy log (record { words = s.words; homes = s.homes; views = set s.views id w })
  still log s w at idle idle' (inl f) = inl (record {
    value = f.value;
    words = f.words;
    homes = f.homes;
    stood = f.stood;
    none_has = λ i u e. ⊎_elim (λ (t : (i ≡ id) × (w ≡ u)). ap (λ (z : View R). z.has) (sym t.1) ∙ idle') (λ (t : (i ≢ id) × (get_elem? s.views i ≡ some u)). f.none_has i u t.1) (at_set s.views id i w u e);
  })
  still log s w at idle idle' (inr b) = inr (record {
    seat = b.seat;
    view = b.view;
    number = b.number;
    mine = b.mine;
    words = b.words;
    homes = b.homes;
    at = set_else s.views id b.seat w other ∙ b.at;
    has = b.has;
    all = b.all;
    owns = b.owns;
    only = λ i u e h. ⊎_elim (λ (t : (i ≡ id) × (w ≡ u)). absurd (true_false u.has h (ap (λ (z : View R). z.has) (sym t.1) ∙ idle'))) (λ (t : (i ≢ id) × (get_elem? s.views i ≡ some u)). b.only i u t.1 h) (at_set s.views id i w u e);
  })
    where
      other : b.seat ≢ id
      other e = true_false b.view.has b.has (ap (λ (z : View R). z.has) (some-injective b.view v (sym (subst (λ (j : ℕ). get_elem? s.views j ≡ some b.view) e b.at) ∙ at)) ∙ idle)

module _ {V R : Type 0} (stands : V → List R → Type 0) (by : R → ℕ) (n slots id : ℕ) where
  -- a load compares what was heard with what was seen
  pub compares : (m : Me (Option V) (View R)) → m.0.has ≡ false
      → Allows (HoldsTurns stands by n) slots id m 2 (λ x. x) (λ _ w. (w ≡ (compared m.0, m.1)) × Compared by m.0)
  compares m idle s holds count at small =
      let v = m.0 in
      let fit : Fits by holds.0 v = holds.3.fits id v at in
      let l = longer_begins holds.0 v.seen v.heard fit.seen fit.heard in
      let common = looked by holds.1 holds.0 s.views id v (compared v) holds.3 at refl refl l.2 (begins_nil holds.0) in
      let facts : Compared by v = record {
        seen = l.0;
        heard = l.1;
        own = λ k p h own. part_between by k holds.0 (longer v.seen v.heard) v.seen p l.2 l.0 own (fit.parts k p h);
      } in
      let turn = still stands by n slots id v holds.0 s (compared v) at idle idle holds.4 in
      let P : List ℕ → Type 0 = λ ws. Free stands holds.0 (record { words = ws; homes = s.homes; views = set s.views id (compared v) }) ⊎ Busy holds.0 (record { words = ws; homes = s.homes; views = set s.views id (compared v) }) in
      let same : slice_set s.words 2 (slice_index s.words 2) ≡ s.words =
      ⊎_elim (λ (f : Free stands holds.0 s). ap (λ (ws : List ℕ). slice_set ws 2 (slice_index ws 2)) f.words ∙ sym f.words)
      (λ (b : Busy holds.0 s). ap (λ (ws : List ℕ). slice_set ws 2 (slice_index ws 2)) b.words ∙ sym b.words) holds.4 in
      (compared v, keeps, tt, (holds.0, holds.1, holds.2, common, subst P (sym same) turn), (refl, facts))

  -- the same where a seat without the turn is added
  pub at_more : (log : List R) (s : State (Option V) (View R)) (u : View R) → u.has ≡ false → Free stands log s ⊎ Busy log s
      → Free stands log (record { words = s.words; homes = s.homes; views = s.views ++ u ∷ [] }) ⊎ Busy log (record { words = s.words; homes = s.homes; views = s.views ++ u ∷ [] })
  at_more log s u idle (inl f) = inl (record {
    value = f.value;
    words = f.words;
    homes = f.homes;
    stood = f.stood;
    none_has = λ i x e. ⊎_elim (λ (t : get_elem? s.views i ≡ some x). f.none_has i x t) (λ (t : (i ≡ length s.views) × (u ≡ x)). ap (λ (z : View R). z.has) (sym t.1) ∙ idle) (at_end s.views u x i e);
  })
  at_more log s u idle (inr b) = inr (record {
    seat = b.seat;
    view = b.view;
    number = b.number;
    mine = b.mine;
    words = b.words;
    homes = b.homes;
    at = at_longer s.views (u ∷ []) b.seat b.view b.at;
    has = b.has;
    all = b.all;
    owns = b.owns;
    only = λ i x e h. ⊎_elim (λ (t : get_elem? s.views i ≡ some x). b.only i x t h) (λ (t : (i ≡ length s.views) × (u ≡ x)). absurd (true_false x.has h (ap (λ (z : View R). z.has) (sym t.1) ∙ idle))) (at_end s.views u x i e);
  })

  -- a seat gives a note of what it has seen
  pub tells : (v : View R) → Splits (HoldsTurns stands by n) id v v (note v.seen)
  tells v s holds at =
      let same : set s.views id v ≡ s.views = set_again s.views id v at in
      let K : List (View R) → Type 0 = λ l. HoldsTurns stands by n (record { words = s.words; homes = s.homes; views = l ++ note v.seen ∷ [] }) in
      subst K (sym same) (holds.0, holds.1, holds.2, noted by holds.1 holds.0 s.views v.seen holds.3 (holds.3.fits id v at).seen, at_more holds.0 s (note v.seen) refl holds.4)

  -- a seat takes in another
  pub joins : (v w : View R) (other k : ℕ) (m : List R) → v.has ≡ false → w.has ≡ false → In v.parts k m → w.spare ≡ 0 → Joins (HoldsTurns stands by n) id v other w (both v w) (note [])
  joins v w other k m idle idle' mine plain s holds at ne there =
      let from : get_elem? s.views other ≡ some w = sym (set_else s.views id other (both v w) ne) ∙ there in
      let one = still stands by n slots id v holds.0 s (both v w) at idle idle holds.4 in
      let s' : State (Option V) (View R) = record { words = s.words; homes = s.homes; views = set s.views id (both v w) } in
      let two = still stands by n slots other w holds.0 s' (note []) there idle' refl one in
      (holds.0, holds.1, holds.2, joined by holds.1 holds.0 s.views id other v w holds.3 at from ne k m mine plain, two)

-- a seat that has all numbers sees all rows by a load
pub fills : {V R K : Type 0} (stands : V → List R → Type 0) (key : V → K) (is : K → Type 0) (k : K) → is k → (by : R → ℕ) (n most slots id : ℕ) (m : Me (Option V) (View R)) → most ≡ n → m.0.has ≡ false
    → ((j : ℕ) → j < n → (l : List R) × In m.0.parts j l)
    → Allows (HoldsTurns (keyed stands key (λ x. x ≡ k)) by n) slots id m 2 (λ x. x) (λ _ w. Filled (keyed stands key is) by most m w)
fills {V} {R} stands key is k known by n most slots id m all idle numbers s holds count at small =
    let P : List ℕ → Type 0 = λ ws. Free whole log (record { words = ws; homes = s.homes; views = set s.views id w }) ⊎ Busy log (record { words = ws; homes = s.homes; views = set s.views id w }) in
    let same : slice_set s.words 2 (slice_index s.words 2) ≡ s.words =
    ⊎_elim (λ (f : Free whole log s). ap (λ (ws : List ℕ). slice_set ws 2 (slice_index ws 2)) f.words ∙ sym f.words)
    (λ (b : Busy log s). ap (λ (ws : List ℕ). slice_set ws 2 (slice_index ws 2)) b.words ∙ sym b.words) holds.4 in
    (w, keeps, tt, (log, holds.1, holds.2, common, subst P (sym same) turn), told)
  where
    whole : V → List R → Type 0
    whole = keyed stands key (λ x. x ≡ k)

    log : List R
    log = holds.0

    v : View R
    v = m.0

    w : View R
    w = filled m.0 holds.0

    fit : Fits by holds.0 m.0
    fit = holds.3.fits id m.0 at

    common : Common by holds.1 holds.0 (set s.views id (filled m.0 holds.0))
    common = looked by holds.1 holds.0 s.views id m.0 (filled m.0 holds.0) holds.3 at refl refl (begins_self holds.0) fit.heard

    turn : Free (keyed stands key (λ x. x ≡ k)) holds.0 (record { words = s.words; homes = s.homes; views = set s.views id (filled m.0 holds.0) }) ⊎ Busy holds.0 (record { words = s.words; homes = s.homes; views = set s.views id (filled m.0 holds.0) })
    turn = still (keyed stands key (λ x. x ≡ k)) by n slots id m.0 holds.0 s (filled m.0 holds.0) at idle idle holds.4

    free : Free (keyed stands key (λ x. x ≡ k)) holds.0 s → Filled (keyed stands key is) by most m (filled m.0 holds.0, m.1)
    free f = record {
      value = f.value;
      seen = holds.0;
      view = refl;
      stood = (f.stood.0, subst is (sym f.stood.1) known);
      begins = fit.seen;
      parts = λ j l h. fit.parts j l h;
      made = λ j d lt. let below = holds.3.rows j d lt in let le = holds.2 in omega (arith, all);
    }

    busy : Busy holds.0 s → Filled (keyed stands key is) by most m (filled m.0 holds.0, m.1)
    busy b =
        let mine : In b.view.parts b.number b.mine = subst (λ (l : List (ℕ × List R)). In l b.number b.mine) (sym b.owns) (inl (refl, refl)) in
        let lt : b.number < holds.1 = holds.3.below b.seat b.view b.number b.mine b.at mine in
        let le : holds.1 ≤ n = holds.2 in
        let other = numbers b.number (omega arith) in
        let same : b.seat ≡ id = holds.3.apart b.seat id b.view m.0 b.number b.mine other.0 b.at at mine other.1 in
        let is : b.view ≡ m.0 = some-injective b.view m.0 (sym b.at ∙ (ap (λ (j : ℕ). get_elem? s.views j) same ∙ at)) in
        absurd (true_false b.view.has b.has (ap (λ (z : View R). z.has) is ∙ idle))

    told : Filled (keyed stands key is) by most m (filled m.0 holds.0, m.1)
    told = ⊎_elim free busy holds.4
