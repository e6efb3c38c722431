-- One seat takes in all passes, and the table is closed with it.
use Rattle.std.proofs.Common.{◌≡◌, ℕ, suc, ◌<◌, ◌≤◌, false, List, [], ◌∷◌, ◌++◌, All, Any, Option, Some, sym, refl, ap, subst, ◌∙◌, inl, ⊎_elim, append_assoc, arith, get_or}
use mathlib.Core.Option.{some, some-injective}
use lib.ListN.{get_elem?}
use Rattle.std.proofs.lemmas.List.Elements.{All-cons, All-nil, All-head}
use Rattle.atomic_table.specs.Seated.{TableId}
use Rattle.atomic_table.specs.Table.{State, Me, Final, Seen}
use Rattle.usb_turn.specs.Rows.{Begins, part, number_of, mine_of}
use Rattle.usb_turn.specs.Held.{In, Fits, Free, Busy, HoldsTurns, both, compared, Compared, Filled}
use Rattle.usb_turn.specs.Pass.{Pass, pass_of, Sits, AllOf, Closes, Gathered}
use Rattle.usb_turn.specs.declared.rule.View.{View}
use Rattle.usb_turn.proofs.Rows.{begins_trans, begins_self}
use Rattle.usb_turn.proofs.Views.{true_false, in_left, in_right}
use Rattle.usb_turn.proofs.Sitting.{has_number}

pub record Gathering {R : Type 0} (t : TableId) (whole rest : List (Pass R)) (at : TableId) (v : View R) : Type 0 where
  pub here : at ≡ t
  pub idle : v.has ≡ false
  pub each : All (λ p. (p.table ≡ t) × (p.has ≡ false)) rest
  pub gone : List (Pass R)
  pub split : whole ≡ rest ++ gone
  pub gathered : Gathered v gone
  pub number : ℕ
  pub rows : List R
  pub has : In v.parts number rows

module _ {R : Type 0} where
  pub all_front : (P : Pass R → Type 0) (xs : List (Pass R)) (p : Pass R) → All P (xs ++ p ∷ []) → All P xs × P p
  all_front P [] p h = (All-nil P, All-head P p [] h)
  all_front P (x ∷ xs) p h =
      let r = all_front P xs p (λ k d lt. h (suc k) d (omega arith)) in
      (All-cons P x xs (All-head P x (xs ++ p ∷ []) h) r.0, r.1)

  any_all : (P Q : Pass R → Type 0) (xs : List (Pass R)) → Any P xs → All Q xs → (p : Pass R) × P p × Q p
  any_all P Q xs a h = (a.1, a.4, subst Q a.3 (h a.0 a.1 a.2))

module _ {V R : Type 0} (stands : V → List R → Type 0) (by : R → ℕ) (t : TableId) (n : ℕ) where
  pub gathers_first : (rows : ℕ) (whole ys : List (Pass R)) (p : Pass R) (at : TableId) (m : Me (Option V) (View R)) → AllOf t n whole → whole ≡ ys ++ p ∷ [] → pass_of at m.0 ≡ p → Sits stands by rows m → Gathering t whole ys at m.0
  gathers_first rows whole ys p at m all is view sits =
      let h = all_front (λ (q : Pass R). (q.table ≡ t) × (q.has ≡ false)) ys p (subst (λ (l : List (Pass R)). All (λ (q : Pass R). (q.table ≡ t) × (q.has ≡ false)) l) is all.each) in
      record {
        here = ap (λ (q : Pass R). q.table) view ∙ h.1.0;
        idle = ap (λ (q : Pass R). q.has) view ∙ h.1.1;
        each = h.0;
        gone = p ∷ [];
        split = is;
        gathered = All-cons (λ (q : Pass R). Begins m.0.seen q.seen × In m.0.parts q.number q.mine) p [] (subst (λ (q : Pass R). Begins m.0.seen q.seen × In m.0.parts q.number q.mine) view (begins_self m.0.seen, has_number stands by rows m sits)) (All-nil (λ (q : Pass R). Begins m.0.seen q.seen × In m.0.parts q.number q.mine));
        number = number_of m.0.parts;
        rows = mine_of m.0.parts;
        has = has_number stands by rows m sits;
      }

  pub gathers_next : (rows : ℕ) (whole rest ys : List (Pass R)) (p : Pass R) (at at' next : TableId) (v w : View R) (m : Me (Option V) (View R)) → next ≡ at → Gathering t whole rest at v → rest ≡ ys ++ p ∷ [] → pass_of at' m.0 ≡ p → Sits stands by rows m
      → Compared by (both v m.0) → w ≡ compared (both v m.0) → Gathering t whole ys next w
  gathers_next rows whole rest ys p at at' next v w m same g is view sits facts w_is =
      let Held : View R → Pass R → Type 0 = λ u q. Begins u.seen q.seen × In u.parts q.number q.mine in
      let u : View R = compared (both v m.0) in
      let h = all_front (λ (q : Pass R). (q.table ≡ t) × (q.has ≡ false)) ys p (subst (λ (l : List (Pass R)). All (λ (q : Pass R). (q.table ≡ t) × (q.has ≡ false)) l) is g.each) in
      let here : Held u p = subst (Held u) view (facts.heard, in_right v.parts m.0.parts (number_of m.0.parts) (mine_of m.0.parts) (has_number stands by rows m sits)) in
      let old : All (Held u) g.gone = λ k d lt. let r = g.gathered k d lt in (begins_trans u.seen v.seen (get_or g.gone k d).seen facts.seen r.0, in_left v.parts m.0.parts (get_or g.gone k d).number (get_or g.gone k d).mine r.1) in
      let new : Gathering t whole ys next u = record {
        here = same ∙ g.here;
        idle = g.idle;
        each = h.0;
        gone = p ∷ g.gone;
        split = g.split ∙ (ap (λ (l : List (Pass R)). l ++ g.gone) is ∙ append_assoc ys (p ∷ []) g.gone);
        gathered = All-cons (Held u) p g.gone here old;
        number = g.number;
        rows = g.rows;
        has = in_left v.parts m.0.parts g.number g.rows g.has;
      } in
      subst (λ (z : View R). Gathering t whole ys next z) (sym w_is) new

module _ {R : Type 0} (t : TableId) (n : ℕ) where
  -- with none left the view has all
  pub gathered_all : (whole : List (Pass R)) (at : TableId) (v : View R) → Gathering t whole [] at v → Gathered v whole
  gathered_all whole at v g = subst (λ (l : List (Pass R)). Gathered v l) (sym g.split) g.gathered

  pub gathered_numbers : (whole : List (Pass R)) (v : View R) → AllOf t n whole → Gathered v whole → (k : ℕ) → k < n → (m : List R) × In v.parts k m
  gathered_numbers whole v all g k lt =
      let a = any_all (λ (p : Pass R). p.number ≡ k) (λ (p : Pass R). Begins v.seen p.seen × In v.parts p.number p.mine) whole (all.all k lt) g in
      (a.0.mine, subst (λ (j : ℕ). In v.parts j a.0.mine) a.1 a.2.1)

  module _ {V : Type 0} (stands : V → List R → Type 0) (by : R → ℕ) where
    -- what the slot holds at the end
    pub closes : (id : ℕ) (v : View R) (ws : List ℕ) (xs : List (Option V)) (whole : List (Pass R)) → Final (Seen (HoldsTurns stands by n) id v) ws xs → AllOf t n whole → Gathered v whole → v.has ≡ false
        → ((k : ℕ) → k < n → (m : List R) × In v.parts k m) → (x : V) × (get_elem? xs 0 ≡ some (Some x)) × ((rows : List R) × stands x rows × Closes by rows whole)
    closes id v ws xs whole f all g idle numbers = ⊎_elim free busy holds.4
      where
        s : State (Option V) (View R)
        s = f.0

        holds : HoldsTurns stands by n f.0
        holds = f.1.0

        at : get_elem? f.0.views id ≡ some v
        at = f.1.1

        fit : Fits by f.1.0.0 v
        fit = holds.3.fits id v at

        Goal : Type 0
        Goal = (x : V) × (get_elem? xs 0 ≡ some (Some x)) × ((rows : List R) × stands x rows × Closes by rows whole)

        busy : Busy f.1.0.0 f.0 → Goal
        busy b =
            let mine : In b.view.parts b.number b.mine = subst (λ (l : List (ℕ × List R)). In l b.number b.mine) (sym b.owns) (inl (refl, refl)) in
            let lt : b.number < holds.1 = holds.3.below b.seat b.view b.number b.mine b.at mine in
            let le : holds.1 ≤ n = holds.2 in
            let m = numbers b.number (omega arith) in
            let same : b.seat ≡ id = holds.3.apart b.seat id b.view v b.number b.mine m.0 b.at at mine m.1 in
            let is : b.view ≡ v = some-injective b.view v (sym b.at ∙ (ap (λ (j : ℕ). get_elem? f.0.views j) same ∙ at)) in
            absurd (true_false b.view.has b.has (ap (λ (z : View R). z.has) is ∙ idle))

        free : Free stands f.1.0.0 f.0 → Goal
        free h =
            let log : List R = f.1.0.0 in
            let home : get_elem? f.0.homes 0 ≡ some (some (Some h.value)) = ap (λ l. get_elem? l 0) h.homes in
            let le : holds.1 ≤ n = holds.2 in
            let own : (p : Pass R) → Begins v.seen p.seen × In v.parts p.number p.mine → part by p.number log ≡ p.mine = λ p q. fit.parts p.number p.mine q.1 in (
              h.value,
              f.4 0 (Some h.value) home,
              (
                log,
                h.stood,
                record {
                  begins = λ k d lt. begins_trans log v.seen (get_or whole k d).seen fit.seen (g k d lt).0;
                  own = λ k d lt. own (get_or whole k d) (g k d lt);
                  made = λ k d lt. let below = holds.3.rows k d lt in all.all (by (get_or log k d)) (omega arith);
                },
              ),
            )

-- what a seat that took in all passes has then seen
pub ends_all : {V R : Type 0} (stands : V → List R → Type 0) (by : R → ℕ) (t : TableId) (n : ℕ) (m w : Me (Option V) (View R)) (whole : List (Pass R)) → Filled stands by n m w → AllOf t n whole → Gathered m.0 whole → Closes by w.0.seen whole
ends_all {V} {R} stands by t n m w whole f all g =
    let own : (p : Pass R) → Begins m.0.seen p.seen × In m.0.parts p.number p.mine → part by p.number f.seen ≡ p.mine = λ p q. f.parts p.number p.mine q.1 in
    subst (λ (l : List R). Closes by l whole) (sym (ap (λ (z : Me (Option V) (View R)). z.0.seen) f.view)) record {
      begins = λ k d lt. begins_trans f.seen m.0.seen (get_or whole k d).seen f.begins (g k d lt).0;
      own = λ k d lt. own (get_or whole k d) (g k d lt);
      made = λ k d lt. all.all (by (get_or f.seen k d)) (f.made k d lt);
    }
