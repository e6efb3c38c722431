-- The steps of a turn keep the rule: the turn is taken, a row is counted, the turn is given back.
use Rattle.std.proofs.Common.{◌≡◌, ℕ, ◌+◌, ◌*◌, ◌/◌, ◌%◌, ◌^◌, ◌<◌, ◌≢◌, ◌==◌, Bool, true, false, List, [], ◌∷◌, ◌++◌, length, MatchBool, Option, Some, None, set, slice_set, slice_index, sym, refl, ap, subst, ◌∙◌, inl, inr, ⊎_elim, append-nil, arith, length-append}
use mathlib.Core.Option.{some, none, some-injective}
use prog.Atomic.{either}
use Rattle.std.proofs.Math.Nat.{mod-add-div, add-mul-mod_self_left}
use lib.ListN.{get_elem?}
use Rattle.std.proofs.lemmas.List.Elements.{All-push}
use Rattle.atomic_table.proofs.Lists.{at_set, set_again}
use Rattle.atomic_table.specs.Table.{State, Me, Act, keeps, takes, gives, stepped, Valid, carried_after, rest, Allows}
use Rattle.usb_turn.specs.Rows.{Begins, part, number_of, mine_of}
use Rattle.usb_turn.specs.Held.{In, Fits, Common, Free, Busy, HoldsTurns, Took, keyed, grown, rested, busied}
use Rattle.usb_turn.specs.Pass.{AtMostOne}
use Rattle.usb_turn.specs.declared.rule.View.{View}
use Rattle.usb_turn.proofs.Rows.{begins_self, begins_more, part_own, part_other}
use Rattle.usb_turn.proofs.Views.{set_at, not_true, true_false, moved, looked}

-- one more, modulo n
pub mod_more : (x n : ℕ) → (x % n + 1) % n ≡ (x + 1) % n
mod_more x n =
    let q : ℕ = n * (x / n) in
    let whole : x % n + q ≡ x = mod-add-div x n in
    let sum : x % n + 1 + q ≡ x + 1 = omega arith in
    sym (add-mul-mod_self_left (x % n + 1) n (x / n)) ∙ ap (λ (z : ℕ). z % n) sum

module _ {V R : Type 0} (stands : V → List R → Type 0) (by : R → ℕ) (n slots id : ℕ) (v : View R) where
  -- what a step owes in one state
  abbrev Next : State (Option V) (View R) → ℕ → (ℕ → ℕ) → List (ℕ × Option V) → (ℕ → Me (Option V) (View R) → Type 0) → Type 0
  Next s i f c told = (w : View R) × (a : Act (Option V)) × Valid s.homes c a × HoldsTurns stands by n (stepped s i (f (slice_index s.words i)) id c w a) × told (slice_index s.words i) (w, carried_after c a)

  -- a seat with one number adds a row of that number
  pub counts : (c : List (ℕ × Option V)) (r : R) → v.has ≡ true → v.parts ≡ (number_of v.parts, mine_of v.parts) ∷ [] → by r ≡ number_of v.parts
      → Allows (HoldsTurns stands by n) slots id (v, c) 2 (λ x. (x + 1) % 2 ^ 64) (λ _ w. w ≡ (grown v (r ∷ []), c))
  counts c r has parts made s holds count at small = ⊎_elim free busy holds.4
    where
      log : List R
      log = holds.0

      Goal : Type 0
      Goal = Next s 2 (λ x. (x + 1) % 2 ^ 64) c (λ _ w. w ≡ (grown v (r ∷ []), c))

      free : Free stands log s → Goal
      free f = absurd (true_false v.has has (f.none_has id v at))

      more : List R
      more = r ∷ []

      busy : Busy log s → Goal
      busy b =
          let seat_is : id ≡ b.seat = b.only id v at has in
          let view_is : b.view ≡ v = some-injective b.view v (sym b.at ∙ subst (λ (j : ℕ). get_elem? s.views j ≡ some v) seat_is at) in
          let seen_is : v.seen ≡ log = ap (λ (z : View R). z.seen) (sym view_is) ∙ b.all in
          let k : ℕ = number_of v.parts in
          let fit : Fits by log v = holds.3.fits id v at in
          let mine : In v.parts k (mine_of v.parts) = subst (λ (l : List (ℕ × List R)). In l k (mine_of v.parts)) (sym parts) (inl (refl, refl)) in
          let all_seen : v.seen ++ more ≡ log ++ more = ap (λ l. l ++ more) seen_is in
          let own : part by k (log ++ more) ≡ mine_of v.parts ++ more = part_own by k log r made ∙ ap (λ l. l ++ more) (fit.parts k (mine_of v.parts) mine) in
          let here : Fits by (log ++ more) (grown v more) = record {
            seen = subst (λ (l : List R). Begins (log ++ more) l) (sym all_seen) (begins_self (log ++ more));
            heard = begins_more log v.heard more fit.heard;
            parts = λ k' m h. ⊎_elim (λ (t : (k ≡ k') × (mine_of v.parts ++ more ≡ m)). subst (λ (j : ℕ). part by j (log ++ more) ≡ m) t.0 (own ∙ t.1)) (λ t. absurd t) h;
          } in
          let there : (i : ℕ) (u : View R) → i ≢ id → get_elem? s.views i ≡ some u → Fits by (log ++ more) u = λ i u ne e.
          let f : Fits by log u = holds.3.fits i u e in
          record {
            seen = begins_more log u.seen more f.seen;
            heard = begins_more log u.heard more f.heard;
            parts = λ k' m h. part_other by k' log r (λ same. ne (holds.3.apart i id u v k' m (mine_of v.parts) e at h (subst (λ (j : ℕ). In v.parts j (mine_of v.parts)) (sym made ∙ same) mine))) ∙ f.parts k' m h;
          } in
          let below : by r < holds.1 = subst (λ (j : ℕ). j < holds.1) (sym made) (holds.3.below id v k (mine_of v.parts) at mine) in
          let common = moved by holds.1 log (log ++ more) s.views id v (grown v more) holds.3 at here there
          (λ k' m h. ⊎_elim (λ (t : (k ≡ k') × (mine_of v.parts ++ more ≡ m)). let there_was : (l : List R) × In v.parts k' l = (mine_of v.parts, subst (λ (j : ℕ). In v.parts j (mine_of v.parts)) t.0 mine) in there_was) (λ t. absurd t) h)
          (λ none. let bad : (k, mine_of v.parts) ∷ [] ≡ [] = sym parts ∙ none in absurd (cc)) refl (All-push (λ (z : R). by z < holds.1) log r holds.3.rows below) in
          let longer_is : length (log ++ more) ≡ length log + 1 = omega (arith, length-append log more) in
          let words : slice_set s.words 2 ((slice_index s.words 2 + 1) % 2 ^ 64) ≡ 0 ∷ 1 ∷ (length (log ++ more) % 2 ^ 64) ∷ [] =
          ap (λ (ws : List ℕ). slice_set ws 2 ((slice_index ws 2 + 1) % 2 ^ 64)) b.words ∙ ap (λ (x : ℕ). 0 ∷ 1 ∷ x ∷ []) (mod_more (length log) (2 ^ 64) ∙ ap (λ (x : ℕ). x % 2 ^ 64) (sym longer_is)) in
          let busy' : Busy (log ++ more) (stepped s 2 ((slice_index s.words 2 + 1) % 2 ^ 64) id c (grown v more) keeps) = record {
            seat = id;
            view = grown v more;
            number = k;
            mine = mine_of v.parts ++ more;
            words = words;
            homes = b.homes;
            at = set_at s.views id v (grown v more) at;
            has = has;
            all = all_seen;
            owns = refl;
            only = λ i u e h. ⊎_elim (λ (t : (i ≡ id) × (grown v more ≡ u)). t.0) (λ (t : (i ≢ id) × (get_elem? s.views i ≡ some u)). b.only i u t.1 h ∙ sym seat_is) (at_set s.views id i (grown v more) u e);
          } in
          (grown v more, keeps, tt, (log ++ more, holds.1, holds.2, common, inr busy'), refl)

  -- the turn is taken where it is free
  pub takes_turn : v.has ≡ false → v.parts ≡ (number_of v.parts, mine_of v.parts) ∷ []
      → Allows (HoldsTurns stands by n) slots id (v, []) 1 (λ x. either (x == 0) 1 x) (λ x w. MatchBool (x == 0) (Took stands by (v, []) w) (w ≡ (v, [])))
  takes_turn idle parts s holds count at small = ⊎_elim free busy holds.4
    where
      log : List R
      log = holds.0

      fit : Fits by log v
      fit = holds.3.fits id v at

      Then : ℕ → Me (Option V) (View R) → Type 0
      Then x w = MatchBool (x == 0) (Took stands by (v, []) w) (w ≡ (v, []))

      Goal : Type 0
      Goal = Next s 1 (λ x. either (x == 0) 1 x) [] Then

      mine : In v.parts (number_of v.parts) (mine_of v.parts)
      mine = subst (λ (l : List (ℕ × List R)). In l (number_of v.parts) (mine_of v.parts)) (sym parts) (inl (refl, refl))

      free : Free stands log s → Goal
      free f =
          let w : View R = busied v log in
          let a : Act (Option V) = takes 0 (Some f.value) in
          let common = looked by holds.1 log s.views id v w holds.3 at refl refl (begins_self log) fit.heard in
          let busy : Busy log (stepped s 1 (either (slice_index s.words 1 == 0) 1 (slice_index s.words 1)) id [] w a) = record {
            seat = id;
            view = w;
            number = number_of v.parts;
            mine = mine_of v.parts;
            words = ap (λ (ws : List ℕ). slice_set ws 1 (either (slice_index ws 1 == 0) 1 (slice_index ws 1))) f.words;
            homes = ap (λ (h : List (mathlib.Core.Option.Option (Option V))). slice_set h 0 none) f.homes;
            at = set_at s.views id v w at;
            has = refl;
            all = refl;
            owns = parts;
            only = λ i u e h. ⊎_elim (λ (t : (i ≡ id) × (w ≡ u)). t.0) (λ (t : (i ≢ id) × (get_elem? s.views i ≡ some u)). absurd (true_false u.has h (f.none_has i u t.1))) (at_set s.views id i w u e);
          } in
          let took : Took stands by (v, []) (w, (0, Some f.value) ∷ []) = record {
            value = f.value;
            seen = log;
            view = refl;
            stood = f.stood;
            begins = fit.seen;
            own = fit.parts (number_of v.parts) (mine_of v.parts) mine;
          } in
          let found : slice_index s.words 1 ≡ 0 = ap (λ (ws : List ℕ). slice_index ws 1) f.words in
          (w, a, ap (λ (h : List (mathlib.Core.Option.Option (Option V))). get_elem? h 0) f.homes, (log, holds.1, holds.2, common, inr busy), subst (λ (x : ℕ). Then x (w, (0, Some f.value) ∷ [])) (sym found) took)

      busy : Busy log s → Goal
      busy b =
          let same : set s.views id v ≡ s.views = set_again s.views id v at in
          let common : Common by holds.1 log (set s.views id v) = subst (λ (l : List (View R)). Common by holds.1 log l) (sym same) holds.3 in
          let still : Busy log (stepped s 1 (either (slice_index s.words 1 == 0) 1 (slice_index s.words 1)) id [] v keeps) = record {
            seat = b.seat;
            view = b.view;
            number = b.number;
            mine = b.mine;
            words = ap (λ (ws : List ℕ). slice_set ws 1 (either (slice_index ws 1 == 0) 1 (slice_index ws 1))) b.words;
            homes = b.homes;
            at = subst (λ (l : List (View R)). get_elem? l b.seat ≡ some b.view) (sym same) b.at;
            has = b.has;
            all = b.all;
            owns = b.owns;
            only = subst (λ (l : List (View R)). (i : ℕ) (u : View R) → get_elem? l i ≡ some u → u.has ≡ true → i ≡ b.seat) (sym same) b.only;
          } in
          let found : slice_index s.words 1 ≡ 1 = ap (λ (ws : List ℕ). slice_index ws 1) b.words in
          (v, keeps, tt, (log, holds.1, holds.2, common, inr still), subst (λ (x : ℕ). Then x (v, [])) (sym found) refl)

  -- the turn is given back, with a value that stands for all that the seat has seen
  pub gives_turn : (x : V) → v.has ≡ true → stands x v.seen → Allows (HoldsTurns stands by n) slots id (v, (0, Some x) ∷ []) 1 (λ _. 0) (λ _ w. w ≡ (rested v, []))
  gives_turn x has stood s holds count at small = ⊎_elim free busy holds.4
    where
      log : List R
      log = holds.0

      fit : Fits by log v
      fit = holds.3.fits id v at

      Goal : Type 0
      Goal = Next s 1 (λ _. 0) ((0, Some x) ∷ []) (λ _ w. w ≡ (rested v, []))

      free : Free stands log s → Goal
      free f = absurd (true_false v.has has (f.none_has id v at))

      busy : Busy log s → Goal
      busy b =
          let seat_is : id ≡ b.seat = b.only id v at has in
          let view_is : b.view ≡ v = some-injective b.view v (sym b.at ∙ subst (λ (j : ℕ). get_elem? s.views j ≡ some v) seat_is at) in
          let seen_is : v.seen ≡ log = ap (λ (z : View R). z.seen) (sym view_is) ∙ b.all in
          let w : View R = rested v in
          let common = looked by holds.1 log s.views id v w holds.3 at refl refl fit.seen fit.heard in
          let none_has : (i : ℕ) (u : View R) → get_elem? (set s.views id w) i ≡ some u → u.has ≡ false = λ i u e.
          ⊎_elim (λ (t : (i ≡ id) × (w ≡ u)). ap (λ (z : View R). z.has) (sym t.1))
          (λ (t : (i ≢ id) × (get_elem? s.views i ≡ some u)). not_true u.has (λ h. t.0 (b.only i u t.1 h ∙ sym seat_is))) (at_set s.views id i w u e) in
          let free : Free stands log (stepped s 1 0 id ((0, Some x) ∷ []) w gives) = record {
            value = x;
            words = ap (λ (ws : List ℕ). slice_set ws 1 0) b.words;
            homes = ap (λ (h : List (mathlib.Core.Option.Option (Option V))). slice_set h 0 (some (Some x))) b.homes;
            stood = subst (λ (l : List R). stands x l) seen_is stood;
            none_has = none_has;
          } in
          (w, gives, tt, (log, holds.1, holds.2, common, inl free), refl)

-- the same of a seat as it is
module _ {V R : Type 0} (stands : V → List R → Type 0) (by : R → ℕ) (n slots id : ℕ) (m : Me (Option V) (View R)) where
  pub takes_seat : m.1 ≡ [] → m.0.has ≡ false → m.0.parts ≡ (number_of m.0.parts, mine_of m.0.parts) ∷ []
      → Allows (HoldsTurns stands by n) slots id m 1 (λ x. either (x == 0) 1 x) (λ x w. MatchBool (x == 0) (Took stands by m w) (w ≡ m))
  takes_seat empty idle parts =
      let P : List (ℕ × Option V) → Type 0 = λ c. Allows (HoldsTurns stands by n) slots id (m.0, c) 1 (λ x. either (x == 0) 1 x) (λ x w. MatchBool (x == 0) (Took stands by (m.0, c) w) (w ≡ (m.0, c))) in
      subst P (sym empty) (takes_turn stands by n slots id m.0 idle parts)

  pub gives_seat : (x : V) → m.1 ≡ (0, Some x) ∷ [] → m.0.has ≡ true → stands x m.0.seen → Allows (HoldsTurns stands by n) slots id m 1 (λ _. 0) (λ _ w. w ≡ (rested m.0, []))
  gives_seat x one has stood =
      let P : List (ℕ × Option V) → Type 0 = λ c. Allows (HoldsTurns stands by n) slots id (m.0, c) 1 (λ _. 0) (λ _ w. w ≡ (rested m.0, [])) in
      subst P (sym one) (gives_turn stands by n slots id m.0 x has stood)

match_weaker : (b : Bool) (P P' Q : Type 0) → (P → P') → MatchBool b P Q → MatchBool b P' Q
match_weaker true P P' Q f h = f h
match_weaker false P P' Q f h = h

-- what is told of the key, where the rule knows it
pub takes_told : {V R K : Type 0} (stands : V → List R → Type 0) (key : V → K) (is : K → Type 0) (k : K) → is k → (by : R → ℕ) (n slots id : ℕ) (m : Me (Option V) (View R))
    → Allows (HoldsTurns (keyed stands key (λ x. x ≡ k)) by n) slots id m 1 (λ x. either (x == 0) 1 x) (λ x w. MatchBool (x == 0) (Took (keyed stands key (λ x. x ≡ k)) by m w) (w ≡ m))
    → Allows (HoldsTurns (keyed stands key (λ x. x ≡ k)) by n) slots id m 1 (λ x. either (x == 0) 1 x) (λ x w. MatchBool (x == 0) (Took (keyed stands key is) by m w) (w ≡ m))
takes_told {V} {R} stands key is k h by n slots id m allows s holds count at small =
    let r = allows s holds count at small in
    let x : ℕ = slice_index s.words 1 in
    let w : Me (Option V) (View R) = (r.0, carried_after m.1 r.1) in
    let weaker : Took (keyed stands key (λ y. y ≡ k)) by m w → Took (keyed stands key is) by m w = λ t. record {
      value = t.value;
      seen = t.seen;
      view = t.view;
      stood = (t.stood.0, subst is (sym t.stood.1) h);
      begins = t.begins;
      own = t.own;
    } in
    (r.0, r.1, r.2, r.3, match_weaker (x == 0) (Took (keyed stands key (λ y. y ≡ k)) by m w) (Took (keyed stands key is) by m w) (w ≡ m) weaker r.4)

differs : (k : ℕ) → k % 2 ^ 64 ≡ (k + 1) % 2 ^ 64 → ⊥
differs k e = omega arith

module _ {R : Type 0} where
  pub grown_none : (v : View R) → v.parts ≡ (number_of v.parts, mine_of v.parts) ∷ [] → grown v [] ≡ v
  grown_none v parts =
      let p : (number_of v.parts, mine_of v.parts ++ []) ∷ [] ≡ v.parts = ap (λ (m : List R). (number_of v.parts, m) ∷ []) (append-nil (mine_of v.parts)) ∙ sym parts in
      λ i. record { parts = p i; seen = append-nil v.seen i; heard = v.heard; spare = v.spare; has = v.has }

  pub none_added : (by : R → ℕ) (k before after : ℕ) (seen more : List R) → AtMostOne by k more → before ≡ length seen % 2 ^ 64 → after ≡ length (seen ++ more) % 2 ^ 64 → before ≡ after → more ≡ []
  none_added by k before after seen more (inl nil) old new same = nil
  none_added by k before after seen more (inr one) old new same =
      let longer : length (seen ++ more) ≡ length seen + 1 = omega (arith, length-append seen more, ap length one.1) in
      absurd (differs (length seen) (sym old ∙ (same ∙ (new ∙ ap (λ (x : ℕ). x % 2 ^ 64) longer))))

  pub one_added : (by : R → ℕ) (k before after : ℕ) (seen more : List R) → AtMostOne by k more → before ≡ length seen % 2 ^ 64 → after ≡ length (seen ++ more) % 2 ^ 64 → (before ≡ after → ⊥)
      → (r : R) × (more ≡ r ∷ []) × (by r ≡ k)
  one_added by k before after seen more (inl nil) old new other = absurd (other (old ∙ (ap (λ (l : List R). length l % 2 ^ 64) (sym (ap (λ (l : List R). seen ++ l) nil ∙ append-nil seen)) ∙ sym new)))
  one_added by k before after seen more (inr one) old new other = one

-- a seat that carries one slot
pub one_rest : {S : Type 0} (l : List (ℕ × S)) (x : S) → l ≡ (0, x) ∷ [] → l ≡ (0, x) ∷ rest l
one_rest l x e = e ∙ ap (λ k. (0, x) ∷ rest k) (sym e)

-- the value is given back after rows were added
pub leaves_seat : {V R : Type 0} (stands : V → List R → Type 0) (by : R → ℕ) (n slots id : ℕ) (was grew at : Me (Option V) (View R)) (value : V) (more : List R)
    → was.1 ≡ (0, None) ∷ [] → was.0.has ≡ true → grew ≡ (grown was.0 more, was.1) → at ≡ (grew.0, (0, Some value) ∷ rest grew.1) → stands value (was.0.seen ++ more)
    → Allows (HoldsTurns stands by n) slots id at 1 (λ _. 0) (λ _ w. w ≡ (rested at.0, []))
leaves_seat {V} {R} stands by n slots id was grew at value more empty has grew_is at_is stood =
    gives_seat stands by n slots id at value
    (ap (λ (m : Me (Option V) (View R)). m.1) at_is ∙ ap (λ (l : List (ℕ × Option V)). (0, Some value) ∷ rest l) (ap (λ (m : Me (Option V) (View R)). m.1) grew_is ∙ empty))
    (ap (λ (m : Me (Option V) (View R)). m.0.has) at_is ∙ (ap (λ (m : Me (Option V) (View R)). m.0.has) grew_is ∙ has))
    (subst (λ (l : List R). stands value l) (sym (ap (λ (m : Me (Option V) (View R)). m.0.seen) at_is ∙ ap (λ (m : Me (Option V) (View R)). m.0.seen) grew_is)) stood)
