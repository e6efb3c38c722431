-- The rule holds when the turns begin, and is kept when the next pass is dealt.
use Rattle.std.proofs.Common.{◌≡◌, ℕ, zero, suc, ◌+◌, ◌<◌, List, [], ◌∷◌, Option, Some, set, sym, refl, ap, subst, ◌∙◌, inl, arith, zero-le, map}
use mathlib.Core.Option.{some, some-injective, some-ne-none}
use lib.ListN.{get_elem?}
use Rattle.std.proofs.lemmas.List.Elements.{All-nil}
use Rattle.atomic_table.specs.Table.{State, Me, opening, Splits}
use Rattle.usb_turn.specs.Held.{In, Fits, Common, Free, HoldsTurns, dealer, blank}
use Rattle.usb_turn.specs.declared.rule.View.{View}
use Rattle.usb_turn.proofs.Rows.{begins_nil}
use Rattle.usb_turn.proofs.Views.{dealt_on}
use Rattle.usb_turn.proofs.Telling.{still, at_more}

-- the next number is dealt
pub deals_next : {V R : Type 0} (stands : V → List R → Type 0) (by : R → ℕ) (n slots k : ℕ) → k < n → Splits (HoldsTurns stands by n) 0 (dealer k) (dealer (k + 1)) (blank k)
deals_next {V} {R} stands by n slots k lt s holds at =
    let d = holds.3.deals in
    let is : dealer k ≡ d.0 = some-injective (dealer k) d.0 (sym at ∙ d.1) in
    let spare_is : holds.1 ≡ k = sym d.3 ∙ ap (λ (z : View R). z.spare) (sym is) in
    let common : Common by k holds.0 s.views = subst (λ (j : ℕ). Common by j holds.0 s.views) spare_is holds.3 in
    let one = still stands by n slots 0 (dealer k) holds.0 s (dealer (k + 1)) at refl refl holds.4 in
    let s' : State (Option V) (View R) = record { words = s.words; homes = s.homes; views = set s.views 0 (dealer (k + 1)) } in
    (holds.0, k + 1, omega arith, dealt_on by k holds.0 s.views common at, at_more stands by n slots 0 holds.0 s' (blank k) refl one)

pub deals_seat : {V R : Type 0} (stands : V → List R → Type 0) (by : R → ℕ) (n slots id : ℕ) (m : Me (Option V) (View R)) → id ≡ 0 → m ≡ (dealer m.0.spare, []) → m.0.spare < n
    → Splits (HoldsTurns stands by n) id m.0 (dealer (m.0.spare + 1)) (blank m.0.spare)
deals_seat {V} {R} stands by n slots id m first is lt =
    let k : ℕ = m.0.spare in
    let P : View R → Type 0 = λ v. Splits (HoldsTurns stands by n) 0 v (dealer (k + 1)) (blank k) in
    let Q : ℕ → Type 0 = λ i. Splits (HoldsTurns stands by n) i m.0 (dealer (k + 1)) (blank k) in
    subst Q (sym first) (subst P (sym (ap (λ (z : Me (Option V) (View R)). z.0) is)) (deals_next stands by n slots k lt))

only_one : {A : Type 0} (i : ℕ) (a b : A) → get_elem? (a ∷ []) i ≡ some b → a ≡ b
only_one zero a b e = some-injective a b e
only_one (suc i) a b e = absurd (some-ne-none b (sym e))

-- the rule holds at the start
pub opens : {V R : Type 0} (stands : V → List R → Type 0) (by : R → ℕ) (n : ℕ) (x : V) (items : List (Option V)) → stands x [] → items ≡ Some x ∷ [] → HoldsTurns stands by n (opening (0 ∷ 0 ∷ 0 ∷ []) items (dealer 0))
opens {V} {R} stands by n x items stood is =
    let common : Common by 0 [] (dealer 0 ∷ []) = record {
      fits = λ i v e. subst (λ (z : View R). Fits by [] z) (only_one i (dealer 0) v e) (record { seen = begins_nil []; heard = begins_nil []; parts = λ k m h. absurd h });
      apart = λ i j v w k l m e f h g. absurd (subst (λ (z : View R). In z.parts k l) (sym (only_one i (dealer 0) v e)) h);
      below = λ i v k m e h. absurd (subst (λ (z : View R). In z.parts k m) (sym (only_one i (dealer 0) v e)) h);
      deals = (dealer 0, refl, refl, refl);
      rows = All-nil (λ (r : R). by r < 0);
    } in
    let free : Free stands [] (opening (0 ∷ 0 ∷ 0 ∷ []) items (dealer 0)) = record {
      value = x;
      words = refl;
      homes = ap (λ (l : List (Option V)). map some l) is;
      stood = stood;
      none_has = λ i v e. ap (λ (z : View R). z.has) (sym (only_one i (dealer 0) v e));
    } in
    ([], 0, zero-le, common, inl free)
