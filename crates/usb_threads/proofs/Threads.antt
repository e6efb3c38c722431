-- The calls of all threads, one thread after another.
use Rattle.std.proofs.Common.{ℕ, zero, suc, ◌≡◌, ◌≢◌, ◌<◌, Bool, true, false, cond, eqb, List, [], ◌∷◌, ◌++◌, refl, sym, ap, ◌∙◌, subst, arith, append-nil, eq-eqb, ne_eqb, eqb-true}
use Rattle.std.specs.Prelude.{All}
use Rattle.std.specs.List.{flat_map}
use Rattle.std.proofs.lemmas.List.Elements.{filter-append, All-nil, All-cons, All-head, All-tail, All-append, All-filter}
use Rattle.std.proofs.lemmas.Grind.{flat_map-append}
use mathlib.Core.Logic.{dite}
use native.Mathlib.Decide.{ℕ_discrete}
use Rattle.usb_prepare.specs.Below.{below}
use Rattle.usb_trace.specs.Run.{CallRecord, done_by}

-- each of these calls is one of thread i
abbrev pub AreBy : ℕ → List CallRecord → Type 0
AreBy i ds = All (λ (d : CallRecord). d.thread ≡ i) ds

done-append : (i : ℕ) (ds es : List CallRecord) → done_by i (ds ++ es) ≡ done_by i ds ++ done_by i es
done-append i ds es = filter-append (λ (d : CallRecord). eqb d.thread i) ds es

done_own : (i : ℕ) (ds : List CallRecord) → AreBy i ds → done_by i ds ≡ ds
done_own i [] by = refl
done_own i (d ∷ ds) by = ap (λ b. cond b (d ∷ done_by i ds) (done_by i ds)) (eq-eqb d.thread i (All-head (λ (d : CallRecord). d.thread ≡ i) d ds by))
    ∙ ap (λ l. d ∷ l) (done_own i ds (All-tail (λ (d : CallRecord). d.thread ≡ i) d ds by))

done_other : (i j : ℕ) (ds : List CallRecord) → j ≢ i → AreBy j ds → done_by i ds ≡ []
done_other i j [] off by = refl
done_other i j (d ∷ ds) off by =
    ap (λ b. cond b (d ∷ done_by i ds) (done_by i ds)) (ne_eqb d.thread i (λ e. off (sym (All-head (λ (d : CallRecord). d.thread ≡ j) d ds by) ∙ e)))
    ∙ done_other i j ds off (All-tail (λ (d : CallRecord). d.thread ≡ j) d ds by)

module _ (made : ℕ → List CallRecord) where
  pub made-push : (n : ℕ) → flat_map made (below (suc n)) ≡ flat_map made (below n) ++ made n
  made-push n = flat_map-append made (below n) (n ∷ []) ∙ ap (λ l. flat_map made (below n) ++ l) (append-nil (made n))

  none_of : (i n : ℕ) → ((j : ℕ) → j < n → AreBy j (made j)) → ((j : ℕ) → j < n → j ≢ i) → done_by i (flat_map made (below n)) ≡ []
  none_of i zero by off = refl
  none_of i (suc n) by off = ap (done_by i) (made-push n) ∙ (done-append i (flat_map made (below n)) (made n)
      ∙ (λ x. none_of i n (λ j l. by j (omega arith)) (λ j l. off j (omega arith)) x ++ done_other i n (made n) (off n (omega arith)) (by n (omega arith)) x))

  -- what thread i made is there whole
  pub all_of : (i n : ℕ) → ((j : ℕ) → j < n → AreBy j (made j)) → i < n → done_by i (flat_map made (below n)) ≡ made i
  all_of i zero by l = absurd (omega arith)
  all_of i (suc n) by l = ap (done_by i) (made-push n) ∙ (done-append i (flat_map made (below n)) (made n) ∙ dite (ℕ_discrete i n)
      (λ is. (λ x. none_of i n (λ j l. by j (omega arith)) (λ j l e. absurd (omega arith)) x ++ (subst (λ j. done_by j (made n) ≡ made j) (sym is) (done_own n (made n) (by n (omega arith)))) x))
      (λ off. (λ x. all_of i n (λ j l. by j (omega arith)) (omega arith) x ++ done_other i n (made n) (λ e. off (sym e)) (by n (omega arith)) x) ∙ append-nil (made i)))

  pub all_told : (P : CallRecord → Type 0) (n : ℕ) → ((j : ℕ) → j < n → All P (made j)) → All P (flat_map made (below n))
  all_told P zero each = All-nil P
  all_told P (suc n) each = subst (All P) (sym (made-push n)) (All-append P (flat_map made (below n)) (made n) (all_told P n (λ j l. each j (omega arith))) (each n (omega arith)))

pub done_are : (i : ℕ) (ds : List CallRecord) → AreBy i (done_by i ds)
done_are i [] = All-nil (λ (d : CallRecord). d.thread ≡ i)
done_are i (d ∷ ds) = go (eqb d.thread i) refl (done_are i ds)
  where
    go : (b : Bool) → eqb d.thread i ≡ b → AreBy i (done_by i ds) → AreBy i (cond b (d ∷ done_by i ds) (done_by i ds))
    go true e rest = All-cons (λ (d : CallRecord). d.thread ≡ i) d (done_by i ds) (eqb-true d.thread i e) rest
    go false e rest = rest

pub done_told : (P : CallRecord → Type 0) (i : ℕ) (ds : List CallRecord) → All P ds → All P (done_by i ds)
done_told P i ds all = All-filter (λ (d : CallRecord). eqb d.thread i) P ds all
