-- Lists that begin with one another, and the rows of one pass.
use Rattle.std.proofs.Common.{◌≡◌, ℕ, ◌<◌, ◌≤◌, ◌≢◌, ◌==◌, Bool, true, false, cond, List, [], ◌∷◌, ◌++◌, length, All, sym, refl, ap, ap₂, ◌∙◌, append_assoc, append-nil, arith, length-append, eq-eqb, ne_eqb, nat_lt, if◌then◌else◌, ltb-true, ltb-false}
use Rattle.std.proofs.lemmas.List.{nil_from_length}
use Rattle.std.proofs.lemmas.List.Elements.{filter-append, All-tail, All-head}
use Rattle.usb_turn.specs.Rows.{Begins, part, longer}

module _ {R : Type 0} where
  pub begins_self : (rows : List R) → Begins rows rows
  begins_self rows = record { more = []; is = sym (append-nil rows) }

  pub begins_nil : (rows : List R) → Begins rows []
  begins_nil rows = record { more = rows; is = refl }

  pub begins_trans : (a b c : List R) → Begins a b → Begins b c → Begins a c
  begins_trans a b c p q = record { more = q.more ++ p.more; is = p.is ∙ (ap (λ l. l ++ p.more) q.is ∙ append_assoc c q.more p.more) }

  pub begins_more : (rows seen more : List R) → Begins rows seen → Begins (rows ++ more) seen
  begins_more rows seen more p = record { more = p.more ++ more; is = ap (λ l. l ++ more) p.is ∙ append_assoc seen p.more more }

  shorter_from : (a b x y : List R) → a ++ x ≡ b ++ y → length a ≤ length b → Begins b a
  shorter_from [] b x y e le = record { more = b; is = refl }
  shorter_from (p ∷ a) [] x y e le = absurd (omega arith)
  shorter_from (p ∷ a) (q ∷ b) x y e le =
      let head : p ≡ q = cc in
      let tail : a ++ x ≡ b ++ y = cc in
      let r = shorter_from a b x y tail (omega arith) in
      record { more = r.more; is = ap₂ (λ (z : R) (l : List R). z ∷ l) (sym head) r.is }

  -- of two beginnings of one list the shorter begins the longer
  pub shorter : (log a b : List R) → Begins log a → Begins log b → length a ≤ length b → Begins b a
  shorter log a b p q le = shorter_from a b p.more q.more (sym p.is ∙ q.is) le

  longer_by : (log a b : List R) → Begins log a → Begins log b → (t : Bool) → nat_lt (length a) (length b) ≡ t → Begins (if t then b else a) a × Begins (if t then b else a) b × Begins log (if t then b else a)
  longer_by log a b p q true e = let lt : length a < length b = ltb-true (length a) (length b) e in (shorter log a b p q (omega arith), begins_self b, q)
  longer_by log a b p q false e = let le : length b ≤ length a = ltb-false (length a) (length b) e in (begins_self a, shorter log b a q p le, p)

  pub longer_begins : (log a b : List R) → Begins log a → Begins log b → Begins (longer a b) a × Begins (longer a b) b × Begins log (longer a b)
  longer_begins log a b p q = longer_by log a b p q (nat_lt (length a) (length b)) refl

module _ {R : Type 0} (by : R → ℕ) where
  pub part_own : (k : ℕ) (rows : List R) (r : R) → by r ≡ k → part by k (rows ++ r ∷ []) ≡ part by k rows ++ r ∷ []
  part_own k rows r e = filter-append (λ (z : R). by z == k) rows (r ∷ []) ∙ ap (λ (t : Bool). part by k rows ++ cond t (r ∷ []) []) (eq-eqb (by r) k e)

  pub part_other : (k : ℕ) (rows : List R) (r : R) → by r ≢ k → part by k (rows ++ r ∷ []) ≡ part by k rows
  part_other k rows r n = filter-append (λ (z : R). by z == k) rows (r ∷ []) ∙ (ap (λ (t : Bool). part by k rows ++ cond t (r ∷ []) []) (ne_eqb (by r) k n) ∙ append-nil (part by k rows))

  pub part_none : (spare k : ℕ) (rows : List R) → spare ≤ k → All (λ r. by r < spare) rows → part by k rows ≡ []
  part_none spare k [] le h = refl
  part_none spare k (r ∷ rows) le h =
      let here : by r < spare = All-head (λ (z : R). by z < spare) r rows h in
      let n : by r ≢ k = λ e. omega arith in
      ap (λ (t : Bool). cond t (r ∷ part by k rows) (part by k rows)) (ne_eqb (by r) k n) ∙ part_none spare k rows le (All-tail (λ (z : R). by z < spare) r rows h)

  same_between : (m x y : List R) → m ≡ (m ++ x) ++ y → m ++ x ≡ m
  same_between m x y e = let none : x ≡ [] = nil_from_length x (omega (arith, ap length e, length-append (m ++ x) y, length-append m x)) in ap (λ (l : List R). m ++ l) none ∙ append-nil m

  -- a list that lies between two with the same part has that part
  pub part_between : (k : ℕ) (a b c m : List R) → Begins a b → Begins b c → part by k c ≡ m → part by k a ≡ m → part by k b ≡ m
  part_between k a b c m p q low high =
      let f : R → Bool = λ z. by z == k in
      let in_b : part by k b ≡ part by k c ++ part by k q.more = ap (part by k) q.is ∙ filter-append f c q.more in
      let in_a : part by k a ≡ part by k b ++ part by k p.more = ap (part by k) p.is ∙ filter-append f b p.more in
      let b_is : part by k b ≡ m ++ part by k q.more = in_b ∙ ap (λ l. l ++ part by k q.more) low in
      b_is ∙ same_between m (part by k q.more) (part by k p.more) (sym high ∙ (in_a ∙ ap (λ l. l ++ part by k p.more) b_is))
