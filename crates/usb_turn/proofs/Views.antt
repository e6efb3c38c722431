-- A change of one view keeps what the rule says of all views.
use Rattle.std.proofs.Common.{◌≡◌, ℕ, zero, suc, ◌+◌, ◌<◌, ◌≢◌, ◌⊎◌, Bool, true, false, List, [], ◌∷◌, ◌++◌, length, All, set, sym, refl, ap, subst, ◌∙◌, inl, inr, ⊎_elim, arith}
use mathlib.Core.Option.{some, some-injective, some-ne-none}
use native.Mathlib.Decide.{ℕ_discrete}
use lib.ListN.{get_elem?}
use Rattle.atomic_table.proofs.Lists.{at_set, set_else, at_longer}
use Rattle.usb_turn.specs.Rows.{Begins}
use Rattle.usb_turn.specs.Held.{In, Fits, Common, dealer, blank, note, both}
use Rattle.usb_turn.specs.declared.rule.View.{View}
use Rattle.usb_turn.proofs.Rows.{begins_nil, part_none}

module _ {A : Type 0} where
  pub set_at : (l : List A) (i : ℕ) (a b : A) → get_elem? l i ≡ some a → get_elem? (set l i b) i ≡ some b
  set_at [] i a b e = absurd (some-ne-none a (sym e))
  set_at (x ∷ l) zero a b e = refl
  set_at (x ∷ l) (suc i) a b e = set_at l i a b e

  pub at_end : (l : List A) (a b : A) (j : ℕ) → get_elem? (l ++ a ∷ []) j ≡ some b → (get_elem? l j ≡ some b) ⊎ ((j ≡ length l) × (a ≡ b))
  at_end [] a b zero e = inr (refl, some-injective a b e)
  at_end [] a b (suc j) e = absurd (some-ne-none b (sym e))
  at_end (x ∷ l) a b zero e = inl e
  at_end (x ∷ l) a b (suc j) e = ⊎_elim (λ h. inl h) (λ (h : (j ≡ length l) × (a ≡ b)). inr (ap suc h.0, h.1)) (at_end l a b j e)

  pub before_end : (l : List A) (j : ℕ) (b : A) → get_elem? l j ≡ some b → j < length l
  before_end [] j b e = absurd (some-ne-none b (sym e))
  before_end (x ∷ l) zero b e = omega arith
  before_end (x ∷ l) (suc j) b e = let h = before_end l j b e in omega arith

pub not_true : (b : Bool) → (b ≡ true → ⊥) → b ≡ false
not_true true h = absurd (h refl)
not_true false h = refl

pub true_false : (b : Bool) → b ≡ true → b ≡ false → ⊥
true_false b t f = let e : true ≡ false = sym t ∙ f in cc

module _ {R : Type 0} where
  pub in_append : (a b : List (ℕ × List R)) (k : ℕ) (m : List R) → In (a ++ b) k m → In a k m ⊎ In b k m
  in_append [] b k m h = inr h
  in_append (x ∷ a) b k m (inl h) = inl (inl h)
  in_append (x ∷ a) b k m (inr h) = ⊎_elim (λ t. inl (inr t)) (λ t. inr t) (in_append a b k m h)

  pub in_left : (a b : List (ℕ × List R)) (k : ℕ) (m : List R) → In a k m → In (a ++ b) k m
  in_left [] b k m h = absurd h
  in_left (x ∷ a) b k m (inl h) = inl h
  in_left (x ∷ a) b k m (inr h) = inr (in_left a b k m h)

  pub in_right : (a b : List (ℕ × List R)) (k : ℕ) (m : List R) → In b k m → In (a ++ b) k m
  in_right [] b k m h = h
  in_right (x ∷ a) b k m h = inr (in_right a b k m h)

module _ {R : Type 0} (by : R → ℕ) where
  module _ (spare : ℕ) (log log' : List R) (views : List (View R)) (id : ℕ) (v w : View R) where
    source : get_elem? views id ≡ some v → ((k : ℕ) (m : List R) → In w.parts k m → (l : List R) × In v.parts k l)
        → (i : ℕ) (u : View R) (k : ℕ) (l : List R) → get_elem? (set views id w) i ≡ some u → In u.parts k l → (o : View R) × (m : List R) × (get_elem? views i ≡ some o) × In o.parts k m
    source at numbers i u k l e h =
        ⊎_elim
        (λ (t : (i ≡ id) × (w ≡ u)). let n = numbers k l (subst (λ (z : View R). In z.parts k l) (sym t.1) h) in (v, n.0, subst (λ (j : ℕ). get_elem? views j ≡ some v) (sym t.0) at, n.1))
        (λ (t : (i ≢ id) × (get_elem? views i ≡ some u)). (u, l, t.1, h))
        (at_set views id i w u e)

    dealt_still : Common by spare log views → get_elem? views id ≡ some v → (v.parts ≡ [] → w.parts ≡ []) → w.spare ≡ v.spare → Dec (0 ≡ id)
        → (d : View R) × (get_elem? (set views id w) 0 ≡ some d) × (d.parts ≡ []) × (d.spare ≡ spare)
    dealt_still c at none same (yes e) =
        let d = c.deals in
        let here : get_elem? views 0 ≡ some v = subst (λ (j : ℕ). get_elem? views j ≡ some v) (sym e) at in
        let is : v ≡ d.0 = some-injective v d.0 (sym here ∙ d.1) in
        (w, subst (λ (j : ℕ). get_elem? (set views id w) j ≡ some w) (sym e) (set_at views id v w at), none (ap (λ (z : View R). z.parts) is ∙ d.2), same ∙ (ap (λ (z : View R). z.spare) is ∙ d.3))
    dealt_still c at none same (no n) = let d = c.deals in (d.0, set_else views id 0 w n ∙ d.1, d.2, d.3)

    -- a seat's view changes, and no number comes to it
    pub moved : Common by spare log views → get_elem? views id ≡ some v → Fits by log' w
        → ((i : ℕ) (u : View R) → i ≢ id → get_elem? views i ≡ some u → Fits by log' u)
        → ((k : ℕ) (m : List R) → In w.parts k m → (l : List R) × In v.parts k l)
        → (v.parts ≡ [] → w.parts ≡ []) → w.spare ≡ v.spare → All (λ r. by r < spare) log'
        → Common by spare log' (set views id w)
    moved c at here there numbers none same rows = record {
      fits = λ i u e. ⊎_elim (λ (t : (i ≡ id) × (w ≡ u)). subst (λ (z : View R). Fits by log' z) t.1 here) (λ (t : (i ≢ id) × (get_elem? views i ≡ some u)). there i u t.0 t.1) (at_set views id i w u e);
      apart = λ i j u x k l m e f h g. let a = source at numbers i u k l e h in let b = source at numbers j x k m f g in c.apart i j a.0 b.0 k a.1 b.1 a.2 b.2 a.3 b.3;
      below = λ i u k m e h. let a = source at numbers i u k m e h in c.below i a.0 k a.1 a.2 a.3;
      deals = dealt_still c at none same (ℕ_discrete 0 id);
      rows = rows;
    }

  -- a seat's view changes and its numbers stay, with no new row
  pub looked : (spare : ℕ) (log : List R) (views : List (View R)) (id : ℕ) (v w : View R) → Common by spare log views → get_elem? views id ≡ some v
      → w.parts ≡ v.parts → w.spare ≡ v.spare → Begins log w.seen → Begins log w.heard → Common by spare log (set views id w)
  looked spare log views id v w c at parts same seen heard =
      moved spare log log views id v w c at
      (record { seen = seen; heard = heard; parts = λ k m h. (c.fits id v at).parts k m (subst (λ (l : List (ℕ × List R)). In l k m) parts h) })
      (λ i u n e. c.fits i u e) (λ k m h. (m, subst (λ (l : List (ℕ × List R)). In l k m) parts h)) (λ h. parts ∙ h) same c.rows

  -- a note is added
  pub noted : (spare : ℕ) (log : List R) (views : List (View R)) (seen : List R) → Common by spare log views → Begins log seen → Common by spare log (views ++ note seen ∷ [])
  noted spare log views seen c begins = record {
    fits = λ i u e. ⊎_elim (λ (h : get_elem? views i ≡ some u). c.fits i u h)
        (λ (t : (i ≡ length views) × (note seen ≡ u)). subst (λ (z : View R). Fits by log z) t.1 (record { seen = begins; heard = begins_nil log; parts = λ k m h. absurd h })) (at_end views (note seen) u i e);
    apart = λ i j u x k l m e f h g. c.apart i j u x k l m (old i u k l e h) (old j x k m f g) h g;
    below = λ i u k m e h. c.below i u k m (old i u k m e h) h;
    deals = let d = c.deals in (d.0, at_longer views (note seen ∷ []) 0 d.0 d.1, d.2, d.3);
    rows = c.rows;
  }
    where
      old : (i : ℕ) (u : View R) (k : ℕ) (m : List R) → get_elem? (views ++ note seen ∷ []) i ≡ some u → In u.parts k m → get_elem? views i ≡ some u
      old i u k m e h = ⊎_elim (λ (t : get_elem? views i ≡ some u). t) (λ (t : (i ≡ length views) × (note seen ≡ u)). absurd (subst (λ (z : View R). In z.parts k m) (sym t.1) h)) (at_end views (note seen) u i e)

  -- the next number is dealt
  module _ (k : ℕ) (log : List R) (views : List (View R)) (c : Common by k log views) (at : get_elem? views 0 ≡ some (dealer k)) where
    whose : (i : ℕ) (u : View R) (j : ℕ) (m : List R) → get_elem? (set views 0 (dealer (k + 1)) ++ blank k ∷ []) i ≡ some u → In u.parts j m
        → ((get_elem? views i ≡ some u) × (j < k)) ⊎ ((i ≡ length (set views 0 (dealer (k + 1)))) × (k ≡ j))
    whose i u j m e h =
        ⊎_elim
        (λ (t : get_elem? (set views 0 (dealer (k + 1))) i ≡ some u). ⊎_elim
        (λ (a : (i ≡ 0) × (dealer (k + 1) ≡ u)). absurd (subst (λ (z : View R). In z.parts j m) (sym a.1) h))
        (λ (a : (i ≢ 0) × (get_elem? views i ≡ some u)). inl (a.1, c.below i u j m a.1 h))
        (at_set views 0 i (dealer (k + 1)) u t))
        (λ (t : (i ≡ length (set views 0 (dealer (k + 1)))) × (blank k ≡ u)). inr (t.0, ⊎_elim (λ (b : (k ≡ j) × ([] ≡ m)). b.0) (λ b. absurd b) (subst (λ (z : View R). In z.parts j m) (sym t.1) h)))
        (at_end (set views 0 (dealer (k + 1))) (blank k) u i e)

    pub dealt_on : Common by (k + 1) log (set views 0 (dealer (k + 1)) ++ blank k ∷ [])
    dealt_on = record {
      fits = λ i u e. ⊎_elim
          (λ (t : get_elem? (set views 0 (dealer (k + 1))) i ≡ some u). ⊎_elim
          (λ (a : (i ≡ 0) × (dealer (k + 1) ≡ u)). subst (λ (z : View R). Fits by log z) a.1 (record { seen = begins_nil log; heard = begins_nil log; parts = λ j m h. absurd h }))
          (λ (a : (i ≢ 0) × (get_elem? views i ≡ some u)). c.fits i u a.1)
          (at_set views 0 i (dealer (k + 1)) u t))
          (λ (t : (i ≡ length (set views 0 (dealer (k + 1)))) × (blank k ≡ u)). subst (λ (z : View R). Fits by log z) t.1
          (record {
            seen = begins_nil log;
            heard = begins_nil log;
            parts = λ j m h. ⊎_elim (λ (b : (k ≡ j) × ([] ≡ m)). part_none by k j log (omega (arith, b.0)) c.rows ∙ b.1) (λ b. absurd b) h;
          }))
          (at_end (set views 0 (dealer (k + 1))) (blank k) u i e);
      apart = λ i j u x a l m e f h g. ⊎_elim
          (λ (s : (get_elem? views i ≡ some u) × (a < k)). ⊎_elim
          (λ (t : (get_elem? views j ≡ some x) × (a < k)). c.apart i j u x a l m s.0 t.0 h g)
          (λ (t : (j ≡ length (set views 0 (dealer (k + 1)))) × (k ≡ a)). let lt = s.1 in let is = t.1 in absurd (omega arith))
          (whose j x a m f g))
          (λ (s : (i ≡ length (set views 0 (dealer (k + 1)))) × (k ≡ a)). ⊎_elim
          (λ (t : (get_elem? views j ≡ some x) × (a < k)). let lt = t.1 in let is = s.1 in absurd (omega arith))
          (λ (t : (j ≡ length (set views 0 (dealer (k + 1)))) × (k ≡ a)). s.0 ∙ sym t.0)
          (whose j x a m f g))
          (whose i u a l e h);
      below = λ i u j m e h. ⊎_elim (λ (s : (get_elem? views i ≡ some u) × (j < k)). let lt = s.1 in omega arith) (λ (s : (i ≡ length (set views 0 (dealer (k + 1)))) × (k ≡ j)). let is = s.1 in omega arith) (whose i u j m e h);
      deals = (dealer (k + 1), at_longer (set views 0 (dealer (k + 1))) (blank k ∷ []) 0 (dealer (k + 1)) (set_at views 0 (dealer k) (dealer (k + 1)) at), refl, refl);
      rows = λ j d lt. let h = c.rows j d lt in omega arith;
    }

  -- a seat takes in another
  module _ (spare : ℕ) (log : List R) (views : List (View R)) (id other : ℕ) (v w : View R) (c : Common by spare log views) (at : get_elem? views id ≡ some v) (from : get_elem? views other ≡ some w) (ne : other ≢ id) where
    abbrev Goes : ℕ → ℕ → Type 0
    Goes i j = ((j ≡ other) × (i ≡ id)) ⊎ ((j ≢ other) × (i ≡ j))

    goes_same : (i j k : ℕ) → Goes i k → Goes j k → i ≡ j
    goes_same i j k (inl a) (inl b) = a.1 ∙ sym b.1
    goes_same i j k (inl a) (inr b) = absurd (b.0 a.0)
    goes_same i j k (inr a) (inl b) = absurd (a.0 b.0)
    goes_same i j k (inr a) (inr b) = a.1 ∙ sym b.1

    abbrev Comes : ℕ → ℕ → Type 0
    Comes i k = (j : ℕ) × (o : View R) × (m : List R) × (get_elem? views j ≡ some o) × In o.parts k m × Goes i j

    each : (P : View R → Type 0) (i : ℕ) (u : View R) → get_elem? (set (set views id (both v w)) other (note [])) i ≡ some u
        → P (note []) → (i ≡ id → P (both v w)) → (i ≢ other → get_elem? views i ≡ some u → P u) → P u
    each P i u e spent joined same =
        ⊎_elim (λ (t : (i ≡ other) × (note [] ≡ u)). subst P t.1 spent)
        (λ (t : (i ≢ other) × (get_elem? (set views id (both v w)) i ≡ some u)).
        ⊎_elim (λ (a : (i ≡ id) × (both v w ≡ u)). subst P a.1 (joined a.0)) (λ (a : (i ≢ id) × (get_elem? views i ≡ some u)). same t.0 a.1) (at_set views id i (both v w) u t.1))
        (at_set (set views id (both v w)) other i (note []) u e)

    comes : (i : ℕ) (u : View R) (k : ℕ) (l : List R) → get_elem? (set (set views id (both v w)) other (note [])) i ≡ some u → In u.parts k l → Comes i k
    comes i u k l e =
        each (λ (z : View R). In z.parts k l → Comes i k) i u e (λ h. absurd h)
        (λ is h. ⊎_elim (λ (t : In v.parts k l). let r : Comes i k = (id, v, l, at, t, inr ((λ back. ne (sym back)), is)) in r) (λ (t : In w.parts k l). let r : Comes i k = (other, w, l, from, t, inl (refl, is)) in r) (in_append v.parts w.parts k l h))
        (λ away was h. (i, u, l, was, h, inr (away, refl)))

    pub joined : (k : ℕ) (m : List R) → In v.parts k m → w.spare ≡ 0 → Common by spare log (set (set views id (both v w)) other (note []))
    joined k m mine plain =
        let lt : k < spare = c.below id v k m at mine in
        let d = c.deals in
        let fv : Fits by log v = c.fits id v at in
        let fw : Fits by log w = c.fits other w from in
        let not_id : 0 ≢ id = λ e.
        let is : v ≡ d.0 = some-injective v d.0 (sym at ∙ (ap (λ (j : ℕ). get_elem? views j) (sym e) ∙ d.1)) in
        let nil : v.parts ≡ [] = ap (λ (z : View R). z.parts) is ∙ d.2 in subst (λ (l : List (ℕ × List R)). In l k m) nil mine in
        let not_other : 0 ≢ other = λ e.
        let is : w ≡ d.0 = some-injective w d.0 (sym from ∙ (ap (λ (j : ℕ). get_elem? views j) (sym e) ∙ d.1)) in
        let nil : spare ≡ 0 = sym d.3 ∙ (ap (λ (z : View R). z.spare) (sym is) ∙ plain) in omega arith in
        record {
          fits = λ i u e. each (λ (z : View R). Fits by log z) i u e (record { seen = begins_nil log; heard = begins_nil log; parts = λ j l h. absurd h })
              (λ is. record { seen = fv.seen; heard = fw.seen; parts = λ j l h. ⊎_elim (λ t. fv.parts j l t) (λ t. fw.parts j l t) (in_append v.parts w.parts j l h) })
              (λ away was. c.fits i u was);
          apart = λ i j u x a l n e f h g.
              let p = comes i u a l e h in
              let q = comes j x a n f g in
              let same : p.0 ≡ q.0 = c.apart p.0 q.0 p.1 q.1 a p.2 q.2 p.3 q.3 p.4 q.4 in
              goes_same i j q.0 (subst (λ (z : ℕ). Goes i z) same p.5) q.5;
          below = λ i u j l e h. let p = comes i u j l e h in c.below p.0 p.1 j p.2 p.3 p.4;
          deals = (d.0, set_else (set views id (both v w)) other 0 (note []) not_other ∙ (set_else views id 0 (both v w) not_id ∙ d.1), d.2, d.3);
          rows = c.rows;
        }
