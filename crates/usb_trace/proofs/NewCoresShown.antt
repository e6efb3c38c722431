-- The cores and the handlers that a run begins with.
use Rattle.std.proofs.Common.{ℕ, zero, suc, ◌≡◌, ◌+◌, ◌<◌, ◌⊎◌, inl, inr, ⊎_elim, Option, Some, None, List, [], ◌∷◌, ◌++◌, length, take, get_or, map, refl, sym, ap, ◌∙◌, subst, arith, length-append, Bor}
use Rattle.std.specs.Prelude.{slice_get, option_copied}
use Rattle.std.specs.Slice.{IsItemAt}
use Rattle.std.proofs.lemmas.List.{take_more, length-take-le}
use Rattle.std.proofs.lemmas.Option.{slice_get_within, slice_get_past, slice_get_read, unwrap_or-slice_get}
use Rattle.usb_bind.specs.declared.bound.Bound.{Bound}
use Rattle.usb_class.specs.declared.class_core.Core.{Core}
use Rattle.usb_class.specs.declared.owner.Owner.{Owner}
use Rattle.usb_class.specs.declared.handlers.Handlers.{Handlers}
use Rattle.usb_class.specs.Core.{IsCore}
use Rattle.usb_scene.specs.declared.scene.Scene.{Scene}
use Rattle.usb_scene.specs.WellFormed.{IsWellFormed}
use Rattle.usb_prepare.specs.Below.{below}
use Rattle.usb_prepare.specs.Prepared.{bindings_of, ids_of}
use Rattle.usb_prepare.specs.Layout.{urb_count}
use Rattle.usb_trace.specs.Plan.{origin_by, origin_of}
use Rattle.usb_trace.specs.Handlers.{ShowsCores, AreNewHandlers, new_handled}
use Rattle.usb_trace.specs.NewCores.{owners_of, origin_among, IsNewCore, AreNewCores}
use Rattle.usb_trace.proofs.CoresSeen.{some_at}
use Rattle.usb_trace.proofs.Numbered.{question_number}

-- what stands in a list with one item more
in_longer : {X : Type 0} (xs : List X) (x z : X) (i : ℕ) → slice_get (xs ++ x ∷ []) i ≡ Some z → (slice_get xs i ≡ Some z) ⊎ ((i ≡ length xs) × (z ≡ x))
in_longer [] x z zero e = let same : z ≡ x = cc in inr (refl, same)
in_longer [] x z (suc i) e = cc
in_longer (y ∷ xs) x z zero e = inl e
in_longer (y ∷ xs) x z (suc i) e = ⊎_elim (λ (l : slice_get xs i ≡ Some z). inl l) (λ (r : (i ≡ length xs) × (z ≡ x)). inr (ap (λ k. suc k) r.0, r.1)) (in_longer xs x z i e)

-- two lists of one length, and what holds of the items at each place
pub pairs_longer : {X Y : Type 0} (P : ℕ → X → Y → Type 0) (xs : List X) (ys : List Y) (x : X) (y : Y) → length ys ≡ length xs
    → ((k : ℕ) (v : X) (w : Y) → slice_get xs k ≡ Some v → slice_get ys k ≡ Some w → P k v w) → P (length xs) x y
    → (k : ℕ) (v : X) (w : Y) → slice_get (xs ++ x ∷ []) k ≡ Some v → slice_get (ys ++ y ∷ []) k ≡ Some w → P k v w
pairs_longer P xs ys x y same old new k v w p q = ⊎_elim
    (λ (l : slice_get xs k ≡ Some v). ⊎_elim
    (λ (m : slice_get ys k ≡ Some w). old k v w l m)
    (λ (r : (k ≡ length ys) × (w ≡ y)). let near = slice_get_within xs k v l in let at = r.0 in absurd (omega arith))
    (in_longer ys y w k q))
    (λ (l : (k ≡ length xs) × (v ≡ x)). ⊎_elim
    (λ (m : slice_get ys k ≡ Some w). let near = slice_get_within ys k w m in let at = l.0 in absurd (omega arith))
    (λ (r : (k ≡ length ys) × (w ≡ y)). subst (λ n. P n v w) (sym l.0) (subst (λ v. P (length xs) v w) (sym l.1) (subst (P (length xs) x) (sym r.1) new)))
    (in_longer ys y w k q))
    (in_longer xs x v k p)

-- what a look-up lends
pub lent : {X : Type 0} (xs : List X) (i : ℕ) (r : Option (Bor X)) → IsItemAt xs i r → option_copied r ≡ slice_get xs i
lent xs i None is = sym (slice_get_past xs i is.3)
lent xs i (Some x) is = sym (slice_get_read xs (length xs) i x.now refl is.3.0 is.1)

-- one core more
pub cores_longer : (owners : List (Option Owner)) (bindings : List Bound) (ids : List (List ℕ)) (i : ℕ) (d : Bound) (old new : List Core) (core : Core) → i < length bindings → AreNewCores owners (take i bindings) ids old
    → IsNewCore (origin_among owners (get_or bindings i d) (slice_get ids i)) (get_or bindings i d) core → new ≡ old ++ core ∷ [] → AreNewCores owners (take (i + 1) bindings) ids new
cores_longer owners bindings ids i d old new core near are is e =
    let xs : List Bound = take i bindings in
    let b : Bound = get_or bindings i d in
    let long : length xs ≡ i = length-take-le i bindings (omega arith) in
    let longer : AreNewCores owners (xs ++ b ∷ []) ids (old ++ core ∷ []) = record {
      count = (let a = length-append xs (b ∷ []) in let c = length-append old (core ∷ []) in let d = are.count in omega arith);
      each = pairs_longer (λ k (b : Bound) core. IsNewCore (origin_among owners b (slice_get ids k)) b core) xs old b core are.count are.each (subst (λ k. IsNewCore (origin_among owners b (slice_get ids k)) b core) (sym long) is);
    } in
    subst (AreNewCores owners (take (i + 1) bindings) ids) (sym e) (subst (λ l. AreNewCores owners l ids (old ++ core ∷ [])) (sym (take_more bindings i d near)) longer)

module _ (s : Scene) (good : IsWellFormed s) (owners : List (Option Owner)) (owned : owners ≡ owners_of s) (cores : List Core) (new : AreNewCores owners (bindings_of s) (ids_of s) cores) where
  -- a core begins with what its binding says
  origin_is : (k : ℕ) (b : Bound) → slice_get (bindings_of s) k ≡ Some b → origin_among owners b (slice_get (ids_of s) k) ≡ origin_of s k
  unfolding origin_of
  origin_is k b at =
      let number = question_number s good owners owned k b at in
      let id = unwrap_or-slice_get (ids_of s) k [] in
      (λ j. record { number = number j; interface = b.interface; id = id j }) ∙ ap (origin_by s k) (sym at)

  pub cores_shown : ShowsCores s [] cores
  cores_shown = record {
    all = new.count;
    each = λ k core b at is. subst (λ o. IsCore b.driver o [] core) (origin_is k b is) (new.each k b core is at).is;
    out = λ k core at.
        let near = slice_get_within cores k core at in
        let count = new.count in
        let there = some_at (bindings_of s) k (omega arith) in
        (new.each k there.0 core there.1 at).quiet;
  }

  pub handlers_new : (h : Handlers) → h.cores.items ≡ cores → h.urbs.items ≡ map (new_handled s) (below (urb_count s)) → AreNewHandlers s h
  handlers_new h same urbs =
      let mine : AreNewCores owners (bindings_of s) (ids_of s) h.cores.items = subst (AreNewCores owners (bindings_of s) (ids_of s)) (sym same) new in record {
        all = mine.count;
        each = λ k core b at is. subst (λ o. IsCore b.driver o [] core) (origin_is k b is) (mine.each k b core is at).is;
        quiet = λ k core at.
            let near = slice_get_within h.cores.items k core at in
            let count = mine.count in
            let there = some_at (bindings_of s) k (omega arith) in
            (mine.each k there.0 core there.1 at).quiet;
        urbs = urbs;
      }
