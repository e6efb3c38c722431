-- A descriptor without a fault keeps a configuration good.
use Rattle.std.proofs.Common.{◌≡◌, ◌≢◌, ℕ, suc, ◌-◌, ◌<◌, ◌≤◌, Bool, true, false, cond, eqb, ltb, List, [], ◌∷◌, ◌++◌, length, get_or, Option, Some, None, refl, sym, ap, subst, ◌∙◌, arith}
use Rattle.std.specs.Prelude.{slice_get, ◌||◌}
use Rattle.std.specs.List.{AllByRecursion}
use Rattle.std.proofs.lemmas.List.{append-nil, length_push}
use Rattle.std.proofs.lemmas.List.Folds.{concat-append}
use Rattle.std.proofs.lemmas.Bool.{ltb-true, eqb-true, eqb-false}
use Rattle.usb_desc.specs.declared.tree.ConfigTree.{ConfigTree}
use Rattle.usb_desc.specs.declared.tree.Alt.{Alt}
use Rattle.usb_desc.specs.declared.tree.End.{End}
use Rattle.usb_desc.specs.declared.fault.DescFault.{DescFault}
use Rattle.usb_desc.specs.declared.fault.DescFault.TheVariants.{TwiceEndpoint, Limit}
use Rattle.usb_desc.specs.Spell.{written}
use Rattle.usb_desc.specs.Good.{IsExtra, AreExtras, IsGoodEnd, AreDistinct, IsGoodAlt, IsSound}
use Rattle.usb_desc.specs.Growth.{kind_of, on_last, end_of, alt_of, with_end, end_extended, extended_alt, alt_extended, extended_tree, extended, tree_with, last_alt, has_end, end_fault, piece_fault}
use Rattle.usb_desc.proofs.Parts.{IsWhole, is_empty, end_is, alt_is, tree_more, alt_added, end_last}

pub each_push : {X : Type 0} (P : X → Type 0) (xs : List X) (x : X) → AllByRecursion P xs → P x → AllByRecursion P (xs ++ x ∷ [])
each_push P [] x h new = (new, tt)
each_push P (y ∷ xs) x h new = (h.0, each_push P xs x h.1 new)

pub each_last : {X : Type 0} (P : X → Type 0) (f : X → X) (xs : List X) → AllByRecursion P xs
    → ((x : X) → slice_get xs (length xs - 1) ≡ Some x → P x → P (f x)) → AllByRecursion P (on_last f xs)
each_last P f [] h change = tt
each_last P f (x ∷ []) h change = (change x refl h.0, tt)
each_last P f (x ∷ y ∷ xs) h change =
    let later : slice_get (x ∷ y ∷ xs) (length (x ∷ y ∷ xs) - 1) ≡ slice_get (y ∷ xs) (length (y ∷ xs) - 1) = ap (slice_get (x ∷ y ∷ xs)) (let e : length (x ∷ y ∷ xs) - 1 ≡ suc (length (y ∷ xs) - 1) = omega arith in e) in
    (h.0, each_last P f (y ∷ xs) h.1 (λ z e. change z (later ∙ e)))

pub length-on_last : {X : Type 0} (f : X → X) (xs : List X) → length (on_last f xs) ≡ length xs
length-on_last f [] = refl
length-on_last f (a ∷ []) = refl
length-on_last f (a ∷ b ∷ xs) = ap suc (length-on_last f (b ∷ xs))

pub no_extras : AreExtras []
no_extras = record { pieces = []; joined = refl; each = tt }

pub extras_push : (bytes d : List ℕ) → AreExtras bytes → IsExtra d → AreExtras (bytes ++ d)
extras_push bytes d h new = record {
  pieces = h.pieces ++ d ∷ [];
  joined = concat-append h.pieces (d ∷ []) ∙ ap (λ (ys : List ℕ). ys ++ (d ++ [])) h.joined ∙ ap (λ (ys : List ℕ). bytes ++ ys) (append-nil d);
  each = each_push IsExtra h.pieces d h.each new;
}

distinct_last : (d : List ℕ) (ends : List End) → AreDistinct ends → AreDistinct (on_last (end_extended d) ends)
distinct_last d [] h = tt
distinct_last d (e ∷ []) h = (tt, tt)
distinct_last d (e ∷ f ∷ ends) h =
    (each_last (λ (g : End). g.address ≢ e.address) (end_extended d) (f ∷ ends) h.0 (λ g l k. k), distinct_last d (f ∷ ends) h.1)

neither : (a b : Bool) → (a || b) ≡ false → (a ≡ false) × (b ≡ false)
neither true b h = absurd cc
neither false b h = (refl, h)

distinct_push : (ends : List End) (e : End) → AreDistinct ends → has_end ends e.address ≡ false → AreDistinct (ends ++ e ∷ [])
distinct_push [] e h new = (tt, tt)
distinct_push (f ∷ ends) e h new =
    let n = neither (eqb f.address e.address) (has_end ends e.address) new in
    (each_push (λ (g : End). g.address ≢ f.address) ends e h.0 (λ s. eqb-false f.address e.address n.0 (sym s)), distinct_push ends e h.1 n.1)

alt_kept_at : (d : List ℕ) (a : Alt) (ends : List End) → IsExtra d → IsGoodAlt (record a { ends = ends }) → IsGoodAlt (extended_alt d (record a { ends = ends }) ends)
alt_kept_at d a [] new h = record { extras = extras_push a.extras d h.extras new; ends = tt; few = h.few; distinct = tt }
alt_kept_at d a (e ∷ ends) new h = record {
  extras = h.extras;
  ends = each_last IsGoodEnd (end_extended d) (e ∷ ends) h.ends (λ f l k. extras_push f.extras d k new);
  few = subst (λ (n : ℕ). n ≤ 30) (sym (length-on_last (end_extended d) (e ∷ ends))) h.few;
  distinct = distinct_last d (e ∷ ends) h.distinct;
}

alt_kept : (d : List ℕ) (a : Alt) → IsExtra d → IsGoodAlt a → IsGoodAlt (alt_extended d a)
alt_kept d a new h = alt_kept_at d a a.ends new h

tree_kept_at : (d : List ℕ) (c : ConfigTree) (alts : List Alt) → IsExtra d → IsSound (record c { alts = alts }) → IsSound (extended_tree d (record c { alts = alts }) alts)
tree_kept_at d c [] new h = record { extras = extras_push c.extras d h.extras new; alts = tt; few = h.few }
tree_kept_at d c (a ∷ alts) new h = record {
  extras = h.extras;
  alts = each_last IsGoodAlt (alt_extended d) (a ∷ alts) h.alts (λ b l k. alt_kept d b new k);
  few = subst (λ (n : ℕ). n ≤ 64) (sym (length-on_last (alt_extended d) (a ∷ alts))) h.few;
}

-- the setting that an endpoint without fault joins
pub record IsFree (last : Option Alt) (address : ℕ) : Type 0 where
  pub alt : Alt
  pub last_is : last ≡ Some alt
  pub new : has_end alt.ends address ≡ false
  pub room : length alt.ends < 30

free_at : (at address : ℕ) (a : Alt) (twice few : Bool) → has_end a.ends address ≡ twice → ltb (length a.ends) 30 ≡ few
    → cond twice (Some (TwiceEndpoint at)) (cond few None (Some (Limit at))) ≡ None → IsFree (Some a) address
free_at at address a true few t f e = absurd cc
free_at at address a false true t f e = record { alt = a; last_is = refl; new = t; room = ltb-true (length a.ends) 30 f }
free_at at address a false false t f e = absurd cc

is_free : (last : Option Alt) (at address : ℕ) → end_fault last at address ≡ None → IsFree last address
is_free None at address e = absurd cc
is_free (Some a) at address e = free_at at address a (has_end a.ends address) (ltb (length a.ends) 30) refl refl e

-- what was added keeps what was good, and comes after the rest
pub record IsKept (old new : ConfigTree) (d : List ℕ) : Type 0 where
  pub sound : IsSound old → IsSound new
  pub behind : (n : ℕ) → written n new ≡ written n old ++ d

none_within : (b : Bool) (f : DescFault) → cond b None (Some f) ≡ None → b ≡ true
none_within true f e = refl
none_within false f e = absurd cc

some_last : (alts : List Alt) (a : Alt) → last_alt alts ≡ Some a → is_empty alts ≡ false
some_last [] a e = absurd cc
some_last (x ∷ alts) a e = refl

alt_joins : (tree : ConfigTree) (d : List ℕ) → IsWhole d → kind_of d ≡ 4 → length tree.alts < 64 → IsKept tree (record tree { alts = tree.alts ++ alt_of d ∷ [] }) d
alt_joins tree d w kind room = record {
  sound = λ s. record {
    extras = s.extras;
    alts = each_push IsGoodAlt tree.alts (alt_of d) s.alts (record { extras = no_extras; ends = tt; few = omega arith; distinct = tt });
    few = omega (arith, length_push tree.alts (alt_of d));
  };
  behind = λ n. alt_added n tree (alt_of d) ∙ ap (λ (ys : List ℕ). written n tree ++ ys) (alt_is d w kind);
}

end_joins : (tree : ConfigTree) (d : List ℕ) → IsWhole d → kind_of d ≡ 5 → IsFree (last_alt tree.alts) (get_or d 2 0)
    → IsKept tree (record tree { alts = on_last (with_end (end_of d)) tree.alts }) d
end_joins tree d w kind free = record {
  sound = λ s. record {
    extras = s.extras;
    alts = each_last IsGoodAlt (with_end (end_of d)) tree.alts s.alts (λ a l h.
        let same : free.alt ≡ a = let e : Some free.alt ≡ Some a = sym free.last_is ∙ l in cc in
        let new : has_end a.ends (get_or d 2 0) ≡ false = subst (λ (b : Alt). has_end b.ends (get_or d 2 0) ≡ false) same free.new in
        let room : length a.ends < 30 = subst (λ (b : Alt). length b.ends < 30) same free.room in
        record {
          extras = h.extras;
          ends = each_push IsGoodEnd a.ends (end_of d) h.ends no_extras;
          few = omega (arith, length_push a.ends (end_of d));
          distinct = distinct_push a.ends (end_of d) h.distinct new;
        });
    few = subst (λ (n : ℕ). n ≤ 64) (sym (length-on_last (with_end (end_of d)) tree.alts)) s.few;
  };
  behind = λ n. end_last n (end_of d) tree (some_last tree.alts free.alt free.last_is) ∙ ap (λ (ys : List ℕ). written n tree ++ ys) (end_is d w kind);
}

extra_joins : (tree : ConfigTree) (d : List ℕ) → IsWhole d → kind_of d ≢ 4 → kind_of d ≢ 5 → IsKept tree (extended d tree) d
extra_joins tree d w no_interface no_endpoint = record {
  sound = λ s. tree_kept_at d tree tree.alts (record { header = w.header; whole = w.said; long = w.long; no_interface = no_interface; no_endpoint = no_endpoint }) s;
  behind = λ n. tree_more n d tree;
}

kept_at : (tree : ConfigTree) (at : ℕ) (d : List ℕ) (four five : Bool) → IsWhole d → eqb (kind_of d) 4 ≡ four → eqb (kind_of d) 5 ≡ five
    → cond four (cond (ltb (length tree.alts) 64) None (Some (Limit at))) (cond five (end_fault (last_alt tree.alts) at (get_or d 2 0)) None) ≡ None
    → IsKept tree (cond four (record tree { alts = tree.alts ++ alt_of d ∷ [] }) (cond five (record tree { alts = on_last (with_end (end_of d)) tree.alts }) (extended d tree))) d
kept_at tree at d true five w is4 is5 e = alt_joins tree d w (eqb-true (kind_of d) 4 is4) (ltb-true (length tree.alts) 64 (none_within (ltb (length tree.alts) 64) (Limit at) e))
kept_at tree at d false true w is4 is5 e = end_joins tree d w (eqb-true (kind_of d) 5 is5) (is_free (last_alt tree.alts) at (get_or d 2 0) e)
kept_at tree at d false false w is4 is5 e = extra_joins tree d w (eqb-false (kind_of d) 4 is4) (eqb-false (kind_of d) 5 is5)

pub is_kept : (tree : ConfigTree) (at : ℕ) (d : List ℕ) → IsWhole d → piece_fault tree at d ≡ None → IsKept tree (tree_with tree d) d
is_kept tree at d w e = kept_at tree at d (eqb (kind_of d) 4) (eqb (kind_of d) 5) w refl refl e
