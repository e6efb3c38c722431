-- The endpoints that the host knows of a configuration: none has address 00, each has its own, and there are few.
use Rattle.std.proofs.Common.{ℕ, zero, suc, ◌≡◌, ◌≢◌, ◌+◌, ◌*◌, ◌<◌, ◌≤◌, ⊎_elim, Bool, true, false, not, ◌&&◌, ◌||◌, cond, eqb, Some, List, [], ◌∷◌, ◌++◌, length, fold, refl, sym, ap, ◌∙◌, subst, arith, length-append, eq-eqb}
use Rattle.std.specs.Prelude.{slice_get}
use Rattle.std.specs.List.{AllByRecursion}
use Rattle.usb_desc.specs.declared.tree.ConfigTree.{ConfigTree}
use Rattle.usb_desc.specs.declared.tree.Alt.{Alt}
use Rattle.usb_desc.specs.declared.tree.End.{End}
use Rattle.usb_desc.specs.Growth.{has_end}
use Rattle.usb_desc.specs.Good.{IsGoodAlt, IsGood}
use Rattle.usb_bind.specs.Interfaces.{has_number, with_interface, interfaces_of, joined, ends_of, host_ends}
use Rattle.usb_prepare.proofs.Lists.{in_longer, none_passes, fold_keeps}

-- none of these endpoints has address 00, and each has an address of its own
pub record AreHost (ends : List End) : Type 0 where
  pub some : (i : ℕ) (e : End) → slice_get ends i ≡ Some e → 0 < e.address
  pub once : (i j : ℕ) (e f : End) → slice_get ends i ≡ Some e → slice_get ends j ≡ Some f → e.address ≡ f.address → i ≡ j

none_host : AreHost []
none_host = record { some = λ i e at. cc; once = λ i j e f at bt same. cc }

more_host : (ends : List End) (n : End) → AreHost ends → (eqb n.address 0 || has_end ends n.address) ≡ false → AreHost (ends ++ n ∷ [])
more_host ends n is new = record {
  some = λ i e at. ⊎_elim (λ (l : slice_get ends i ≡ Some e). is.some i e l) (λ (r : (i ≡ length ends) × (e ≡ n)). subst (λ (f : End). 0 < f.address) (sym r.1) positive) (in_longer ends n e i at);
  once = λ i j e f at bt same. ⊎_elim
      (λ (l : slice_get ends i ≡ Some e). ⊎_elim
      (λ (k : slice_get ends j ≡ Some f). is.once i j e f l k same)
      (λ (r : (j ≡ length ends) × (f ≡ n)). absurd (off i e l (same ∙ ap (λ (g : End). g.address) r.1)))
      (in_longer ends n f j bt))
      (λ (r : (i ≡ length ends) × (e ≡ n)). ⊎_elim
      (λ (k : slice_get ends j ≡ Some f). absurd (off j f k (sym same ∙ ap (λ (g : End). g.address) r.1)))
      (λ (q : (j ≡ length ends) × (f ≡ n)). r.0 ∙ sym q.0)
      (in_longer ends n f j bt))
      (in_longer ends n e i at);
}
  where
    parts : (a b : Bool) → (a || b) ≡ false → (a ≡ false) × (b ≡ false)
    parts true b e = cc
    parts false b e = (refl, e)

    both : (eqb n.address 0 ≡ false) × (has_end ends n.address ≡ false)
    both = parts (eqb n.address 0) (has_end ends n.address) new

    positive : 0 < n.address
    positive = go n.address both.0
      where
        go : (a : ℕ) → eqb a 0 ≡ false → 0 < a
        go zero e = cc
        go (suc a) e = omega arith

    off : (i : ℕ) (e : End) → slice_get ends i ≡ Some e → e.address ≢ n.address
    off i e at same = none_passes (λ (f : End). eqb f.address n.address) ends both.1 i e at (eq-eqb e.address n.address same)

joined_host : (ends : List End) (n : End) → AreHost ends → AreHost (joined ends n)
joined_host ends n is = go (eqb n.address 0 || has_end ends n.address) refl
  where
    go : (b : Bool) → (eqb n.address 0 || has_end ends n.address) ≡ b → AreHost (cond (not b) (ends ++ n ∷ []) ends)
    go true e = is
    go false e = more_host ends n is e

pub host_apart : (c : ConfigTree) → AreHost (host_ends c)
host_apart c = fold_keeps AreHost joined joined_host [] (ends_of (interfaces_of c)) none_host

-- how many there are
joined_few : (ends : List End) (n : End) → length (joined ends n) ≤ length ends + 1
joined_few ends n = go (eqb n.address 0 || has_end ends n.address)
  where
    go : (b : Bool) → length (cond (not b) (ends ++ n ∷ []) ends) ≤ length ends + 1
    go true = omega arith
    go false = let long = length-append ends (n ∷ []) in omega arith

fold_few : (ends more : List End) → length (fold joined ends more) ≤ length ends + length more
fold_few ends [] = omega arith
fold_few ends (n ∷ more) = let one = joined_few ends n in let rest = fold_few (joined ends n) more in omega arith

-- each of some settings has few endpoints
abbrev AreFew : List Alt → Type 0
AreFew alts = AllByRecursion (λ (a : Alt). length a.ends ≤ 30) alts

all_few : (alts : List Alt) → AllByRecursion IsGoodAlt alts → AreFew alts
all_few [] is = tt
all_few (a ∷ alts) is = (is.0.few, all_few alts is.1)

few_push : (alts : List Alt) (a : Alt) → AreFew alts → length a.ends ≤ 30 → AreFew (alts ++ a ∷ [])
few_push [] a is one = (one, tt)
few_push (b ∷ alts) a is one = (is.0, few_push alts a is.1 one)

opened : (so_far : List Alt) (a : Alt) (n : ℕ) → AreFew so_far → length so_far ≤ n → length a.ends ≤ 30 → AreFew (with_interface so_far a) × (length (with_interface so_far a) ≤ n + 1)
opened so_far a n is few one = go (eqb a.setting 0 && not (has_number so_far a.number))
  where
    go : (b : Bool) → AreFew (cond b (so_far ++ a ∷ []) so_far) × (length (cond b (so_far ++ a ∷ []) so_far) ≤ n + 1)
    go true = (few_push so_far a is one, let long = length-append so_far (a ∷ []) in omega arith)
    go false = (is, omega arith)

all_opened : (so_far alts : List Alt) (n : ℕ) → AreFew so_far → length so_far ≤ n → AreFew alts → AreFew (fold with_interface so_far alts) × (length (fold with_interface so_far alts) ≤ n + length alts)
all_opened so_far [] n is few all = (is, omega arith)
all_opened so_far (a ∷ alts) n is few all =
    let one = opened so_far a n is few all.0 in
    let rest = all_opened (with_interface so_far a) alts (n + 1) one.0 one.1 all.1 in
    let most = rest.1 in
    (rest.0, omega arith)

ends_few : (alts : List Alt) → AreFew alts → length (ends_of alts) ≤ 30 * length alts
ends_few [] is = omega arith
ends_few (a ∷ alts) is = let one = is.0 in let rest = ends_few alts is.1 in let long = length-append a.ends (ends_of alts) in omega arith

pub host_few : (c : ConfigTree) → IsGood c → length (host_ends c) ≤ 1920
host_few c good =
    let all = all_opened [] c.alts 0 tt (omega arith) (all_few c.alts good.alts) in
    let few = ends_few (interfaces_of c) all.0 in
    let most = all.1 in
    let alts = good.few in
    let sum = fold_few [] (ends_of (interfaces_of c)) in
    omega arith
