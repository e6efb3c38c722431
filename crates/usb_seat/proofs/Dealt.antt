-- What stands in order, and the passes that are all of a machine's.
use Rattle.std.proofs.Common.{ℕ, zero, suc, ◌≡◌, ◌+◌, ◌<◌, ◌∙◌, List, [], ◌∷◌, Option, Some, None, IfSome, All, Any, map, length, get_or, refl, sym, ap, subst, arith}
use Rattle.std.specs.List.{range_with_len}
use mathlib.Core.Logic.{dite}
use native.Mathlib.Decide.{ℕ_discrete}
use Rattle.std.proofs.Math.ListN.{set}
use Rattle.std.proofs.lemmas.List.{map-set, length-set, get_or-set_same, get_or-set_other, get_or_default, get_or-map, length-map, set-get_or}
use Rattle.std.proofs.lemmas.List.FromFn.{get_or-range_with_len, length-range_with_len}
use Rattle.std.proofs.lemmas.List.Elements.{All-set}
use Rattle.usb_machine.specs.declared.entry.TheConstants.{SERVER, HUB}
use Rattle.usb_machine.specs.History.{Machine}
use Rattle.usb_machine.specs.Fresh.{Known}
use Rattle.usb_machine.specs.Tokens.{AreAll, unused, unused_from}
use Rattle.usb_seat.specs.Dealing.{in_order, hubs, AreNumbered}

number : Known → ℕ
number p = p.number

module _ {A B : Type 0} (f : A → B) where
  get_or-map_at : (xs : List A) (i : ℕ) (x : A) → get_or (map f xs) i (f x) ≡ f (get_or xs i x)
  get_or-map_at [] i x = refl
  get_or-map_at (y ∷ xs) zero x = refl
  get_or-map_at (y ∷ xs) (suc i) x = get_or-map_at xs i x

  -- what is read of all that stands in order
  pub map-in_order : (t : Option ℕ) (xs : List A) (x : A) → map f (in_order t xs x) ≡ in_order t (map f xs) (f x)
  map-in_order None xs x = refl
  map-in_order (Some i) xs x = map-set f xs i x

  pub map-hubs : (t : Option ℕ) (xs : List A) (x : A) → f (hubs t xs x) ≡ hubs t (map f xs) (f x)
  map-hubs None xs x = refl
  map-hubs (Some i) xs x = sym (get_or-map_at xs i x)

module _ {A : Type 0} where
  pub length-in_order : (t : Option ℕ) (xs : List A) (x : A) → length (in_order t xs x) ≡ length xs
  length-in_order None xs x = refl
  length-in_order (Some i) xs x = length-set xs i x

  -- P of all seats is P of all that stands in order, and of the hub's
  pub all-in_order : (P : A → Type 0) (t : Option ℕ) (xs : List A) (x : A) → All P xs → P x → All P (in_order t xs x)
  all-in_order P None xs x all one = all
  all-in_order P (Some i) xs x all one = All-set P xs i x one all

  pub all-hubs : (P : A → Type 0) (t : Option ℕ) (xs : List A) (x : A) → IfSome t (λ i. i < length xs) → All P xs → P x → P (hubs t xs x)
  all-hubs P None xs x near all one = one
  all-hubs P (Some i) xs x near all one = all i x near

  set_twice : (xs : List A) (i : ℕ) (x y : A) → set (set xs i x) i y ≡ set xs i y
  set_twice [] i x y = refl
  set_twice (z ∷ xs) zero x y = refl
  set_twice (z ∷ xs) (suc i) x y = ap (λ l. z ∷ l) (set_twice xs i x y)

  -- seats that are changed twice are as they were
  pub in_order-twice : (t : Option ℕ) (xs : List A) (x : A) → in_order t (in_order t xs x) (hubs t xs x) ≡ xs
  in_order-twice None xs x = refl
  in_order-twice (Some i) xs x = set_twice xs i x (get_or xs i x) ∙ set-get_or xs i x

  pub hubs-twice : (t : Option ℕ) (xs : List A) (x : A) → IfSome t (λ i. i < length xs) → hubs t (in_order t xs x) (hubs t xs x) ≡ x
  hubs-twice None xs x near = refl
  hubs-twice (Some i) xs x near = get_or-set_same xs i x (get_or xs i x) near

  -- where thread j's stands among the server's, the hub's and those in order
  pub record Place (s : A) (t : Option ℕ) (xs : List A) (x : A) (j : ℕ) : Type 0 where
    pub at : ℕ
    pub near : at < length (s ∷ hubs t xs x ∷ in_order t xs x)
    pub is : (d : A) → get_or (s ∷ hubs t xs x ∷ in_order t xs x) at d ≡ get_or xs j d

  pub place : (s : A) (t : Option ℕ) (xs : List A) (x : A) (j : ℕ) → j < length xs → Place s t xs x j
  place s None xs x j l = record { at = suc (suc j); near = omega arith; is = λ d. refl }
  place s (Some i) xs x j l = dite (ℕ_discrete j i)
      (λ same. record { at = 1; near = omega arith; is = λ d. ap (λ k. get_or xs k x) (sym same) ∙ get_or_default xs j x d l })
      (λ off. record { at = suc (suc j); near = let long = length-set xs i x in omega arith; is = λ d. get_or-set_other xs i j x d off })

  pub all-threads : (P : A → Type 0) (s : A) (t : Option ℕ) (xs : List A) (x : A) → All P (s ∷ hubs t xs x ∷ in_order t xs x) → All P xs
  all-threads P s t xs x all j d l = let p = place s t xs x j l in subst P (p.is d) (all p.at d p.near)

  pub any-thread : (P : A → Type 0) (s : A) (t : Option ℕ) (xs : List A) (x : A) → Any P xs → Any P (s ∷ hubs t xs x ∷ in_order t xs x)
  any-thread P s t xs x any = let p = place s t xs x any.0 any.2 in (p.at, any.1, p.near, p.is any.1 ∙ any.3, any.4)

pub numbers_unused : (n m : ℕ) → map (λ (p : Known). p.number) (unused_from m n) ≡ range_with_len m n
numbers_unused zero m = refl
numbers_unused (suc n) m = ap (λ l. m ∷ l) (numbers_unused n (m + 1))

pub length_unused : (n m : ℕ) → length (unused_from m n) ≡ n
length_unused zero m = refl
length_unused (suc n) m = let more = length_unused n (m + 1) in omega arith

-- the number at a place, where those in order are 2 and so on
pub number_at : (ks : List Known) (n k : ℕ) (d : Known) → map (λ (p : Known). p.number) ks ≡ range_with_len 2 n → k < length ks → (get_or ks k d).number ≡ 2 + k
number_at ks n k d is l =
    let long : length ks ≡ n = sym (length-map ks (λ (p : Known). p.number)) ∙ (ap (λ (l : List ℕ). length l) is ∙ length-range_with_len 2 n) in
    sym (get_or-map (λ (p : Known). p.number) ks k d 0 l) ∙ (ap (λ l. get_or l k 0) is ∙ get_or-range_with_len 2 n k 0 (omega arith))

-- the server's, the hub's, and those in order are all passes of the machine
pub all_passes : (g : Machine) (s h : Known) (ks : List Known) → s.number ≡ SERVER → h.number ≡ HUB → map (λ (p : Known). p.number) ks ≡ range_with_len 2 (length ks) → g.passes ≡ 2 + length ks → AreAll g (s ∷ h ∷ ks)
all_passes g s h ks server hub others many k l = go k (subst (λ m. k < m) many l)
  where
    go : (k : ℕ) → k < 2 + length ks → Any (λ (p : Known). p.number ≡ k) (s ∷ h ∷ ks)
    go zero l = (0, s, omega arith, refl, server)
    go (suc zero) l = (1, h, omega arith, refl, hub)
    go (suc (suc k)) l =
        let near : k < length ks = omega arith in
        (suc (suc k), get_or ks k s, omega arith, get_or_default ks k (get_or ks k s) s near, number_at ks (length ks) k s others near ∙ (omega arith))

-- what was dealt has its numbers
pub dealt_numbers : (t : Option ℕ) (n : ℕ) (ks : List Known) (k : Known) → IfSome t (λ i. i < n) → ks ≡ in_order t (unused_from 2 n) (unused HUB) → k ≡ hubs t (unused_from 2 n) (unused HUB) → AreNumbered t ks k
dealt_numbers t n ks k near seats spare =
    let new = map (λ (p : Known). p.number) (unused_from 2 n) in
    let all : map (λ (p : Known). p.number) ks ≡ in_order t new HUB = ap (map (λ (p : Known). p.number)) seats ∙ map-in_order (λ (p : Known). p.number) t (unused_from 2 n) (unused HUB) in
    let one : k.number ≡ hubs t new HUB = ap (λ (p : Known). p.number) spare ∙ map-hubs (λ (p : Known). p.number) t (unused_from 2 n) (unused HUB) in
    let many : length new ≡ n = ap (λ (l : List ℕ). length l) (numbers_unused n 2) ∙ length-range_with_len 2 n in
    let count : length ks ≡ n = sym (length-map ks (λ (p : Known). p.number)) ∙ (ap (λ (l : List ℕ). length l) all ∙ (length-in_order t new HUB ∙ many)) in
    record {
      in_turn = ap (λ l. in_order t l k.number) all ∙ (ap (λ m. in_order t (in_order t new HUB) m) one ∙ (in_order-twice t new HUB ∙ (numbers_unused n 2 ∙ ap (range_with_len 2) (sym count))));
      hub = ap (λ l. hubs t l k.number) all ∙ (ap (λ m. hubs t (in_order t new HUB) m) one ∙ hubs-twice t new HUB (subst (λ m. IfSome t (λ i. i < m)) (sym many) near));
    }
