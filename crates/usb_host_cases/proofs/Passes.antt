-- The passes that a host opens with, after each of them has poisoned an URB.
use Rattle.std.proofs.Common.{◌≡◌, ℕ, zero, suc, ◌+◌, ◌<◌, List, ◌∷◌, [], Any, All, refl, sym, ap, subst, ◌∙◌, arith, length, get_or, map, Option, true}
use Rattle.usb_types.specs.declared.errno.Code.{Code}
use Rattle.usb_machine.specs.declared.entry.Entry.{Entry}
use Rattle.usb_machine.specs.History.{Machine, HasHome}
use Rattle.usb_machine.specs.Parts.{part_of, keeps}
use Rattle.usb_machine.specs.Calls.{poison_entries}
use Rattle.usb_machine.specs.Fresh.{Known, Grown}
use Rattle.usb_machine.specs.Tokens.{AreAll, OneKeeps, IsClosed, unused, unused_from}
use Rattle.usb_host_cases.specs.Ran.{MayReject, PoisonedAll}
use Rattle.usb_host_cases.proofs.Ends.{part_is}

pub unused_at : (n m k : ℕ) (d : Known) → k < n → get_or (unused_from m n) k d ≡ unused (m + k)
unused_at zero m k d lt = absurd (omega arith)
unused_at (suc n) m zero d lt = ap unused (omega arith)
unused_at (suc n) m (suc k) d lt =
    let e : (m + 1) + k ≡ m + suc k = omega arith in
    unused_at n (m + 1) k d (omega arith) ∙ ap unused e

pub length_unused : (n m : ℕ) → length (unused_from m n) ≡ n
length_unused zero m = refl
length_unused (suc n) m = omega (arith, length_unused n (m + 1))

get_or_same : (xs : List Known) (k : ℕ) (d : Known) → k < length xs → get_or xs k (get_or xs k d) ≡ get_or xs k d
get_or_same [] k d lt = absurd (omega arith)
get_or_same (x ∷ xs) zero d lt = refl
get_or_same (x ∷ xs) (suc k) d lt = get_or_same xs k d (omega arith)

module _ {P : Type 0} (known : P → Known) where
  pub length_known : (ps : List P) → length (map known ps) ≡ length ps
  length_known [] = refl
  length_known (p ∷ ps) = omega (arith, length_known ps)

  pub known_at : (ps : List P) (k : ℕ) (d : P) (e : Known) → k < length ps → get_or (map known ps) k e ≡ known (get_or ps k d)
  known_at [] k d e lt = absurd (omega arith)
  known_at (p ∷ ps) zero d e lt = refl
  known_at (p ∷ ps) (suc k) d e lt = known_at ps k d e (omega arith)

  module _ (n : ℕ) (ps : List P) (new : map known ps ≡ unused_from 2 n) where
    pub count : length ps ≡ n
    count = sym (length_known ps) ∙ (ap length new ∙ length_unused n 2)

    pub new_at : (k : ℕ) (d : P) → k < n → known (get_or ps k d) ≡ unused (2 + k)
    new_at k d lt =
        let all = count in
        sym (known_at ps k d (known d) (omega arith)) ∙ (ap (λ l. get_or l k (known d)) new ∙ unused_at n 2 k (known d) lt)

    pub may_all : (is_of : P → Type 0) (u : ℕ) → All is_of ps → All (λ p. is_of p × MayReject (known p) u) ps
    may_all is_of u here k d lt =
        let all = count in
        let new : known (get_or ps k d) ≡ unused (2 + k) = new_at k d (omega arith) in
        (here k d lt, subst (λ (p : Known). MayReject p u) (sym new) (omega arith))

    module _ (g : Machine) (is_of : P → Type 0) (u : ℕ) (qs : List P) (d : P) (ran : PoisonedAll g known is_of u ps qs) where
      grown : (k : ℕ) → k < n → (rest : Option ℕ) × (a : Code) × Grown (known (get_or ps k d)) (known (get_or qs k d)) (poison_entries (known (get_or ps k d)).number u a rest)
      grown k lt =
          let all = count in
          let e = ran.each k d d (omega arith) in
          (e.rest, e.poisoned.0, e.poisoned.1.grown)

      pub all_here : All is_of qs
      all_here k e lt = (ran.each k e e (omega (arith, ran.len))).here

      number : (k : ℕ) → k < n → (known (get_or qs k d)).number ≡ 2 + k
      number k lt = (grown k lt).2.number ∙ ap (λ (p : Known). p.number) (new_at k d lt)

      same_at : (k : ℕ) → k < n → get_or (map known qs) k (known (get_or qs k d)) ≡ known (get_or qs k d)
      same_at k lt =
          let all = count in
          known_at qs k d (known (get_or qs k d)) (omega (arith, ran.len))

      pub are_all : (s h : Known) → g.passes ≡ n + 2 → s ≡ unused 0 → h ≡ unused 1 → AreAll g (s ∷ h ∷ map known qs)
      are_all s h passes ss hh = of
        where
          of : (k : ℕ) → k < g.passes → Any (λ (y : Known). y.number ≡ k) (s ∷ h ∷ map known qs)
          of zero lt = (0, s, omega arith, refl, ap (λ (y : Known). y.number) ss)
          of (suc zero) lt = (1, h, omega arith, refl, ap (λ (y : Known). y.number) hh)
          of (suc (suc k)) lt =
              let all = count in
              let many = length_known qs in
              (suc (suc k), known (get_or qs k d), omega (arith, ran.len), same_at k (omega arith), number k (omega arith) ∙ omega arith)

      pub one_keeps : (s h : Known) → 0 < n → ((v : ℕ) → HasHome g v → v ≡ u) → OneKeeps g (s ∷ h ∷ map known qs)
      one_keeps s h some only =
          let all = count in
          let many = length_known qs in
          (2, known (get_or qs 0 d), omega (arith, ran.len), same_at 0 some, λ v home. subst (λ w. keeps (known (get_or qs 0 d)).mine w ≡ true) (sym (only v home)) (ran.each 0 d d (omega arith)).kept)

      pub parts_are : (s h : Known) (m : List Entry) → IsClosed g m (s ∷ h ∷ map known qs) → (k : ℕ) → k < n → (rest : Option ℕ) × (a : Code) × part_of m (2 + k) ≡ poison_entries (2 + k) u a rest
      parts_are s h m closed k lt =
          let all = count in
          let many = length_known qs in
          let q : Known = known (get_or qs k d) in
          let x = grown k lt in
          let at : get_or (s ∷ h ∷ map known qs) (suc (suc k)) q ≡ q = same_at k lt in
          let own : part_of m q.number ≡ q.mine = subst (λ (p : Known). part_of m p.number ≡ p.mine) at (closed.own (suc (suc k)) q (omega (arith, ran.len))) in
          (x.0, x.1, part_is m (known (get_or ps k d)) q (2 + k) (λ i. poison_entries i u x.1 x.0) (new_at k d lt) x.2 own)
