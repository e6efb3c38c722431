-- The sum of f over the numbers below n, and what a change at one number does to it.
use Rattle.std.proofs.Common.{◌≡◌, ◌≢◌, ℕ, zero, suc, ◌+◌, ◌*◌, ◌-◌, ◌<◌, ◌≤◌, sym, refl, ap, arith}
use mathlib.Core.Logic.{dite}
use native.Mathlib.Decide.{ℕ_discrete}
pub use Rattle.usb_machine.specs.Laws.{total}

pub total_same : (n : ℕ) (f k : ℕ → ℕ) → ((q : ℕ) → q < n → k q ≡ f q) → total n k ≡ total n f
total_same zero f k e = refl
total_same (suc n) f k e = let a = total_same n f k (λ q l. e q (omega arith)) in let b = e n (omega arith) in omega arith

pub total_one : (n p : ℕ) (f k : ℕ → ℕ) → p < n → ((q : ℕ) → q ≢ p → k q ≡ f q) → total n k + f p ≡ total n f + k p
total_one zero p f k l e = absurd (omega arith)
total_one (suc n) p f k l e = dite (ℕ_discrete n p)
    (λ (is : n ≡ p). let a = total_same n f k (λ q l. e q (omega arith)) in let b : f p ≡ f n = ap f (sym is) in let c : k p ≡ k n = ap k (sym is) in omega arith)
    (λ off. let a = total_one n p f k (omega arith) e in let b = e n off in omega arith)

pub part_of_total : (n p : ℕ) (f : ℕ → ℕ) → p < n → f p ≤ total n f
part_of_total zero p f l = absurd (omega arith)
part_of_total (suc n) p f l = dite (ℕ_discrete n p) (λ (is : n ≡ p). let b : f p ≡ f n = ap f (sym is) in omega arith) (λ off. let a = part_of_total n p f (omega arith) in omega arith)

pub total_none : (n : ℕ) → total n (λ _. 0) ≡ 0
total_none zero = refl
total_none (suc n) = let a = total_none n in omega arith

pub total_less : (n p : ℕ) (f k : ℕ → ℕ) → ((q : ℕ) → k q ≤ f q) → p < n → k p < f p → total n k < total n f
total_less n p f k below l less = go n l
  where
    total_below : (m : ℕ) → total m k ≤ total m f
    total_below zero = omega arith
    total_below (suc m) = let a = total_below m in let b = below m in omega arith

    go : (m : ℕ) → p < m → total m k < total m f
    go zero l = absurd (omega arith)
    go (suc m) l = dite (ℕ_discrete m p)
        (λ (is : m ≡ p). let a = total_below m in let b : k p ≡ k m = ap k (sym is) in let c : f p ≡ f m = ap f (sym is) in omega arith)
        (λ off. let a = go m (omega arith) in let b = below m in omega arith)

pub total_least : (n : ℕ) (f : ℕ → ℕ) → ((q : ℕ) → f q ≤ 1) → total n f ≤ n
total_least zero f b = omega arith
total_least (suc n) f b = let a = total_least n f b in let c = b n in omega arith

pub total_at_most : (n m : ℕ) (f : ℕ → ℕ) → ((q : ℕ) → f q ≤ 255) → n ≤ m → total n f ≤ 255 * m
total_at_most zero m f b l = omega arith
total_at_most (suc n) m f b l = let a = total_at_most n (m - 1) f b (omega arith) in let c = b n in omega arith
