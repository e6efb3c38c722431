-- The passes of a machine are still all of its passes when two of them have grown.
use Rattle.std.proofs.Common.{◌≡◌, ℕ, zero, suc, ◌<◌, List, ◌∷◌, ◌++◌, [], Any, refl, ap, subst, ◌∙◌, arith, slice_index_or}
use Rattle.usb_machine.specs.History.{Machine}
use Rattle.usb_machine.specs.Parts.{part_of}
use Rattle.usb_machine.specs.declared.entry.Entry.{Entry}
use Rattle.usb_machine.specs.Fresh.{Known, Grown}
use Rattle.usb_machine.specs.Tokens.{AreAll, unused}

pub grown_number : (k : ℕ) (s h a b p q : Known) → p.number ≡ a.number → q.number ≡ b.number → (i : ℕ) (x : Known) → i < 4 → slice_index_or (s ∷ h ∷ a ∷ b ∷ []) i x ≡ x → x.number ≡ k → Any (λ (y : Known). y.number ≡ k) (s ∷ h ∷ p ∷ q ∷ [])
grown_number k s h a b p q pa qb zero x lt is e = (0, s, omega arith, refl, ap (λ (y : Known). y.number) is ∙ e)
grown_number k s h a b p q pa qb (suc zero) x lt is e = (1, h, omega arith, refl, ap (λ (y : Known). y.number) is ∙ e)
grown_number k s h a b p q pa qb (suc (suc zero)) x lt is e = (2, p, omega arith, refl, pa ∙ (ap (λ (y : Known). y.number) is ∙ e))
grown_number k s h a b p q pa qb (suc (suc (suc zero))) x lt is e = (3, q, omega arith, refl, qb ∙ (ap (λ (y : Known). y.number) is ∙ e))
grown_number k s h a b p q pa qb (suc (suc (suc (suc i)))) x lt is e = absurd (omega (arith, lt))

pub all_grown : (g : Machine) (s h a b p q : Known) → p.number ≡ a.number → q.number ≡ b.number → AreAll g (s ∷ h ∷ a ∷ b ∷ []) → AreAll g (s ∷ h ∷ p ∷ q ∷ [])
all_grown g s h a b p q pa qb all k below =
    let found = all k below in
    grown_number k s h a b p q pa qb found.0 found.1 found.2 found.3 found.4

pub four_numbers : (s h a b : Known) → s.number ≡ 0 → h.number ≡ 1 → a.number ≡ 2 → b.number ≡ 3 → (k : ℕ) → k < 4 → Any (λ (y : Known). y.number ≡ k) (s ∷ h ∷ a ∷ b ∷ [])
four_numbers s h a b ss hh aa bb zero lt = (0, s, omega arith, refl, ss)
four_numbers s h a b ss hh aa bb (suc zero) lt = (1, h, omega arith, refl, hh)
four_numbers s h a b ss hh aa bb (suc (suc zero)) lt = (2, a, omega arith, refl, aa)
four_numbers s h a b ss hh aa bb (suc (suc (suc zero))) lt = (3, b, omega arith, refl, bb)
four_numbers s h a b ss hh aa bb (suc (suc (suc (suc k)))) lt = absurd (omega (arith, lt))

pub all_four : (g : Machine) (s h a b : Known) → g.passes ≡ 4 → s ≡ unused 0 → h ≡ unused 1 → a ≡ unused 2 → b ≡ unused 3 → AreAll g (s ∷ h ∷ a ∷ b ∷ [])
all_four g s h a b four ss hh aa bb k below =
    let number = λ (y : Known). y.number in
    four_numbers s h a b (ap number ss) (ap number hh) (ap number aa) (ap number bb) k (subst (λ n. k < n) four below)

-- what a pass did since it was new is its part of the whole
pub part_is : (h : List Entry) (a p : Known) (n : ℕ) (more : ℕ → List Entry) → a ≡ unused n → Grown a p (more a.number) → part_of h p.number ≡ p.mine → part_of h n ≡ more n
part_is h a p n more new grown own =
    let number : p.number ≡ n = grown.number ∙ ap (λ (k : Known). k.number) new in
    let mine : p.mine ≡ more n = grown.mine ∙ ap (λ (k : Known). k.mine ++ more k.number) new in
    subst (λ k. part_of h k ≡ p.mine) number own ∙ mine
