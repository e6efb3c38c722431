-- One text more.
use Rattle.std.proofs.Common.{ℕ, zero, suc, ◌≡◌, ◌+◌, ◌<◌, List, [], ◌∷◌, ◌++◌, length, take, get_or, sym, ap, ◌∙◌, arith, append-nil, append_assoc, add-zero, add-one}
use Rattle.usb_report.specs.Numbered.{numbered}

module _ {X : Type 0} (text : ℕ → X → List ℕ) where
  none : (n : ℕ) (x : X) (xs : List X) → text n x ++ numbered text (n + 1) (take zero xs) ≡ text n x
  none n x [] = append-nil (text n x)
  none n x (y ∷ ys) = append-nil (text n x)

  one_more : (n k : ℕ) (xs : List X) (x : X) → k < length xs → x ≡ get_or xs k x
      → numbered text n (take (suc k) xs) ≡ numbered text n (take k xs) ++ text (n + k) x
  one_more n k [] x l e = absurd (omega arith)
  one_more n zero (y ∷ ys) x l e = none n y ys ∙ (λ j. text (sym (add-zero n) j) (sym e j))
  one_more n (suc k) (y ∷ ys) x l e = let place : n + 1 + k ≡ n + suc k = omega arith in
      ap (λ t. text n y ++ t) (one_more (n + 1) k ys x (omega arith) e ∙ ap (λ m. numbered text (n + 1) (take k ys) ++ text m x) place)
      ∙ sym (append_assoc (text n y) (numbered text (n + 1) (take k ys)) (text (n + suc k) x))

  -- what was added after the texts of the first k
  pub text_more : (before : List ℕ) (k n : ℕ) (xs : List X) (x : X) → k < length xs → x ≡ get_or xs k x → n ≡ k
      → before ++ numbered text 0 (take k xs) ++ text n x ≡ before ++ numbered text 0 (take (k + 1) xs)
  text_more before k n xs x l e is =
      let more : numbered text 0 (take (k + 1) xs) ≡ numbered text 0 (take k xs) ++ text n x =
      ap (λ j. numbered text 0 (take j xs)) (add-one k) ∙ (one_more 0 k xs x l e ∙ ap (λ j. numbered text 0 (take k xs) ++ text j x) (let same : 0 + k ≡ n = omega arith in same)) in
      append_assoc before (numbered text 0 (take k xs)) (text n x) ∙ ap (λ t. before ++ t) (sym more)
