-- What a script replies, piece by piece.
use Rattle.std.proofs.Common.{ℕ, zero, suc, ◌≡◌, ◌+◌, ◌∷◌, ◌++◌, length, refl, ap, ◌∙◌, arith}
use Rattle.usb_device.specs.Items.{Script, reply_of}
use Rattle.usb_trace.specs.Script.{replies_from}

module _ (script : Script) where
  pub replies-append : (m a b : ℕ) → replies_from script m (a + b) ≡ replies_from script m a ++ replies_from script (m + a) b
  replies-append m zero b = let e : zero + b ≡ b = omega arith in let d : m ≡ m + zero = omega arith in ap (replies_from script m) e ∙ ap (λ k. replies_from script k b) d
  replies-append m (suc a) b = let e : suc a + b ≡ suc (a + b) = omega arith in let d : suc m + a ≡ m + suc a = omega arith in
      ap (replies_from script m) e ∙ ap (λ l. reply_of script m ∷ l) (replies-append (suc m) a b ∙ ap (λ k. replies_from script (suc m) a ++ replies_from script k b) d)

  pub length-replies : (m n : ℕ) → length (replies_from script m n) ≡ n
  length-replies m zero = refl
  length-replies m (suc n) = ap (λ k. suc k) (length-replies (suc m) n)
