-- One turn of reading descriptor by descriptor.
use Rattle.std.proofs.Common.{◌≡◌, ℕ, zero, suc, ◌-◌, ◌<◌, ◌≤◌, List, [], ◌∷◌, length, drop, Result, Ok, Err, refl, sym, ap, ◌∙◌, arith}
use Rattle.std.proofs.lemmas.List.{nil_from_length}
use Rattle.usb_desc.specs.declared.tree.ConfigTree.{ConfigTree}
use Rattle.usb_desc.specs.declared.fault.DescFault.{DescFault}
use Rattle.usb_desc.specs.Cut.{cut}
use Rattle.usb_desc.specs.Read.{then_on, grown, headed, read_on}
use Rattle.usb_desc.proofs.Cuts.{is_cut}

-- the rest of a descriptor that was read is passed over
pub passed_over : (total : ℕ) (tree : ConfigTree) (inside : ℕ) (bytes : List ℕ) → read_on total tree inside bytes ≡ read_on total tree 0 (drop inside bytes)
passed_over total tree zero bytes = refl
passed_over total tree (suc inside) [] = refl
passed_over total tree (suc inside) (b ∷ bytes) = passed_over total tree inside bytes

pub behind_head : (n b : ℕ) (bytes : List ℕ) → 2 ≤ n → drop n (b ∷ bytes) ≡ drop (n - 1) bytes
behind_head zero b bytes h = absurd (omega arith)
behind_head (suc n) b bytes h = ap (λ k. drop k bytes) (let e : n ≡ suc n - 1 = omega arith in e)

pub read_next : (total at : ℕ) (tree next : ConfigTree) (rest d behind : List ℕ) → at ≡ total - length rest → cut at at rest ≡ Ok (d, behind)
    → grown tree at d ≡ Ok next → read_on total tree 0 rest ≡ read_on total next 0 behind
read_next total at tree next [] d behind place e g = absurd cc
read_next total at tree next (b ∷ bytes) d behind place e g =
    let c = is_cut at at (b ∷ bytes) d behind e in
    let good : headed tree at (b ∷ bytes) ≡ Ok next = ap (then_on (λ (x : List ℕ × List ℕ). grown tree at x.0)) e ∙ g in
    let F : Result ConfigTree DescFault → Result ConfigTree DescFault = then_on (λ (t : ConfigTree). read_on total t (b - 1) bytes) in
    ap (λ (p : ℕ). F (headed tree p (b ∷ bytes))) (sym place) ∙ ap F good ∙ passed_over total next (b - 1) bytes
    ∙ ap (read_on total next 0) (sym (behind_head b b bytes c.header) ∙ c.rest)

-- a fault ends the reading
pub read_bad : (total at : ℕ) (tree : ConfigTree) (rest : List ℕ) (f : DescFault) → 0 < length rest → at ≡ total - length rest
    → headed tree at rest ≡ Err f → read_on total tree 0 rest ≡ Err f
read_bad total at tree [] f some place e = absurd (omega arith)
read_bad total at tree (b ∷ bytes) f some place e =
    let F : Result ConfigTree DescFault → Result ConfigTree DescFault = then_on (λ (t : ConfigTree). read_on total t (b - 1) bytes) in
    ap (λ (p : ℕ). F (headed tree p (b ∷ bytes))) (sym place) ∙ ap F e

-- what is read at the end
pub read_end : (total : ℕ) (tree : ConfigTree) (rest : List ℕ) → length rest ≡ 0 → read_on total tree 0 rest ≡ Ok tree
read_end total tree rest none = ap (read_on total tree 0) (nil_from_length rest none)
