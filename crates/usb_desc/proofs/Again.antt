-- What is spelled is read.
use Rattle.std.proofs.Common.{◌≡◌, ◌≢◌, ℕ, ◌+◌, ◌-◌, ◌≤◌, Bool, true, false, cond, eqb, ltb, List, [], ◌∷◌, ◌++◌, length, get_or, take, drop, Some, None, Ok, Err, refl, sym, ap, subst, ◌∙◌, append_assoc, arith}
use Rattle.std.specs.List.{AllByRecursion, concat}
use Rattle.std.proofs.lemmas.List.{append-nil, take_at, drop_at, length-append}
use Rattle.std.proofs.lemmas.Bool.{le-ltb, eqb-true}
use Rattle.usb_desc.specs.declared.tree.ConfigTree.{ConfigTree}
use Rattle.usb_desc.specs.declared.tree.Alt.{Alt}
use Rattle.usb_desc.specs.declared.tree.End.{End}
use Rattle.usb_desc.specs.declared.fault.DescFault.{DescFault}
use Rattle.usb_desc.specs.declared.fault.DescFault.TheVariants.{Short, BadLength, Limit}
use Rattle.usb_desc.specs.Cut.{standard_length, cut}
use Rattle.usb_desc.specs.Good.{IsExtra, AreExtras}
use Rattle.usb_desc.specs.Growth.{kind_of, on_last, end_of, alt_of, with_end, end_extended, extended_alt, alt_extended, extended_tree, extended, tree_with, last_alt, end_fault, piece_fault}
use Rattle.usb_desc.specs.Read.{unless, read_on}
use Rattle.usb_desc.proofs.Reading.{read_next}

-- ---- a change at the end after another

on_last_both : {X : Type 0} (f g h : X → X) → ((x : X) → f (g x) ≡ h x) → (xs : List X) → on_last f (on_last g xs) ≡ on_last h xs
on_last_both f g h e [] = refl
on_last_both f g h e (x ∷ []) = ap (λ y. y ∷ []) (e x)
on_last_both f g h e (x ∷ y ∷ []) = ap (λ ys. x ∷ ys) (on_last_both f g h e (y ∷ []))
on_last_both f g h e (x ∷ y ∷ z ∷ xs) = ap (λ ys. x ∷ ys) (on_last_both f g h e (y ∷ z ∷ xs))

on_last_none : {X : Type 0} (f : X → X) → ((x : X) → f x ≡ x) → (xs : List X) → on_last f xs ≡ xs
on_last_none f e [] = refl
on_last_none f e (x ∷ []) = ap (λ y. y ∷ []) (e x)
on_last_none f e (x ∷ y ∷ xs) = ap (λ ys. x ∷ ys) (on_last_none f e (y ∷ xs))

end_twice : (c d : List ℕ) (e : End) → end_extended d (end_extended c e) ≡ end_extended (c ++ d) e
end_twice c d e = ap (λ (ys : List ℕ). record e { extras = ys }) (append_assoc e.extras c d)

end_nothing : (e : End) → end_extended [] e ≡ e
end_nothing e = ap (λ (ys : List ℕ). record e { extras = ys }) (append-nil e.extras)

alt_twice_at : (c d : List ℕ) (a : Alt) (ends : List End) → alt_extended d (extended_alt c (record a { ends = ends }) ends) ≡ extended_alt (c ++ d) (record a { ends = ends }) ends
alt_twice_at c d a [] = ap (λ (ys : List ℕ). record a { extras = ys; ends = [] }) (append_assoc a.extras c d)
alt_twice_at c d a (e ∷ []) = ap (λ (es : List End). record a { ends = es }) (on_last_both (end_extended d) (end_extended c) (end_extended (c ++ d)) (end_twice c d) (e ∷ []))
alt_twice_at c d a (e ∷ f ∷ ends) = ap (λ (es : List End). record a { ends = es }) (on_last_both (end_extended d) (end_extended c) (end_extended (c ++ d)) (end_twice c d) (e ∷ f ∷ ends))

alt_twice : (c d : List ℕ) (a : Alt) → alt_extended d (alt_extended c a) ≡ alt_extended (c ++ d) a
alt_twice c d a = alt_twice_at c d a a.ends

alt_nothing_at : (a : Alt) (ends : List End) → extended_alt [] (record a { ends = ends }) ends ≡ record a { ends = ends }
alt_nothing_at a [] = ap (λ (ys : List ℕ). record a { extras = ys; ends = [] }) (append-nil a.extras)
alt_nothing_at a (e ∷ ends) = ap (λ (es : List End). record a { ends = es }) (on_last_none (end_extended []) end_nothing (e ∷ ends))

alt_nothing : (a : Alt) → alt_extended [] a ≡ a
alt_nothing a = alt_nothing_at a a.ends

tree_twice_at : (c d : List ℕ) (t : ConfigTree) (alts : List Alt) → extended d (extended_tree c (record t { alts = alts }) alts) ≡ extended_tree (c ++ d) (record t { alts = alts }) alts
tree_twice_at c d t [] = ap (λ (ys : List ℕ). record t { extras = ys; alts = [] }) (append_assoc t.extras c d)
tree_twice_at c d t (a ∷ []) = ap (λ (bs : List Alt). record t { alts = bs }) (on_last_both (alt_extended d) (alt_extended c) (alt_extended (c ++ d)) (alt_twice c d) (a ∷ []))
tree_twice_at c d t (a ∷ b ∷ alts) = ap (λ (bs : List Alt). record t { alts = bs }) (on_last_both (alt_extended d) (alt_extended c) (alt_extended (c ++ d)) (alt_twice c d) (a ∷ b ∷ alts))

tree_twice : (c d : List ℕ) (t : ConfigTree) → extended d (extended c t) ≡ extended (c ++ d) t
tree_twice c d t = tree_twice_at c d t t.alts

tree_nothing_at : (t : ConfigTree) (alts : List Alt) → extended_tree [] (record t { alts = alts }) alts ≡ record t { alts = alts }
tree_nothing_at t [] = ap (λ (ys : List ℕ). record t { extras = ys; alts = [] }) (append-nil t.extras)
tree_nothing_at t (a ∷ alts) = ap (λ (bs : List Alt). record t { alts = bs }) (on_last_none (alt_extended []) alt_nothing (a ∷ alts))

tree_nothing : (t : ConfigTree) → extended [] t ≡ t
tree_nothing t = tree_nothing_at t t.alts

-- ---- one descriptor

-- a descriptor that begins with its length, which is enough
pub record IsPiece (d : List ℕ) : Type 0 where
  pub header : 2 ≤ length d
  pub said : get_or d 0 0 ≡ length d
  pub long : standard_length (kind_of d) ≤ length d

cut_by : {X : Type 0} (a b c : Bool) (f g h : DescFault) (x y : X) → a ≡ false → b ≡ false → c ≡ false → x ≡ y
    → cond a (Err f) (cond b (Err g) (cond c (Err h) (Ok x))) ≡ Ok y
cut_by true b c f g h x y ea eb ec e = absurd cc
cut_by false true c f g h x y ea eb ec e = absurd cc
cut_by false false true f g h x y ea eb ec e = absurd cc
cut_by false false false f g h x y ea eb ec e = ap (λ z. Ok z) e

pub cut_again : (short at : ℕ) (d rest : List ℕ) → IsPiece d → cut short at (d ++ rest) ≡ Ok (d, rest)
cut_again short at [] rest p = absurd (omega (arith, p.header))
cut_again short at (n ∷ []) rest p = absurd (omega (arith, p.header))
cut_again short at (n ∷ k ∷ ys) rest p =
    let bytes : List ℕ = n ∷ k ∷ (ys ++ rest) in
    let size : length bytes ≡ length (n ∷ k ∷ ys) + length rest = omega (arith, length-append ys rest) in
    let said : n ≡ length (n ∷ k ∷ ys) = p.said in
    let long : standard_length k ≤ length (n ∷ k ∷ ys) = p.long in
    let front : take n bytes ≡ n ∷ k ∷ ys = take_at (n ∷ k ∷ ys) rest n (sym said) in
    let back : drop n bytes ≡ rest = drop_at (n ∷ k ∷ ys) rest n (sym said) in
    let both : (take n bytes, drop n bytes) ≡ (n ∷ k ∷ ys, rest) = ap (λ (zs : List ℕ). (zs, drop n bytes)) front ∙ ap (λ (zs : List ℕ). (n ∷ k ∷ ys, zs)) back in
    cut_by (ltb (length bytes) 2) (ltb (length bytes) n) (ltb n (standard_length k)) (Short short) (Short short) (BadLength at) (take n bytes, drop n bytes) (n ∷ k ∷ ys, rest)
    (le-ltb _ _ (omega arith)) (le-ltb _ _ (omega arith)) (le-ltb _ _ (omega arith)) both

pub read_piece : (total : ℕ) (tree : ConfigTree) (d rest : List ℕ) → IsPiece d → ((at : ℕ) → piece_fault tree at d ≡ None)
    → read_on total tree 0 (d ++ rest) ≡ read_on total (tree_with tree d) 0 rest
read_piece total tree d rest p none =
    let at = total - length (d ++ rest) in
    read_next total at tree (tree_with tree d) (d ++ rest) d rest refl (cut_again at at d rest p) (ap (unless (tree_with tree d)) (none at))

differ_at : (a b : ℕ) (t : Bool) → eqb a b ≡ t → a ≢ b → t ≡ false
differ_at a b true e ne = absurd (ne (eqb-true a b e))
differ_at a b false e ne = refl

pub differ : (a b : ℕ) → a ≢ b → eqb a b ≡ false
differ a b ne = differ_at a b (eqb a b) refl ne

neither_kind : {X : Type 0} (a b : Bool) (x y z : X) → a ≡ false → b ≡ false → cond a x (cond b y z) ≡ z
neither_kind true b x y z ea eb = absurd cc
neither_kind false true x y z ea eb = absurd cc
neither_kind false false x y z ea eb = refl

extra_read : (total : ℕ) (tree : ConfigTree) (d rest : List ℕ) → IsExtra d → read_on total tree 0 (d ++ rest) ≡ read_on total (extended d tree) 0 rest
extra_read total tree d rest x =
    let four = differ (kind_of d) 4 x.no_interface in
    let five = differ (kind_of d) 5 x.no_endpoint in
    read_piece total tree d rest (record { header = x.header; said = x.whole; long = x.long })
    (λ at. neither_kind (eqb (kind_of d) 4) (eqb (kind_of d) 5) (cond (ltb (length tree.alts) 64) None (Some (Limit at))) (end_fault (last_alt tree.alts) at (get_or d 2 0)) None four five)
    ∙ ap (λ (t : ConfigTree). read_on total t 0 rest) (neither_kind (eqb (kind_of d) 4) (eqb (kind_of d) 5) (record tree { alts = tree.alts ++ alt_of d ∷ [] }) (record tree { alts = on_last (with_end (end_of d)) tree.alts }) (extended d tree) four five)

pieces_read : (total : ℕ) (tree : ConfigTree) (ds : List (List ℕ)) (rest : List ℕ) → AllByRecursion IsExtra ds
    → read_on total tree 0 (concat ds ++ rest) ≡ read_on total (extended (concat ds) tree) 0 rest
pieces_read total tree [] rest each = ap (λ (t : ConfigTree). read_on total t 0 rest) (sym (tree_nothing tree))
pieces_read total tree (d ∷ ds) rest each =
    ap (read_on total tree 0) (append_assoc d (concat ds) rest) ∙ extra_read total tree d (concat ds ++ rest) each.0 ∙ pieces_read total (extended d tree) ds rest each.1
    ∙ ap (λ (t : ConfigTree). read_on total t 0 rest) (tree_twice d (concat ds) tree)

pub extras_read : (total : ℕ) (tree : ConfigTree) (bytes rest : List ℕ) → AreExtras bytes → read_on total tree 0 (bytes ++ rest) ≡ read_on total (extended bytes tree) 0 rest
extras_read total tree bytes rest x =
    subst (λ (ys : List ℕ). read_on total tree 0 (ys ++ rest) ≡ read_on total (extended ys tree) 0 rest) x.joined (pieces_read total tree x.pieces rest x.each)
