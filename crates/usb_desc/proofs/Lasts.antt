-- Lists that change at their end.
use Rattle.std.proofs.Common.{◌≡◌, ℕ, List, [], ◌∷◌, ◌++◌, refl, ap, ◌∙◌}
use Rattle.usb_desc.specs.declared.tree.ConfigTree.{ConfigTree}
use Rattle.usb_desc.specs.declared.tree.Alt.{Alt}
use Rattle.usb_desc.specs.declared.tree.End.{End}
use Rattle.usb_desc.specs.Growth.{on_last, end_extended, extended_alt, alt_extended, extended_tree, extended}

pub on_last_push : {X : Type 0} (f : X → X) (xs : List X) (x : X) → on_last f (xs ++ x ∷ []) ≡ xs ++ f x ∷ []
on_last_push f [] x = refl
on_last_push f (a ∷ []) x = refl
on_last_push f (a ∷ b ∷ xs) x = ap (λ ys. a ∷ ys) (on_last_push f (b ∷ xs) x)

-- an extra after the endpoints of a setting, or after a setting without
pub alt_extended_none : (d : List ℕ) (a : Alt) → a.ends ≡ [] → alt_extended d a ≡ record a { extras = a.extras ++ d }
alt_extended_none d a e = ap (extended_alt d a) e

pushed_ends : (d : List ℕ) (a : Alt) (ends : List End) (e : End) → extended_alt d a (ends ++ e ∷ []) ≡ record a { ends = ends ++ end_extended d e ∷ [] }
pushed_ends d a [] e = refl
pushed_ends d a (x ∷ ends) e = ap (λ (es : List End). record a { ends = es }) (on_last_push (end_extended d) (x ∷ ends) e)

pub alt_extended_push : (d : List ℕ) (a : Alt) (ends : List End) (e : End) → a.ends ≡ ends ++ e ∷ []
    → alt_extended d a ≡ record a { ends = ends ++ end_extended d e ∷ [] }
alt_extended_push d a ends e h = ap (extended_alt d a) h ∙ pushed_ends d a ends e

-- the same of the settings of a configuration
pub extended_none : (d : List ℕ) (c : ConfigTree) → c.alts ≡ [] → extended d c ≡ record c { extras = c.extras ++ d }
extended_none d c e = ap (extended_tree d c) e

pushed_alts : (d : List ℕ) (c : ConfigTree) (alts : List Alt) (a : Alt) → extended_tree d c (alts ++ a ∷ []) ≡ record c { alts = alts ++ alt_extended d a ∷ [] }
pushed_alts d c [] a = refl
pushed_alts d c (x ∷ alts) a = ap (λ (as' : List Alt). record c { alts = as' }) (on_last_push (alt_extended d) (x ∷ alts) a)

pub extended_push : (d : List ℕ) (c : ConfigTree) (alts : List Alt) (a : Alt) → c.alts ≡ alts ++ a ∷ []
    → extended d c ≡ record c { alts = alts ++ alt_extended d a ∷ [] }
extended_push d c alts a h = ap (extended_tree d c) h ∙ pushed_alts d c alts a
