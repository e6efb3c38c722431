-- A descriptor that is added comes after all others.
use Rattle.std.proofs.Common.{◌≡◌, ℕ, ◌+◌, ◌<◌, ◌≤◌, Bool, true, false, List, [], ◌∷◌, ◌++◌, length, get_or, sym, ap, subst, ◌∙◌, append_assoc, arith}
use Rattle.std.specs.List.{AllByRecursion, flat_map}
use Rattle.std.proofs.lemmas.List.{append-nil}
use Rattle.std.proofs.lemmas.List.Concat.{flat_map-append}
use Rattle.usb_desc.specs.declared.tree.ConfigTree.{ConfigTree}
use Rattle.usb_desc.specs.declared.tree.Alt.{Alt}
use Rattle.usb_desc.specs.declared.tree.End.{End}
use Rattle.usb_desc.specs.Cut.{standard_length}
use Rattle.usb_desc.specs.Spell.{low, high, end_bytes, alt_bytes, written}
use Rattle.usb_desc.specs.Good.{IsByte}
use Rattle.usb_desc.specs.Growth.{kind_of, on_last, end_of, alt_of, with_end, end_extended, extended_alt, alt_extended, extended_tree, extended}
use Rattle.usb_desc.proofs.Words.{low_word, high_word}

abbrev pub is_empty : {X : Type 0} → List X → Bool
is_empty [] = true
is_empty (x ∷ xs) = false

-- a whole descriptor
pub record IsWhole (d : List ℕ) : Type 0 where
  pub header : 2 ≤ length d
  pub said : get_or d 0 0 ≡ length d
  pub long : standard_length (kind_of d) ≤ length d
  pub bytes : AllByRecursion IsByte d

pub long_as : (d : List ℕ) → IsWhole d → (k : ℕ) → kind_of d ≡ k → standard_length k ≤ length d
long_as d w k kind = subst (λ (j : ℕ). standard_length j ≤ length d) kind w.long

end_is_at : (d : List ℕ) → IsWhole d → kind_of d ≡ 5 → 7 ≤ length d → end_bytes (end_of d) ≡ d
end_is_at (n ∷ k ∷ a ∷ b ∷ e ∷ f ∷ i ∷ tail) w kind long =
    let fe : e < 256 = w.bytes.1.1.1.1.0 in
    let said : n ≡ 7 + length tail = omega (arith, w.said) in
    rw (low_word e f fe, high_word e f fe, append-nil tail)
    (ap (λ (x : ℕ). x ∷ 5 ∷ a ∷ b ∷ e ∷ f ∷ i ∷ tail) (sym said) ∙ ap (λ (x : ℕ). n ∷ x ∷ a ∷ b ∷ e ∷ f ∷ i ∷ tail) (sym kind))
end_is_at _ w kind long = absurd (omega arith)

pub end_is : (d : List ℕ) → IsWhole d → kind_of d ≡ 5 → end_bytes (end_of d) ≡ d
end_is d w kind = end_is_at d w kind (long_as d w 5 kind)

alt_is_at : (d : List ℕ) → IsWhole d → kind_of d ≡ 4 → 9 ≤ length d → alt_bytes (alt_of d) ≡ d
alt_is_at (n ∷ k ∷ a ∷ b ∷ e ∷ f ∷ g ∷ h ∷ i ∷ tail) w kind long =
    let said : n ≡ 9 + length tail = omega (arith, w.said) in
    rw (append-nil (tail ++ []), append-nil tail)
    (ap (λ (x : ℕ). x ∷ 4 ∷ a ∷ b ∷ e ∷ f ∷ g ∷ h ∷ i ∷ tail) (sym said) ∙ ap (λ (x : ℕ). n ∷ x ∷ a ∷ b ∷ e ∷ f ∷ g ∷ h ∷ i ∷ tail) (sym kind))
alt_is_at _ w kind long = absurd (omega arith)

pub alt_is : (d : List ℕ) → IsWhole d → kind_of d ≡ 4 → alt_bytes (alt_of d) ≡ d
alt_is d w kind = alt_is_at d w kind (long_as d w 4 kind)

-- a change of the last item that puts d after what it makes puts d after all
pub grown_last : {X : Type 0} (g : X → List ℕ) (f : X → X) (d : List ℕ) → ((x : X) → g (f x) ≡ g x ++ d) → (x : X) (xs : List X)
    → flat_map g (on_last f (x ∷ xs)) ≡ flat_map g (x ∷ xs) ++ d
grown_last g f d more x [] = append-nil (g (f x)) ∙ more x ∙ ap (λ (ys : List ℕ). ys ++ d) (sym (append-nil (g x)))
grown_last g f d more x (y ∷ xs) = ap (λ (ys : List ℕ). g x ++ ys) (grown_last g f d more y xs) ∙ sym (append_assoc (g x) (flat_map g (y ∷ xs)) d)

pub end_more : (d : List ℕ) (e : End) → end_bytes (end_extended d e) ≡ end_bytes e ++ d
end_more d e =
    ap (λ (ys : List ℕ). (7 + length e.tail) ∷ 5 ∷ e.address ∷ e.attributes ∷ low e.max_packet ∷ high e.max_packet ∷ e.interval ∷ ys)
    (sym (append_assoc e.tail e.extras d))

-- the first nine bytes of a setting
abbrev alt_head : Alt → List ℕ → List ℕ
alt_head a ys = (9 + length a.tail) ∷ 4 ∷ a.number ∷ a.setting ∷ a.said ∷ a.class ∷ a.subclass ∷ a.protocol ∷ a.text ∷ ys

alt_more_at : (d : List ℕ) (a : Alt) (ends : List End) → alt_bytes (extended_alt d (record a { ends = ends }) ends) ≡ alt_bytes (record a { ends = ends }) ++ d
alt_more_at d a [] =
    ap (alt_head a) (append-nil (a.tail ++ (a.extras ++ d)) ∙ sym (append_assoc a.tail a.extras d) ∙ ap (λ (ys : List ℕ). ys ++ d) (sym (append-nil (a.tail ++ a.extras))))
alt_more_at d a (e ∷ ends) =
    ap (alt_head a) (ap (λ (ys : List ℕ). (a.tail ++ a.extras) ++ ys) (grown_last end_bytes (end_extended d) d (end_more d) e ends)
    ∙ sym (append_assoc (a.tail ++ a.extras) (flat_map end_bytes (e ∷ ends)) d))

pub alt_more : (d : List ℕ) (a : Alt) → alt_bytes (alt_extended d a) ≡ alt_bytes a ++ d
alt_more d a = alt_more_at d a a.ends

-- the first nine bytes of a configuration
abbrev tree_head : ℕ → ConfigTree → List ℕ → List ℕ
tree_head n c ys = (9 + length c.tail) ∷ 2 ∷ low n ∷ high n ∷ c.said ∷ c.value ∷ c.text ∷ c.attributes ∷ c.power ∷ ys

tree_more_at : (n : ℕ) (d : List ℕ) (c : ConfigTree) (alts : List Alt) → written n (extended_tree d (record c { alts = alts }) alts) ≡ written n (record c { alts = alts }) ++ d
tree_more_at n d c [] =
    ap (tree_head n c) (ap (λ (ys : List ℕ). c.tail ++ ys) (append-nil (c.extras ++ d)) ∙ sym (append_assoc c.tail c.extras d)
    ∙ ap (λ (ys : List ℕ). (c.tail ++ ys) ++ d) (sym (append-nil c.extras)))
tree_more_at n d c (a ∷ alts) =
    ap (tree_head n c) (ap (λ (ys : List ℕ). c.tail ++ (c.extras ++ ys)) (grown_last alt_bytes (alt_extended d) d (alt_more d) a alts)
    ∙ ap (λ (ys : List ℕ). c.tail ++ ys) (sym (append_assoc c.extras (flat_map alt_bytes (a ∷ alts)) d))
    ∙ sym (append_assoc c.tail (c.extras ++ flat_map alt_bytes (a ∷ alts)) d))

pub tree_more : (n : ℕ) (d : List ℕ) (c : ConfigTree) → written n (extended d c) ≡ written n c ++ d
tree_more n d c = tree_more_at n d c c.alts

-- a setting after the others
pub alt_added : (n : ℕ) (c : ConfigTree) (a : Alt) → written n (record c { alts = c.alts ++ a ∷ [] }) ≡ written n c ++ alt_bytes a
alt_added n c a =
    ap (tree_head n c) (ap (λ (ys : List ℕ). c.tail ++ (c.extras ++ ys)) (flat_map-append alt_bytes c.alts (a ∷ []) ∙ ap (λ (ys : List ℕ). flat_map alt_bytes c.alts ++ ys) (append-nil (alt_bytes a)))
    ∙ ap (λ (ys : List ℕ). c.tail ++ ys) (sym (append_assoc c.extras (flat_map alt_bytes c.alts) (alt_bytes a)))
    ∙ sym (append_assoc c.tail (c.extras ++ flat_map alt_bytes c.alts) (alt_bytes a)))

-- an endpoint after the others of its setting
pub end_added : (e : End) (a : Alt) → alt_bytes (with_end e a) ≡ alt_bytes a ++ end_bytes e
end_added e a =
    ap (alt_head a) (ap (λ (ys : List ℕ). (a.tail ++ a.extras) ++ ys) (flat_map-append end_bytes a.ends (e ∷ []) ∙ ap (λ (ys : List ℕ). flat_map end_bytes a.ends ++ ys) (append-nil (end_bytes e)))
    ∙ sym (append_assoc (a.tail ++ a.extras) (flat_map end_bytes a.ends) (end_bytes e)))

end_last_at : (n : ℕ) (e : End) (c : ConfigTree) (a : Alt) (alts : List Alt) → written n (record c { alts = on_last (with_end e) (a ∷ alts) }) ≡ written n (record c { alts = a ∷ alts }) ++ end_bytes e
end_last_at n e c a alts =
    ap (tree_head n c) (ap (λ (ys : List ℕ). c.tail ++ (c.extras ++ ys)) (grown_last alt_bytes (with_end e) (end_bytes e) (end_added e) a alts)
    ∙ ap (λ (ys : List ℕ). c.tail ++ ys) (sym (append_assoc c.extras (flat_map alt_bytes (a ∷ alts)) (end_bytes e)))
    ∙ sym (append_assoc c.tail (c.extras ++ flat_map alt_bytes (a ∷ alts)) (end_bytes e)))

end_last_in : (n : ℕ) (e : End) (c : ConfigTree) (alts : List Alt) → is_empty alts ≡ false → written n (record c { alts = on_last (with_end e) alts }) ≡ written n (record c { alts = alts }) ++ end_bytes e
end_last_in n e c [] h = cc
end_last_in n e c (a ∷ alts) h = end_last_at n e c a alts

pub end_last : (n : ℕ) (e : End) (c : ConfigTree) → is_empty c.alts ≡ false → written n (record c { alts = on_last (with_end e) c.alts }) ≡ written n c ++ end_bytes e
end_last n e c h = end_last_in n e c c.alts h
