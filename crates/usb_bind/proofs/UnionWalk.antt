-- The walk over descriptors in search of a union.
use Rattle.std.proofs.Common.{◌≡◌, ℕ, ◌+◌, ◌-◌, ◌<◌, ◌≤◌, max, Bool, true, false, cond, List, [], ◌∷◌, ◌++◌, length, drop, get_or, Option, Some, zero, suc, refl, sym, add-one, ap, ◌∙◌, length-append, arith}
use Rattle.std.proofs.Math.ListN.{drop_of_length-le}
use Rattle.std.specs.Prelude.{◌&&◌, nat_le, find, option_map}
use Rattle.std.specs.List.{concat, AllByRecursion}
use Rattle.std.specs.Option.{option_or}
use Rattle.std.proofs.lemmas.Bool.{and_parts, leb-true, le-leb}
use Rattle.std.proofs.lemmas.List.{get_or_append_left}
use Rattle.usb_desc.specs.Good.{IsExtra}
use Rattle.std.proofs.Math.Seq.{drop-cons}
use Rattle.usb_desc.specs.declared.tree.End.{End}
use Rattle.usb_bind.specs.Needs.{is_union, union_in, union_in_ends}

pub drop_all : (n : ℕ) (d : List ℕ) → length d ≤ n → [] ≡ drop n d
drop_all n d h = sym (drop_of_length-le d h)

skipped : (n : ℕ) (bytes : List ℕ) → union_in n bytes ≡ union_in 0 (drop n bytes)
skipped zero bytes = refl
skipped (suc n) [] = refl
skipped (suc n) (b ∷ bytes) = skipped n bytes

longest : (b : ℕ) → max b 1 ≡ suc (b - 1)
longest b = omega arith

-- a descriptor that is no union is passed over
pub union_after : (d rest : List ℕ) → 0 < length d → is_union d ≡ false → rest ≡ drop (max (get_or d 0 0) 1) d → union_in 0 d ≡ union_in 0 rest
union_after [] rest h plain is = absurd (omega arith)
union_after (b ∷ bytes) rest h plain is = rw plain (skipped (b - 1) bytes ∙ ap (λ n. union_in 0 (drop n (b ∷ bytes))) (sym (longest b)) ∙ ap (union_in 0) (sym is))

pub union_here : (d : List ℕ) → 0 < length d → is_union d ≡ true → union_in 0 d ≡ Some (get_or d 4 0)
union_here [] h here = absurd (omega arith)
union_here (b ∷ bytes) h here = rw here refl

-- the ends from i on
pub ends_next : (ends : List End) (i : ℕ) (d : End) → i < length ends
    → union_in_ends (drop i ends) ≡ option_or (union_in 0 (get_or ends i d).extras) (union_in_ends (drop (i + 1) ends))
ends_next ends i d h = rw (add-one, drop-cons ends i d h) refl

-- where extras are whole descriptors, the walk finds the first union among them
skip_whole : (d rest : List ℕ) → union_in (length d) (d ++ rest) ≡ union_in 0 rest
skip_whole [] rest = refl
skip_whole (b ∷ d) rest = skip_whole d rest

no_union : (a c e : Bool) → (a && false && c && e) ≡ false
no_union true c e = refl
no_union false c e = refl

same_at : (d rest : List ℕ) (i : ℕ) → i < length d → get_or (d ++ rest) i 0 ≡ get_or d i 0
same_at d rest i h = get_or_append_left d rest 0 i h

head_by : (d rest : List ℕ) (t : Bool) → nat_le 5 (length d) ≡ t → 0 < length d → get_or d 0 0 ≡ length d → is_union (d ++ rest) ≡ is_union d
head_by d rest true e more whole =
    let long : 5 ≤ length d = leb-true 5 (length d) e in
    let longer : nat_le 5 (length (d ++ rest)) ≡ true = le-leb 5 (length (d ++ rest)) (omega (arith, length-append d rest)) in
    rw (longer, e, same_at d rest 0 more, same_at d rest 1 (omega arith), same_at d rest 2 (omega arith)) refl
head_by d rest false e more whole =
    let low : nat_le 5 (get_or d 0 0) ≡ false = ap (nat_le 5) whole ∙ e in
    let low_on : nat_le 5 (get_or (d ++ rest) 0 0) ≡ false = ap (nat_le 5) (same_at d rest 0 more) ∙ low in
    rw low_on (rw low (no_union (nat_le 5 (length (d ++ rest))) _ _ ∙ sym (no_union (nat_le 5 (length d)) _ _)))

long_union : (a b c e : Bool) → (a && b && c && e) ≡ true → a ≡ true
long_union a b c e h = (and_parts a b (and_parts (a && b) c (and_parts (a && b && c) e h).0).0).0

piece_by : (d rest : List ℕ) (t : Bool) (others : Option ℕ) → is_union d ≡ t → 0 < length d → get_or d 0 0 ≡ length d → union_in 0 rest ≡ others
    → union_in 0 (d ++ rest) ≡ cond t (Some (get_or d 4 0)) others
piece_by [] rest t others e more whole behind = absurd (omega arith)
piece_by (b ∷ ds) rest true others e more whole behind =
    let d = b ∷ ds in
    let here : is_union (d ++ rest) ≡ true = head_by d rest (nat_le 5 (length d)) refl more whole ∙ e in
    let long : 5 ≤ length d = leb-true 5 (length d) (long_union _ _ _ _ e) in
    rw here (ap Some (same_at d rest 4 (omega arith)))
piece_by (b ∷ ds) rest false others e more whole behind =
    let d = b ∷ ds in
    let other : is_union (d ++ rest) ≡ false = head_by d rest (nat_le 5 (length d)) refl more whole ∙ e in
    let left : b - 1 ≡ length ds = omega (arith, whole) in
    rw other (ap (λ n. union_in n (ds ++ rest)) left ∙ skip_whole ds rest ∙ behind)

first_by : (d : List ℕ) (found : Option (List ℕ)) (t : Bool)
    → cond t (Some (get_or d 4 0)) (option_map (λ d. get_or d 4 0) found) ≡ option_map (λ d. get_or d 4 0) (cond t (Some d) found)
first_by d found true = refl
first_by d found false = refl

pub first_union : (pieces : List (List ℕ)) → AllByRecursion IsExtra pieces → union_in 0 (concat pieces) ≡ option_map (λ d. get_or d 4 0) (find is_union pieces)
first_union [] all = refl
first_union (d ∷ pieces) all =
    piece_by d (concat pieces) (is_union d) (option_map (λ d. get_or d 4 0) (find is_union pieces)) refl (omega (arith, all.0.header)) all.0.whole (first_union pieces all.1)
    ∙ first_by d (find is_union pieces) (is_union d)
