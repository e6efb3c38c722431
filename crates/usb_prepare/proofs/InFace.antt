-- The interfaces of a configuration have numbers of their own, and each is found by its number.
use Rattle.std.proofs.Common.{ℕ, zero, suc, ◌≡◌, ◌≢◌, ◌+◌, ◌<◌, ⊎_elim, Bool, true, false, not, ◌&&◌, cond, eqb, Some, List, [], ◌∷◌, ◌++◌, length, take, get_or, map, min, refl, sym, ap, ◌∙◌, arith, eq-eqb, ne_eqb}
use Rattle.std.specs.Prelude.{slice_get, find, option_map}
use Rattle.std.proofs.lemmas.List.{take_more, length-map, length-take}
use Rattle.std.proofs.lemmas.Option.{slice_get-get_or, slice_get-map, get_or_from_slice_get}
use Rattle.usb_desc.specs.declared.tree.Alt.{Alt}
use Rattle.usb_desc.specs.declared.tree.ConfigTree.{ConfigTree}
use Rattle.usb_bind.specs.Interfaces.{has_number, with_interface, interfaces_of, interface_at}
use Rattle.usb_bind.specs.Board.{BoardValue}
use Rattle.usb_bind.proofs.ByNumber.{by_number}
use Rattle.usb_prepare.specs.declared.found.Probe.{Probe}
use Rattle.usb_prepare.specs.declared.found.InterfaceFound.{InterfaceFound}
use Rattle.usb_prepare.specs.Prepared.{face_of, faces_of}
use Rattle.usb_prepare.proofs.Lists.{in_longer, none_passes, fold_keeps}

-- no two have one number
AreNumbered : List Alt → Type 0
AreNumbered alts = (i j : ℕ) (a b : Alt) → slice_get alts i ≡ Some a → slice_get alts j ≡ Some b → a.number ≡ b.number → i ≡ j

one_more : (alts : List Alt) (n : Alt) → AreNumbered alts → has_number alts n.number ≡ false → AreNumbered (alts ++ n ∷ [])
unfolding AreNumbered
one_more alts n is new i j a b at bt same = ⊎_elim
    (λ (l : slice_get alts i ≡ Some a). ⊎_elim
    (λ (k : slice_get alts j ≡ Some b). is i j a b l k same)
    (λ (r : (j ≡ length alts) × (b ≡ n)). absurd (off i a l (same ∙ ap (λ (x : Alt). x.number) r.1)))
    (in_longer alts n b j bt))
    (λ (r : (i ≡ length alts) × (a ≡ n)). ⊎_elim
    (λ (k : slice_get alts j ≡ Some b). absurd (off j b k (sym same ∙ ap (λ (x : Alt). x.number) r.1)))
    (λ (q : (j ≡ length alts) × (b ≡ n)). r.0 ∙ sym q.0)
    (in_longer alts n b j bt))
    (in_longer alts n a i at)
  where
    off : (i : ℕ) (x : Alt) → slice_get alts i ≡ Some x → x.number ≢ n.number
    off i x at same = none_passes (λ (y : Alt). eqb y.number n.number) alts new i x at (eq-eqb x.number n.number same)

opened : (alts : List Alt) (n : Alt) → AreNumbered alts → AreNumbered (with_interface alts n)
opened alts n is = go (eqb n.setting 0) (has_number alts n.number) refl
  where
    go : (a b : Bool) → has_number alts n.number ≡ b → AreNumbered (cond (a && not b) (alts ++ n ∷ []) alts)
    go true false e = one_more alts n is e
    go true true e = is
    go false true e = is
    go false false e = is

numbered : (c : ConfigTree) → AreNumbered (interfaces_of c)
unfolding AreNumbered
numbered c = fold_keeps AreNumbered with_interface opened [] c.alts (λ i j a b at bt same. cc)

-- the one at a place is found by its number
find_at : (alts : List Alt) (i : ℕ) (a : Alt) → AreNumbered alts → slice_get alts i ≡ Some a → find (λ (x : Alt). eqb x.number a.number) alts ≡ Some a
unfolding AreNumbered
find_at [] i a is at = cc
find_at (x ∷ alts) zero a is at = let same : x ≡ a = cc in ap (λ b. cond b (Some x) (find (λ (y : Alt). eqb y.number a.number) alts)) (eq-eqb x.number a.number (ap (λ (y : Alt). y.number) same)) ∙ ap Some same
find_at (x ∷ alts) (suc i) a is at =
    let off : x.number ≢ a.number = λ same. let e = is 0 (suc i) x a refl at same in absurd (omega arith) in
    ap (λ b. cond b (Some x) (find (λ (y : Alt). eqb y.number a.number) alts)) (ne_eqb x.number a.number off)
    ∙ find_at alts i a (λ j k b c p q e. let n = is (suc j) (suc k) b c p q e in omega arith) at

pub at_place : (c : ConfigTree) (i n : ℕ) (numbers : List ℕ) → numbers ≡ map (λ (a : Alt). a.number) (interfaces_of c) → i < length numbers
    → (a : Alt) × (slice_get (interfaces_of c) i ≡ Some a) × (interface_at c (get_or numbers i n) ≡ Some a)
at_place c i n numbers same near =
    let long = ap length same ∙ length-map (interfaces_of c) (λ (a : Alt). a.number) in
    let some : Alt = record { number = 0; setting = 0; said = 0; class = 0; subclass = 0; protocol = 0; text = 0; tail = []; extras = []; ends = [] } in
    let a = get_or (interfaces_of c) i some in
    let there = slice_get-get_or (interfaces_of c) i some (omega arith) in
    let is : get_or numbers i n ≡ a.number = ap (λ l. get_or l i n) same ∙ get_or_from_slice_get (map (λ (x : Alt). x.number) (interfaces_of c)) i a.number n (slice_get-map (λ (x : Alt). x.number) (interfaces_of c) i ∙ ap (option_map (λ (x : Alt). x.number)) there) in
    (a, there, ap (interface_at c) is ∙ (by_number c a.number ∙ find_at (interfaces_of c) i a (numbered c) there))

-- one interface more
face_snoc : (board : BoardValue) (d : ℕ) (alts : List Alt) (probes : List Probe) (a : Alt) (p : Probe) → length alts ≡ length probes → faces_of board d (alts ++ a ∷ []) (probes ++ p ∷ []) ≡ faces_of board d alts probes ++ face_of board d a p ∷ []
face_snoc board d [] [] a p e = refl
face_snoc board d [] (q ∷ probes) a p e = absurd (omega arith)
face_snoc board d (x ∷ alts) [] a p e = absurd (omega arith)
face_snoc board d (x ∷ alts) (q ∷ probes) a p e = ap (λ l. face_of board d x q ∷ l) (face_snoc board d alts probes a p (omega arith))

pub faces_longer : (board : BoardValue) (d i : ℕ) (alts : List Alt) (probes : List Probe) (a : Alt) (p : Probe) (face : InterfaceFound) (old new : List InterfaceFound) → length probes ≡ length alts → slice_get alts i ≡ Some a → i < length alts
    → p ≡ get_or probes i p → face ≡ face_of board d a p → old ≡ faces_of board d (take i alts) (take i probes) → new ≡ old ++ face ∷ [] → new ≡ faces_of board d (take (i + 1) alts) (take (i + 1) probes)
faces_longer board d i alts probes a p face old new same at near is made o n =
    let more : take (i + 1) alts ≡ take i alts ++ a ∷ [] = take_more alts i a near ∙ ap (λ x. take i alts ++ x ∷ []) (get_or_from_slice_get alts i a a at) in
    let others : take (i + 1) probes ≡ take i probes ++ p ∷ [] = take_more probes i p (omega arith) ∙ ap (λ x. take i probes ++ x ∷ []) (sym is) in
    let long : length (take i alts) ≡ length (take i probes) = length-take i alts ∙ (ap (min i) (sym same) ∙ sym (length-take i probes)) in
    n ∙ ((λ j. o j ++ made j ∷ []) ∙ (sym (face_snoc board d (take i alts) (take i probes) a p long) ∙ (λ j. faces_of board d (sym more j) (sym others j))))
