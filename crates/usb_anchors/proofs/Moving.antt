-- Passes in another order.
use Rattle.std.proofs.Common.{◌≡◌, ℕ, false, ◌++◌, ◌∷◌, [], List, Any, map, append_assoc, sym, ap, ◌∙◌, subst}
use Rattle.std.specs.List.Sorted.{IsPermutation}
use Rattle.std.proofs.lemmas.List.{map-append}
use Rattle.std.proofs.lemmas.List.Elements.{All-weaker}
use Rattle.std.proofs.lemmas.List.Sorted.{IsPermutation-to_front, IsPermutation-sym, IsPermutation-trans, IsPermutation-append_right, All-permutation, Contains-permutation}
use Rattle.usb_turn.specs.Pass.{Pass, AllOf, Closes}
use Rattle.usb_turn.specs.Rows.{Begins, part}
use Rattle.usb_anchor.specs.declared.log.LogRow.{LogRow}
use Rattle.usb_anchors.specs.declared.anchors.AnchorPass.{AnchorPass}
use Rattle.usb_anchors.specs.Opened.{turn_of}
use Rattle.atomic_table.specs.Seated.{TableId}

-- the last of one list comes to the end of the other
pub moved_on : {V R U : Type 0} (whole : List (Pass LogRow)) (passes ys : List (AnchorPass V R U)) (p : AnchorPass V R U) (room now : List (Pass LogRow)) → passes ≡ ys ++ p ∷ [] → now ≡ room ++ p.turn ∷ []
    → IsPermutation whole (map turn_of passes ++ room) → IsPermutation whole (map turn_of ys ++ now)
moved_on {V} {R} {U} whole passes ys p room now e f w =
    let t = p.turn in
    let apart : map turn_of passes ++ room ≡ map turn_of ys ++ (t ∷ room) = ap (λ xs. map turn_of xs ++ room) e ∙ (ap (λ xs. xs ++ room) (map-append turn_of ys (p ∷ [])) ∙ append_assoc (map turn_of ys) (t ∷ []) room) in
    let turned : IsPermutation (t ∷ room) (room ++ t ∷ []) = IsPermutation-sym (room ++ t ∷ []) (t ∷ room) (IsPermutation-to_front room t) in
    subst (λ xs. IsPermutation whole (map turn_of ys ++ xs)) (sym f)
    (IsPermutation-trans whole (map turn_of ys ++ (t ∷ room)) (map turn_of ys ++ (room ++ t ∷ [])) (subst (IsPermutation whole) apart w)
    (IsPermutation-append_right (map turn_of ys) (t ∷ room) (room ++ t ∷ []) turned))

any_moved : {X : Type 0} (P : X → Type 0) (xs ys : List X) → IsPermutation xs ys → Any P xs → Any P ys
any_moved {X} P xs ys p a = let c = Contains-permutation xs ys a.1 p (a.0, a.2, a.3) in (c.0, a.1, c.1, c.2, a.4)

pub all_moved : (t : TableId) (n : ℕ) (xs ys : List (Pass LogRow)) → IsPermutation xs ys → AllOf t n xs → AllOf t n ys
all_moved t n xs ys p a = record {
  each = All-permutation (λ (q : Pass LogRow). (q.table ≡ t) × (q.has ≡ false)) xs ys p a.each;
  all = λ k l. any_moved (λ (q : Pass LogRow). q.number ≡ k) xs ys p (a.all k l);
}

pub closes_moved : (by : LogRow → ℕ) (rows : List LogRow) (xs ys : List (Pass LogRow)) → IsPermutation xs ys → Closes by rows xs → Closes by rows ys
closes_moved by rows xs ys p c = record {
  begins = All-permutation (λ (q : Pass LogRow). Begins rows q.seen) xs ys p c.begins;
  own = All-permutation (λ (q : Pass LogRow). part by q.number rows ≡ q.mine) xs ys p c.own;
  made = All-weaker (λ (r : LogRow). Any (λ (q : Pass LogRow). q.number ≡ by r) xs) (λ (r : LogRow). Any (λ (q : Pass LogRow). q.number ≡ by r) ys) (λ r a. any_moved (λ (q : Pass LogRow). q.number ≡ by r) xs ys p a) rows c.made;
}

pub closes_same : (by : LogRow → ℕ) (rows all : List LogRow) (ps : List (Pass LogRow)) → all ≡ rows → Closes by rows ps → Closes by all ps
closes_same by rows all ps e c = subst (λ rs. Closes by rs ps) (sym e) c
