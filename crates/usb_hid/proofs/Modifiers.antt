-- One bit more of the modifiers.
use Rattle.std.proofs.Common.{◌≡◌, ℕ, ◌+◌, ◌<◌, Bool, true, false, not, cond, List, [], ◌∷◌, ◌++◌, take, map, refl, sym, ap, ◌∙◌, append_assoc, zero-add}
use Rattle.std.specs.Prelude.{◌==◌, filter}
use Rattle.std.specs.Int.{bit_at}
use Rattle.std.proofs.lemmas.List.{take_more, map-append}
use Rattle.std.proofs.lemmas.List.Elements.{filter-append}
use Rattle.std.proofs.lemmas.List.FromFn.{get_or-range_with_len}
use Rattle.usb_hid.specs.declared.event.Event.{Event}
use Rattle.usb_hid.specs.Reports.{modifier_bits, modifier_key, is_set}
use Rattle.usb_hid.specs.Changes.{turned, modifier_changes}

-- what the bits below n say
unfoldable pub changes_below : ℕ → ℕ → ℕ → List Event
changes_below n old new = map (λ b. turned (is_set new b) (modifier_key b)) (filter (λ b. not (bit_at old b == bit_at new b)) (take n modifier_bits))

pub changes_below-none : (old new : ℕ) → changes_below 0 old new ≡ []
unfolding changes_below
changes_below-none old new = refl

pub changes_below-all : (old new : ℕ) → changes_below 8 old new ≡ modifier_changes old new
unfolding changes_below
changes_below-all old new = refl

pub changes_below-more : (n old new : ℕ) → n < 8
    → changes_below (n + 1) old new ≡ changes_below n old new ++ cond (not (bit_at old n == bit_at new n)) (turned (is_set new n) (modifier_key n) ∷ []) []
unfolding changes_below
changes_below-more n old new l =
    ap (λ (xs : List ℕ). map told (filter differs xs)) (take_more modifier_bits n 0 l ∙ ap (λ (b : ℕ). take n modifier_bits ++ b ∷ []) (get_or-range_with_len 0 8 n 0 l ∙ zero-add n))
    ∙ ap (map told) (filter-append differs (take n modifier_bits) (n ∷ []))
    ∙ map-append told (filter differs (take n modifier_bits)) (filter differs (n ∷ []))
    ∙ ap (λ (xs : List Event). map told (filter differs (take n modifier_bits)) ++ xs) (go (differs n))
  where
    told : ℕ → Event
    told b = turned (is_set new b) (modifier_key b)

    differs : ℕ → Bool
    differs b = not (bit_at old b == bit_at new b)

    go : (d : Bool) → map told (cond d (n ∷ []) []) ≡ cond d (told n ∷ []) []
    go true = refl
    go false = refl

pub modifiers_told : (n old new : ℕ) (first before now : List Event) (differs : Bool) (event : Event) → n < 8
    → before ≡ first ++ changes_below n old new → differs ≡ not (bit_at old n == bit_at new n) → event ≡ turned (is_set new n) (modifier_key n)
    → now ≡ before ++ cond differs (event ∷ []) [] → now ≡ first ++ changes_below (n + 1) old new
modifiers_told n old new first before now differs event l b d e h =
    h
    ∙ ap (λ (xs : List Event). xs ++ cond differs (event ∷ []) []) b
    ∙ ap (λ (x : Bool). (first ++ changes_below n old new) ++ cond x (event ∷ []) []) d
    ∙ ap (λ (x : Event). (first ++ changes_below n old new) ++ cond (not (bit_at old n == bit_at new n)) (x ∷ []) []) e
    ∙ append_assoc first (changes_below n old new) _
    ∙ ap (λ (xs : List Event). first ++ xs) (sym (changes_below-more n old new l))
