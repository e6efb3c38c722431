-- The walk over endpoints.
use Rattle.std.proofs.Common.{suc, ◌≡◌, ℕ, ◌+◌, ◌<◌, Bool, true, false, cond, List, [], ◌∷◌, ◌++◌, length, get_or, take, drop, map, Some, None, refl, sym, ap, ◌∙◌, arith, length-append, append_assoc}
use Rattle.std.specs.Prelude.{◌||◌, ◌==◌, fold, position, nat_lt}
use Rattle.std.specs.List.{position_or_len}
use Rattle.std.proofs.Math.Seq.{drop-cons}
use Rattle.std.proofs.lemmas.List.{append-nil, take-append-drop, get_or_append_left}
use Rattle.std.proofs.lemmas.List.Sums.{fold_more, fold-append, position_or_len_is}
use Rattle.std.proofs.lemmas.List.Quantifiers.{position-Some}
use Rattle.std.proofs.lemmas.Grind.{flat_map-append}
use Rattle.std.proofs.lemmas.Bool.{eq-eqb, lt-ltb, le-ltb}
use Rattle.usb_desc.specs.declared.tree.Alt.{Alt}
use Rattle.usb_desc.specs.declared.tree.End.{End}
use Rattle.usb_desc.specs.Growth.{has_end}
use Rattle.std.proofs.lemmas.List.{map-append}
use Rattle.usb_machine.specs.declared.layout.Shape.{Shape}
use Rattle.usb_bind.specs.Interfaces.{shape_of_end, opens, with_interface, joins, joined, ends_of}
use Rattle.usb_bind.specs.Seen.{ends_from}
use Rattle.usb_bind.proofs.Meets.{end_more}

none : End
none = record { address = 0; attributes = 0; max_packet = 0; interval = 0; tail = []; extras = [] }

abbrev pub at_address : ℕ → End → Bool
at_address address e = e.address == address

-- an endpoint of another address joins, or none
still_lacks_by : (ends : List End) (e : End) (address : ℕ) (t : Bool) → has_end ends address ≡ false
    → (t ≡ true → (e.address == address) ≡ false) → has_end (cond t (ends ++ e ∷ []) ends) address ≡ false
still_lacks_by ends e address true h other = end_more ends e address ∙ rw (h, other refl) refl
still_lacks_by ends e address false h other = h

pub still_lacks : (ends : List End) (e : End) (address : ℕ) → has_end ends address ≡ false
    → (joins ends e ≡ true → (e.address == address) ≡ false) → has_end (joined ends e) address ≡ false
still_lacks ends e address h other = still_lacks_by ends e address (joins ends e) h other

-- endpoints that join only come after the others
abbrev joined_rest : (ends : List End) (e : End) (t : Bool) → List End → List End
joined_rest ends e true rest = e ∷ rest
joined_rest ends e false rest = rest

joined_is : (ends rest : List End) (e : End) (t : Bool) → cond t (ends ++ e ∷ []) ends ++ rest ≡ ends ++ joined_rest ends e t rest
joined_is ends rest e true = append_assoc ends (e ∷ []) rest
joined_is ends rest e false = refl

abbrev rest_of : List End → List End → List End
rest_of ends [] = []
rest_of ends (e ∷ more) = joined_rest ends e (joins ends e) (rest_of (joined ends e) more)

pub joined_after : (ends more : List End) → fold joined ends more ≡ ends ++ rest_of ends more
joined_after ends [] = sym (append-nil ends)
joined_after ends (e ∷ more) = joined_after (joined ends e) more ∙ joined_is ends (rest_of (joined ends e) more) e (joins ends e)

or_false : (a b : Bool) → (a || b) ≡ false → (a ≡ false) × (b ≡ false)
or_false true b h = cc
or_false false b h = (refl, h)

-- the first endpoint with an address keeps its place
place_at : (ends rest : List End) (e : End) (address : ℕ) → has_end ends address ≡ false → (e.address == address) ≡ true
    → position_or_len (at_address address) ((ends ++ e ∷ []) ++ rest) ≡ length ends
place_at [] rest e address h here = rw here refl
place_at (f ∷ ends) rest e address h here =
    let parts = or_false (f.address == address) (has_end ends address) h in
    rw (parts.0, place_at ends rest e address parts.1 here) (omega arith)

place_kept : (ends rest : List End) (e : End) (address : ℕ) → has_end ends address ≡ false → (e.address == address) ≡ true
    → position (at_address address) ((ends ++ e ∷ []) ++ rest) ≡ Some (length ends)
place_kept ends rest e address h here =
    let all = (ends ++ e ∷ []) ++ rest in
    let long : length all ≡ length ends + 1 + length rest = omega (arith, length-append (ends ++ e ∷ []) rest, length-append ends (e ∷ [])) in
    let is : position_or_len (at_address address) all ≡ length ends = place_at ends rest e address h here in
    rw (is, lt-ltb (length ends) (length all) (omega arith)) refl

-- an address's place is that of the first endpoint that has it and joins
pub placed_first : (before ends : List End) (i : ℕ) (d : End) (address : ℕ) → i < length ends
    → has_end (fold joined before (take i ends)) address ≡ false → joins (fold joined before (take i ends)) (get_or ends i d) ≡ true
    → (get_or ends i d).address ≡ address
    → position (at_address address) (fold joined before ends) ≡ Some (length (fold joined before (take i ends)))
placed_first before ends i d address h lacks new here =
    let so_far = fold joined before (take i ends) in
    let e = get_or ends i d in
    let cut : ends ≡ take i ends ++ (e ∷ drop (suc i) ends) = sym (ap (λ t. take i ends ++ t) (sym (drop-cons ends i d h)) ∙ take-append-drop i ends) in
    let whole : fold joined before ends ≡ fold joined (joined so_far e) (drop (suc i) ends) =
    ap (fold joined before) cut ∙ fold-append joined before (take i ends) (e ∷ drop (suc i) ends) in
    let added : joined so_far e ≡ so_far ++ e ∷ [] = rw new refl in
    let split : fold joined before ends ≡ (so_far ++ e ∷ []) ++ rest_of (so_far ++ e ∷ []) (drop (suc i) ends) =
    whole ∙ ap (λ t. fold joined t (drop (suc i) ends)) added ∙ joined_after (so_far ++ e ∷ []) (drop (suc i) ends) in
    ap (position (at_address address)) split ∙ place_kept so_far (rest_of (so_far ++ e ∷ []) (drop (suc i) ends)) e address lacks (eq-eqb e.address address here)

-- a place stays when more endpoints join
place_stays_by : (ends rest : List End) (address place : ℕ) → position (at_address address) ends ≡ Some place
    → position (at_address address) (ends ++ rest) ≡ Some place
place_stays_by ends rest address place h =
    let p = at_address address in
    let first = position-Some p ends place none h in
    let len : length (ends ++ rest) ≡ length ends + length rest = length-append ends rest in
    let is : position_or_len p (ends ++ rest) ≡ place =
    position_or_len_is p (ends ++ rest) place none (omega (arith, first.0))
    (λ k below. ap p (get_or_append_left ends rest none k (omega (arith, first.0))) ∙ first.2 k below)
    (λ _. ap p (get_or_append_left ends rest none place first.0) ∙ first.1) in
    rw (is, lt-ltb place (length (ends ++ rest)) (omega (arith, first.0))) refl

pub place_stays : (ends more : List End) (address place : ℕ) → position (at_address address) ends ≡ Some place
    → position (at_address address) (fold joined ends more) ≡ Some place
place_stays ends more address place h =
    ap (position (at_address address)) (joined_after ends more) ∙ place_stays_by ends (rest_of ends more) address place h

opened_is : (alts : List Alt) (a : Alt) → opens alts a ≡ true → with_interface alts a ≡ alts ++ a ∷ []
opened_is alts a new = rw new refl

-- shapes with that of an endpoint that joins
pub shape_pushed : (device : ℕ) (before shapes : List Shape) (ends : List End) (e : End) → joins ends e ≡ true
    → shapes ≡ before ++ map (shape_of_end device) ends
    → shapes ++ shape_of_end device e ∷ [] ≡ before ++ map (shape_of_end device) (joined ends e)
shape_pushed device before shapes ends e new is =
    rw (new, is, map-append (shape_of_end device) ends (e ∷ []), append_assoc before (map (shape_of_end device) ends) (shape_of_end device e ∷ [])) refl

-- the endpoints with those of an interface more
pub ends_opened : (alts : List Alt) (a : Alt) → opens alts a ≡ true → ends_from (with_interface alts a) ≡ fold joined (ends_from alts) a.ends
ends_opened alts a new =
    ap ends_from (opened_is alts a new)
    ∙ ap (fold joined []) (flat_map-append (λ (b : Alt). b.ends) alts (a ∷ []) ∙ ap (λ t. ends_of alts ++ t) (append-nil a.ends))
    ∙ fold-append joined [] (ends_of alts) a.ends

-- interfaces that open only come after the others
abbrev opened_rest : List Alt → Alt → Bool → List Alt → List Alt
opened_rest alts a true rest = a ∷ rest
opened_rest alts a false rest = rest

opened_split : (alts rest : List Alt) (a : Alt) (t : Bool) → cond t (alts ++ a ∷ []) alts ++ rest ≡ alts ++ opened_rest alts a t rest
opened_split alts rest a true = append_assoc alts (a ∷ []) rest
opened_split alts rest a false = refl

abbrev alts_after : List Alt → List Alt → List Alt
alts_after alts [] = []
alts_after alts (a ∷ more) = opened_rest alts a (opens alts a) (alts_after (with_interface alts a) more)

interfaces_after : (alts more : List Alt) → fold with_interface alts more ≡ alts ++ alts_after alts more
interfaces_after alts [] = sym (append-nil alts)
interfaces_after alts (a ∷ more) =
    interfaces_after (with_interface alts a) more ∙ opened_split alts (alts_after (with_interface alts a) more) a (opens alts a)

-- a place stays when more interfaces open
pub place_kept_on : (alts more : List Alt) (address place : ℕ) → position (at_address address) (ends_from alts) ≡ Some place
    → position (at_address address) (ends_from (fold with_interface alts more)) ≡ Some place
place_kept_on alts more address place h =
    let rest = alts_after alts more in
    let joined_on : ends_from (fold with_interface alts more) ≡ fold joined (ends_from alts) (ends_of rest) =
    ap ends_from (interfaces_after alts more) ∙ ap (fold joined []) (flat_map-append (λ (b : Alt). b.ends) alts rest) ∙ fold-append joined [] (ends_of alts) (ends_of rest) in
    ap (position (at_address address)) joined_on ∙ place_stays (ends_from alts) (ends_of rest) address place h

-- an address that no endpoint has, has no place
place_past : (ends : List End) (address : ℕ) → has_end ends address ≡ false → position_or_len (at_address address) ends ≡ length ends
place_past [] address h = refl
place_past (e ∷ ends) address h =
    let parts = or_false (e.address == address) (has_end ends address) h in
    rw (parts.0, place_past ends address parts.1) (omega arith)

pub no_place : (ends : List End) (address : ℕ) → has_end ends address ≡ false → None ≡ position (at_address address) ends
no_place ends address h =
    let is = place_past ends address h in
    let past : nat_lt (length ends) (length ends) ≡ false = le-ltb (length ends) (length ends) (omega arith) in
    sym (rw (is, past) refl)

-- one step of a fold, at the item itself
pub fold_item : {X Y : Type 0} (f : Y → X → Y) (a : Y) (xs : List X) (i : ℕ) (x : X) → i < length xs → x ≡ get_or xs i x
    → f (fold f a (take i xs)) x ≡ fold f a (take (i + 1) xs)
fold_item f a xs i x h is = ap (f (fold f a (take i xs))) is ∙ sym (fold_more f a xs i x h)
