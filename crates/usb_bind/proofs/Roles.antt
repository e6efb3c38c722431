-- A binding has an URB for each role of its driver.
use Rattle.std.proofs.Common.{◌≡◌, ℕ, ◌+◌, ◌<◌, ◌≤◌, Bool, true, false, List, [], ◌∷◌, length, get_or, map, set, Option, Some, None, Ok, zero, suc, refl, sym, ap, ◌∙◌, arith}
use Rattle.std.specs.Prelude.{is_some, is_none, IsSome, option_map, option_and_then, count_by, slice_get, slice_index}
use Rattle.std.specs.Option.{option_map_or, option_flatten}
use Rattle.std.specs.List.{position_or_len, AllByRecursion}
use Rattle.std.proofs.lemmas.Bool.{lt-ltb}
use Rattle.std.proofs.lemmas.List.Sums.{sum_by-cons, sum_by-set}
use Rattle.std.proofs.lemmas.List.{length-map}
use Rattle.std.proofs.lemmas.List.Quantifiers.{position-Some}
use Rattle.usb_types.specs.declared.urb.UrbId.{UrbId}
use Rattle.usb_types.specs.declared.urb.Role.{Role}
use Rattle.usb_types.specs.declared.urb.Role.TheVariants.{In, Note, Read0, Read1, Write, Ctl}
use Rattle.usb_desc.specs.declared.tree.ConfigTree.{ConfigTree}
use Rattle.usb_desc.specs.declared.tree.Alt.{Alt}
use Rattle.usb_desc.specs.declared.tree.End.{End}
use Rattle.usb_bind.specs.declared.row.Driver.{Driver}
use Rattle.usb_bind.specs.declared.row.Driver.TheVariants.{Keyboard, Acm, Printer}
use Rattle.usb_bind.specs.declared.row.IdRow.{IdRow}
use Rattle.usb_bind.specs.declared.bound.Bound.{Bound}
use Rattle.usb_bind.specs.Interfaces.{place_of}
use Rattle.usb_bind.specs.Needs.{Need, need_at, need_for, all_of, needed, roles_of, end_for}
use Rattle.usb_bind.specs.Pool.{Homes, spare_in, least_in, is_spare, urb}
use Rattle.usb_bind.specs.Board.{BoardValue, urb_by, urb_of_role}
use Rattle.usb_bind.specs.Probe.{in_slots, home_of, all_next, probed}
use Rattle.usb_bind.proofs.Probing.{binds}
use Rattle.usb_bind.proofs.Spare.{one_if, spare_below}

-- ---- what is needed has the roles of the driver
at_role : (role : Role) (place : Option ℕ) (need : Need) → need_at role place ≡ Some need → need.role ≡ role
at_role role None need h = absurd cc
at_role role (Some p) need h =
    let made : Need = record { role = role; place = Some p } in
    let is : made ≡ need = cc in
    sym (ap (λ (n : Need). n.role) is)

abbrev pub place_for : Driver → ConfigTree → Alt → Role → Option ℕ
place_for driver config alt role = option_and_then (λ (e : End). place_of config e.address) (end_for driver config alt role)

need_role : (driver : Driver) (config : ConfigTree) (alt : Alt) (role : Role) (need : Need) → need_for driver config alt role ≡ Some need → need.role ≡ role
need_role driver config alt In need h = at_role In (place_for driver config alt In) need h
need_role driver config alt Note need h = at_role Note (place_for driver config alt Note) need h
need_role driver config alt Read0 need h = at_role Read0 (place_for driver config alt Read0) need h
need_role driver config alt Read1 need h = at_role Read1 (place_for driver config alt Read1) need h
need_role driver config alt Write need h = at_role Write (place_for driver config alt Write) need h
need_role driver config alt Ctl need h =
    let made : Need = record { role = Ctl; place = None } in
    let is : made ≡ need = cc in
    sym (ap (λ (n : Need). n.role) is)

pub all_split : (x : Option Need) (xs : Option (List Need)) (needs : List Need) → option_and_then (λ first. option_map (λ rest. first ∷ rest) xs) x ≡ Some needs
    → (first : Need) × (rest : List Need) × (x ≡ Some first) × (xs ≡ Some rest) × (needs ≡ first ∷ rest)
all_split None xs needs h = absurd cc
all_split (Some first) None needs h = absurd cc
all_split (Some first) (Some rest) needs h = (first, rest, refl, refl, cc)

roles_by : (driver : Driver) (config : ConfigTree) (alt : Alt) (roles : List Role) (needs : List Need) → all_of (map (need_for driver config alt) roles) ≡ Some needs
    → map (λ (n : Need). n.role) needs ≡ roles
roles_by driver config alt [] needs h = let is : needs ≡ [] = cc in ap (map (λ (n : Need). n.role)) is
roles_by driver config alt (role ∷ roles) needs h =
    let parts = all_split (need_for driver config alt role) (all_of (map (need_for driver config alt) roles)) needs h in
    let first = need_role driver config alt role parts.0 parts.2 in
    let rest = roles_by driver config alt roles parts.1 parts.3 in
    ap (map (λ (n : Need). n.role)) parts.4 ∙ cc (first, rest)

pub needs_by_role : (driver : Driver) (config : ConfigTree) (alt : Alt) (needs : List Need) → needed driver config alt ≡ Some needs
    → map (λ (n : Need). n.role) needs ≡ roles_of driver
needs_by_role driver config alt needs h = roles_by driver config alt (roles_of driver) needs h

-- ---- where enough are spare each slot with a home gets an URB
count_taken : (pool : Homes) (n home : ℕ) → is_spare pool n ≡ true → spare_in (set pool n (Some home)) + 1 ≡ spare_in pool
count_taken pool n home here =
    let was : one_if (is_none (get_or pool n (Some 0))) ≡ 1 = rw here refl in
    omega (arith, sum_by-set (λ (y : Option ℕ). one_if (is_none y)) pool n (Some home) (Some 0) (spare_below pool n here), was)

below_len : (pool : Homes) → 0 < spare_in pool → position_or_len is_none pool < length pool
below_len [] h = absurd (omega arith)
below_len (None ∷ pool) h = omega arith
below_len (Some x ∷ pool) h = omega (arith, below_len pool (omega (arith, sum_by-cons (λ (y : Option ℕ). one_if (is_none y)) (Some x) pool)))

some_least : (pool : Homes) → 0 < spare_in pool → (n : ℕ) × (least_in pool ≡ Some n)
some_least pool h = (position_or_len is_none pool, rw (lt-ltb (position_or_len is_none pool) (length pool) (below_len pool h)) refl)

given_by : (pool : Homes) (home : ℕ) (slots : List (Option ℕ)) (o : Option ℕ) (n : ℕ) → least_in pool ≡ o → o ≡ Some n → 1 + count_by is_some slots ≤ spare_in pool
    → ((p : Homes) → count_by is_some slots ≤ spare_in p → map is_some (all_next p slots) ≡ map is_some slots)
    → map is_some (option_map urb o ∷ all_next (option_map_or (λ n. set pool n (Some home)) o pool) slots) ≡ true ∷ map is_some slots
given_by pool home slots None n e is enough rest = absurd cc
given_by pool home slots (Some m) n e is enough rest =
    let here : is_spare pool m ≡ true = (position-Some is_none pool m (Some 0) e).1 in
    ap (λ t. true ∷ t) (rest (set pool m (Some home)) (omega (arith, enough, count_taken pool m home here)))

all_given : (slots : List (Option ℕ)) (pool : Homes) → count_by is_some slots ≤ spare_in pool → map is_some (all_next pool slots) ≡ map is_some slots
all_given [] pool enough = refl
all_given (None ∷ slots) pool enough =
    ap (λ t. false ∷ t) (all_given slots pool (omega (arith, enough, sum_by-cons (λ (x : Option ℕ). one_if (is_some x)) None slots)))
all_given (Some home ∷ slots) pool enough =
    let count = sum_by-cons (λ (x : Option ℕ). one_if (is_some x)) (Some home) slots in
    let least = some_least pool (omega (arith, enough, count)) in
    given_by pool home slots (least_in pool) least.0 refl least.1 (omega (arith, enough, count)) (all_given slots)

-- so many slots, of which so many are filled
abbrev filled_slots : ℕ → ℕ → List Bool
filled_slots zero k = []
filled_slots (suc n) zero = false ∷ filled_slots n zero
filled_slots (suc n) (suc k) = true ∷ filled_slots n k

slots_filled : (n : ℕ) (xs : List ℕ) → map is_some (in_slots n xs) ≡ filled_slots n (length xs)
slots_filled zero xs = refl
slots_filled (suc n) [] = ap (λ t. false ∷ t) (slots_filled n [])
slots_filled (suc n) (x ∷ xs) = ap (λ t. true ∷ t) (slots_filled n xs)

slots_counted : (n : ℕ) (xs : List ℕ) → count_by is_some (in_slots n xs) ≤ length xs
slots_counted zero xs = omega arith
slots_counted (suc n) [] = omega (arith, sum_by-cons (λ (x : Option ℕ). one_if (is_some x)) None (in_slots n []), slots_counted n [])
slots_counted (suc n) (x ∷ xs) = omega (arith, sum_by-cons (λ (y : Option ℕ). one_if (is_some y)) (Some x) (in_slots n xs), slots_counted n xs)

slot_at : (urbs : List (Option UrbId)) (i : ℕ) → is_some (option_flatten (slice_get urbs i)) ≡ get_or (map is_some urbs) i false
slot_at [] i = refl
slot_at (None ∷ urbs) zero = refl
slot_at (Some u ∷ urbs) zero = refl
slot_at (u ∷ urbs) (suc i) = slot_at urbs i

has_each : (driver : Driver) (b : Bound) → map is_some b.urbs ≡ filled_slots 5 (length (roles_of driver))
    → AllByRecursion (λ role. IsSome (urb_by driver b role)) (roles_of driver)
has_each Keyboard b h = (slot_at b.urbs 0 ∙ ap (λ t. get_or t 0 false) h, (slot_at b.urbs 1 ∙ ap (λ t. get_or t 1 false) h, tt))
has_each Acm b h = (
  slot_at b.urbs 0 ∙ ap (λ t. get_or t 0 false) h,
  (
    slot_at b.urbs 1 ∙ ap (λ t. get_or t 1 false) h,
    (
      slot_at b.urbs 2 ∙ ap (λ t. get_or t 2 false) h,
      (slot_at b.urbs 3 ∙ ap (λ t. get_or t 3 false) h, (slot_at b.urbs 4 ∙ ap (λ t. get_or t 4 false) h, tt)),
    ),
  ),
)
has_each Printer b h = (slot_at b.urbs 0 ∙ ap (λ t. get_or t 0 false) h, (slot_at b.urbs 1 ∙ ap (λ t. get_or t 1 false) h, tt))

pub urb_for_each : (board : BoardValue) (pool : Homes) (rows : List IdRow) (device interface : ℕ) (b : Bound) → probed board pool rows device interface ≡ Ok b
    → AllByRecursion (λ role. IsSome (urb_of_role b role)) (roles_of b.driver)
urb_for_each board pool rows device interface b h =
    let facts = binds board pool rows device interface b h in
    let first = slice_index board.firsts device in
    let driver = facts.row.driver in
    let homes = map (home_of first) facts.needs in
    let long : length homes ≡ length (roles_of driver) =
    length-map facts.needs (home_of first) ∙ sym (length-map facts.needs (λ (n : Need). n.role)) ∙ ap length (needs_by_role driver facts.attached.config facts.alt facts.needs facts.nothing_missing) in
    let given = all_given (in_slots 5 homes) pool (omega (arith, slots_counted 5 homes, long, facts.enough)) in
    let urbs : map is_some b.urbs ≡ filled_slots 5 (length (roles_of driver)) =
    ap (map is_some) facts.of_urbs ∙ given ∙ slots_filled 5 homes ∙ ap (filled_slots 5) long in
    has_each b.driver b (urbs ∙ ap (λ d. filled_slots 5 (length (roles_of d))) (sym facts.of_driver))
