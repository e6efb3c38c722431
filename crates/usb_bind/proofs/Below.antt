-- The homes of URBs are endpoints of the host.
use Rattle.std.proofs.Common.{◌≡◌, ℕ, ◌+◌, ◌-◌, ◌<◌, ◌≤◌, List, [], ◌∷◌, length, map, set, Option, Some, None, Ok, Err, Result, zero, suc, refl, sym, subst, arith}
use Rattle.std.specs.Prelude.{◌==◌, All, option_and_then, is_none, slice_index}
use Rattle.std.specs.Option.{option_map_or}
use Rattle.std.specs.List.{suffix_len}
use Rattle.std.proofs.lemmas.List.Elements.{All-set, All-nil, All-cons, All-take}
use Rattle.std.proofs.lemmas.List.Quantifiers.{position-Some}
use Rattle.usb_types.specs.declared.urb.UrbId.{UrbId}
use Rattle.usb_types.specs.declared.urb.Role.{Role}
use Rattle.usb_types.specs.declared.urb.Role.TheVariants.{In, Note, Read0, Read1, Write, Ctl}
use Rattle.usb_desc.specs.declared.tree.ConfigTree.{ConfigTree}
use Rattle.usb_desc.specs.declared.tree.Alt.{Alt}
use Rattle.usb_desc.specs.declared.tree.End.{End}
use Rattle.usb_ctrl.specs.declared.enumerator.Attached.{Attached}
use Rattle.usb_machine.specs.Queues.{HomeIsBelow}
use Rattle.usb_bind.specs.declared.row.Driver.{Driver}
use Rattle.usb_bind.specs.declared.row.IdRow.{IdRow}
use Rattle.usb_bind.specs.declared.plan.Plan.{Plan}
use Rattle.usb_bind.specs.declared.fault.ProbeFault.{ProbeFault}
use Rattle.usb_bind.specs.Interfaces.{host_ends, place_of}
use Rattle.usb_bind.specs.Needs.{Need, need_at, need_for, all_of, roles_of, end_for}
use Rattle.usb_bind.specs.Pool.{Homes, spare_in, least_in, taken, up_to_last}
use Rattle.usb_bind.specs.Board.{BoardValue, attached_at, released_all}
use Rattle.usb_bind.specs.Probe.{in_slots, home_of, homes_of, all_taken, planned, filled, pool_after}
use Rattle.usb_bind.proofs.Roles.{all_split, place_for}
use Rattle.usb_bind.proofs.Probing.{planned_says}

no_end : End
no_end = record { address = 0; attributes = 0; max_packet = 0; interval = 0; tail = []; extras = [] }

-- an URB that is needed is at endpoint 00 or at one of so many after it
abbrev IsPlaced : ℕ → Option ℕ → Type 0
IsPlaced ends None = Unit {0}
IsPlaced ends (Some p) = p < ends

abbrev IsNear : ℕ → Need → Type 0
IsNear ends need = IsPlaced ends need.place

place_by : (config : ConfigTree) (o : Option End) (p : ℕ) → option_and_then (λ (e : End). place_of config e.address) o ≡ Some p → p < length (host_ends config)
place_by config None p h = absurd cc
place_by config (Some e) p h = (position-Some (λ (f : End). f.address == e.address) (host_ends config) p no_end h).0

at_near : (config : ConfigTree) (role : Role) (place : Option ℕ) (need : Need) → need_at role place ≡ Some need
    → ((p : ℕ) → place ≡ Some p → p < length (host_ends config)) → IsNear (length (host_ends config)) need
at_near config role None need h below = absurd cc
at_near config role (Some p) need h below =
    let made : Need = record { role = role; place = Some p } in
    let is : made ≡ need = cc in
    subst (IsNear (length (host_ends config))) is (below p refl)

near_for : (driver : Driver) (config : ConfigTree) (alt : Alt) (role : Role) (need : Need) → need_for driver config alt role ≡ Some need
    → IsNear (length (host_ends config)) need
near_for driver config alt In need h = at_near config In (place_for driver config alt In) need h (place_by config (end_for driver config alt In))
near_for driver config alt Note need h = at_near config Note (place_for driver config alt Note) need h (place_by config (end_for driver config alt Note))
near_for driver config alt Read0 need h = at_near config Read0 (place_for driver config alt Read0) need h (place_by config (end_for driver config alt Read0))
near_for driver config alt Read1 need h = at_near config Read1 (place_for driver config alt Read1) need h (place_by config (end_for driver config alt Read1))
near_for driver config alt Write need h = at_near config Write (place_for driver config alt Write) need h (place_by config (end_for driver config alt Write))
near_for driver config alt Ctl need h =
    let made : Need = record { role = Ctl; place = None } in
    let is : made ≡ need = cc in
    subst (IsNear (length (host_ends config))) is tt

near_all : (driver : Driver) (config : ConfigTree) (alt : Alt) (roles : List Role) (needs : List Need) → all_of (map (need_for driver config alt) roles) ≡ Some needs
    → All (IsNear (length (host_ends config))) needs
near_all driver config alt [] needs h =
    let is : [] ≡ needs = cc in
    subst (All (IsNear (length (host_ends config)))) is (All-nil (IsNear (length (host_ends config))))
near_all driver config alt (role ∷ roles) needs h =
    let parts = all_split (need_for driver config alt role) (all_of (map (need_for driver config alt) roles)) needs h in
    subst (All (IsNear (length (host_ends config)))) (sym parts.4)
    (All-cons (IsNear (length (host_ends config))) parts.0 parts.1 (near_for driver config alt role parts.0 parts.2) (near_all driver config alt roles parts.1 parts.3))

-- homes of such are below the number after them
home_below : (first ends bound : ℕ) (place : Option ℕ) → IsPlaced ends place → first + 1 + ends ≤ bound → option_map_or (λ p. first + 1 + p) place first < bound
home_below first ends bound None near h = omega arith
home_below first ends bound (Some p) near h = omega (arith, near)

slots_below : (n first ends bound : ℕ) (needs : List Need) → All (IsNear ends) needs → first + 1 + ends ≤ bound
    → All (HomeIsBelow bound) (in_slots n (map (home_of first) needs))
slots_below zero first ends bound needs near h = All-nil (HomeIsBelow bound)
slots_below (suc n) first ends bound [] near h = All-cons (HomeIsBelow bound) None (in_slots n []) tt (slots_below n first ends bound [] (All-nil (IsNear ends)) h)
slots_below (suc n) first ends bound (need ∷ needs) near h =
    All-cons (HomeIsBelow bound) (Some (home_of first need)) (in_slots n (map (home_of first) needs)) (home_below first ends bound need.place (near 0 need (omega arith)) h)
    (slots_below n first ends bound needs (λ k d below. near (suc k) d (omega arith)) h)

taken_below_by : (pool : Homes) (bound home : ℕ) (o : Option ℕ) → All (HomeIsBelow bound) pool → home < bound
    → All (HomeIsBelow bound) (option_map_or (λ n. set pool n (Some home)) o pool)
taken_below_by pool bound home None all h = all
taken_below_by pool bound home (Some n) all h = All-set (HomeIsBelow bound) pool n (Some home) h all

all_below : (slots : List (Option ℕ)) (pool : Homes) (bound : ℕ) → All (HomeIsBelow bound) pool → All (HomeIsBelow bound) slots
    → All (HomeIsBelow bound) (all_taken pool slots)
all_below [] pool bound all near = all
all_below (None ∷ slots) pool bound all near = all_below slots pool bound all (λ k d h. near (suc k) d (omega arith))
all_below (Some home ∷ slots) pool bound all near =
    all_below slots (taken pool home) bound (taken_below_by pool bound home (least_in pool) all (near 0 None (omega arith))) (λ k d h. near (suc k) d (omega arith))

filled_below : (board : BoardValue) (pool : Homes) (rows : List IdRow) (device interface bound : ℕ) (r : Result Plan ProbeFault)
    → planned board (spare_in pool) rows device interface ≡ r → All (HomeIsBelow bound) pool
    → ((a : Attached) → attached_at board device ≡ Some a → slice_index board.firsts device + 1 + length (host_ends a.config) ≤ bound)
    → All (HomeIsBelow bound) (filled pool r)
filled_below board pool rows device interface bound (Err fault) h all room = all
filled_below board pool rows device interface bound (Ok plan) h all room =
    let says = planned_says board (spare_in pool) rows device interface plan h in
    let first = slice_index board.firsts device in
    let near = near_all says.row.driver says.attached.config says.alt (roles_of says.row.driver) says.needs says.nothing_missing in
    let slots = slots_below 5 first (length (host_ends says.attached.config)) bound says.needs near (room says.attached says.device_there) in
    subst (λ (p : Plan). All (HomeIsBelow bound) (all_taken pool p.homes)) (sym says.is) (all_below (homes_of first says.needs) pool bound all slots)

pub homes_stay_below : (board : BoardValue) (pool : Homes) (rows : List IdRow) (device interface bound : ℕ) → All (HomeIsBelow bound) pool
    → ((a : Attached) → attached_at board device ≡ Some a → slice_index board.firsts device + 1 + length (host_ends a.config) ≤ bound)
    → All (HomeIsBelow bound) (pool_after board pool rows device interface)
homes_stay_below board pool rows device interface bound all room =
    filled_below board pool rows device interface bound (planned board (spare_in pool) rows device interface) refl all room

pub released_below : (urbs : List (Option UrbId)) (pool : Homes) (bound : ℕ) → All (HomeIsBelow bound) pool → All (HomeIsBelow bound) (released_all pool urbs)
released_below [] pool bound all = all
released_below (None ∷ urbs) pool bound all = released_below urbs pool bound all
released_below (Some u ∷ urbs) pool bound all = released_below urbs (set pool u.0 None) bound (All-set (HomeIsBelow bound) pool u.0 None tt all)

pub layout_below : (pool : Homes) (bound : ℕ) → All (HomeIsBelow bound) pool → All (HomeIsBelow bound) (up_to_last pool)
layout_below pool bound all = All-take (HomeIsBelow bound) (length pool - suffix_len is_none pool) pool all
