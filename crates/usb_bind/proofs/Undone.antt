-- Cancelling right after a probe restores board and pool.
use Rattle.std.proofs.Common.{◌≡◌, ℕ, Bool, true, false, not, List, [], ◌∷◌, ◌++◌, set, Option, Some, None, Ok, zero, suc, refl, ap, ◌∙◌}
use Rattle.std.specs.Prelude.{◌&&◌, ◌||◌, ◌==◌, is_none, filter, find, option_map}
use Rattle.std.specs.Option.{option_map_or}
use Rattle.std.proofs.lemmas.Bool.{eq-eqb}
use Rattle.std.proofs.lemmas.List.Quantifiers.{position-Some}
use Rattle.usb_types.specs.declared.urb.UrbId.{UrbId}
use Rattle.usb_bind.specs.declared.row.IdRow.{IdRow}
use Rattle.usb_bind.specs.declared.bound.Bound.{Bound}
use Rattle.usb_bind.specs.Pool.{Homes, least_in, is_spare, urb}
use Rattle.usb_bind.specs.Board.{BoardValue, has_interface, holder_of, with_binding, is_binding_of, without, released_all}
use Rattle.usb_bind.specs.Probe.{all_next, all_taken, probed, filled, board_after, pool_after}
use Rattle.usb_bind.proofs.Bindings.{none_split}
use Rattle.usb_bind.proofs.Probing.{plan_of, binds}

none_twice : (pool : Homes) (a b : ℕ) → set (set pool a None) b None ≡ set (set pool b None) a None
none_twice [] a b = refl
none_twice (x ∷ pool) zero zero = refl
none_twice (x ∷ pool) zero (suc b) = refl
none_twice (x ∷ pool) (suc a) zero = refl
none_twice (x ∷ pool) (suc a) (suc b) = ap (λ t. x ∷ t) (none_twice pool a b)

-- one URB may be released before the others or after them
released_first : (urbs : List (Option UrbId)) (pool : Homes) (n : ℕ) → released_all (set pool n None) urbs ≡ set (released_all pool urbs) n None
released_first [] pool n = refl
released_first (None ∷ urbs) pool n = released_first urbs pool n
released_first (Some u ∷ urbs) pool n = ap (λ p. released_all p urbs) (none_twice pool n u.0) ∙ released_first urbs (set pool u.0 None) n

set_back : (pool : Homes) (n home : ℕ) → is_spare pool n ≡ true → set (set pool n (Some home)) n None ≡ pool
set_back [] n home h = refl
set_back (None ∷ pool) zero home h = refl
set_back (Some x ∷ pool) zero home h = absurd cc
set_back (x ∷ pool) (suc n) home h = ap (λ t. x ∷ t) (set_back pool n home h)

undone_one : (pool : Homes) (home : ℕ) (slots : List (Option ℕ)) (o : Option ℕ) → least_in pool ≡ o
    → ((p : Homes) → released_all (all_taken p slots) (all_next p slots) ≡ p)
    → let then_pool : Homes = option_map_or (λ n. set pool n (Some home)) o pool in
    released_all (all_taken then_pool slots) (option_map urb o ∷ all_next then_pool slots) ≡ pool
undone_one pool home slots None e rest = rest pool
undone_one pool home slots (Some n) e rest =
    let then_pool = set pool n (Some home) in
    let here : is_spare pool n ≡ true = (position-Some is_none pool n (Some 0) e).1 in
    released_first (all_next then_pool slots) (all_taken then_pool slots) n
    ∙ ap (λ p. set p n None) (rest then_pool)
    ∙ set_back pool n home here

-- URBs that were taken are released
pub undone : (slots : List (Option ℕ)) (pool : Homes) → released_all (all_taken pool slots) (all_next pool slots) ≡ pool
undone [] pool = refl
undone (None ∷ slots) pool = undone slots pool
undone (Some home ∷ slots) pool = undone_one pool home slots (least_in pool) refl (undone slots)

own_false : (device own other : Bool) → (device && (own || other)) ≡ false → (device && own) ≡ false
own_false true true other h = absurd cc
own_false true false other h = refl
own_false false own other h = refl

-- where nobody held the interface, the other bindings stay
others_stay : (device interface : ℕ) (bindings : List Bound) (b : Bound)
    → option_map (λ (b : Bound). b.driver) (find (has_interface device interface) bindings) ≡ None → is_binding_of device interface b ≡ true
    → filter (λ (other : Bound). not (is_binding_of device interface other)) (bindings ++ b ∷ []) ≡ bindings
others_stay device interface [] b h own = rw own refl
others_stay device interface (a ∷ bindings) b h own =
    let parts = none_split a (find (has_interface device interface) bindings) (has_interface device interface a) h in
    let other : is_binding_of device interface a ≡ false = own_false (a.device == device) (a.interface == interface) _ parts.0 in
    rw other (ap (λ t. a ∷ t) (others_stay device interface bindings b parts.1 own))

board_back : (board : BoardValue) (device interface : ℕ) (b : Bound) → holder_of board device interface ≡ None → b.device ≡ device → b.interface ≡ interface
    → without (with_binding board b) b ≡ board
board_back board device interface b free d i =
    let own : is_binding_of b.device b.interface b ≡ true = rw (eq-eqb b.device b.device refl, eq-eqb b.interface b.interface refl) refl in
    let free_here : holder_of board b.device b.interface ≡ None = ap (λ d. holder_of board d b.interface) d ∙ ap (holder_of board device) i ∙ free in
    ap (λ (bs : List Bound). let x : BoardValue = record board { bindings = bs } in x) (others_stay b.device b.interface board.bindings b free_here own)

pub cancel_undoes : (board : BoardValue) (pool : Homes) (rows : List IdRow) (device interface : ℕ) (b : Bound) → probed board pool rows device interface ≡ Ok b
    → (without (board_after board (probed board pool rows device interface)) b ≡ board)
    × (released_all (pool_after board pool rows device interface) b.urbs ≡ pool)
cancel_undoes board pool rows device interface b h =
    let facts = binds board pool rows device interface b h in
    let plan = plan_of board pool rows device interface b h in (
      ap (λ r. without (board_after board r) b) h ∙ board_back board device interface b facts.free facts.of_device facts.of_interface,
      ap (λ r. released_all (filled pool r) b.urbs) plan.1
          ∙ ap (λ (b : Bound). released_all (all_taken pool plan.0.homes) b.urbs) plan.2
          ∙ undone plan.0.homes pool,
    )
