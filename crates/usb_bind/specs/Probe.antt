-- What a probe answers, and what the board and the pool are after it.
use Rattle.std.specs.Prelude.{ℕ, zero, suc, ◌+◌, nat_lt, if◌then◌else◌, List, [], ◌∷◌, map, length, slice_index, Option, Some, None, option_and_then, option_map, ok_or, fold, Result, Ok, Err}
use Rattle.std.specs.Option.{option_map_or}
use Rattle.usb_types.specs.declared.urb.UrbId.{UrbId}
use Rattle.usb_desc.specs.declared.tree.Alt.{Alt}
use Rattle.usb_ctrl.specs.declared.enumerator.Attached.{Attached}
use Rattle.usb_bind.specs.declared.row.Driver.{Driver}
use Rattle.usb_bind.specs.declared.row.IdRow.{IdRow}
use Rattle.usb_bind.specs.declared.bound.Bound.{Bound}
use Rattle.usb_bind.specs.declared.plan.Plan.{Plan}
use Rattle.usb_bind.specs.declared.fault.ProbeFault.{ProbeFault}
use Rattle.usb_bind.specs.declared.fault.ProbeFault.TheVariants.{Busy, NoDriver, NoEnds, OtherBusy, Full}
use Rattle.usb_bind.specs.Matching.{first_match}
use Rattle.usb_bind.specs.Interfaces.{interface_at}
use Rattle.usb_bind.specs.Needs.{Need, needed, other_of, roles_of}
use Rattle.usb_bind.specs.Pool.{Homes, spare_in, next_urb, taken}
use Rattle.usb_bind.specs.Board.{BoardValue, attached_at, holder_of, with_binding}

-- a fault ends it, and what is good goes on
abbrev pub then_by : {X Y : Type 0} → (X → Result Y ProbeFault) → Result X ProbeFault → Result Y ProbeFault
then_by next (Ok x) = next x
then_by next (Err fault) = Err fault

-- the result, where there is no fault before it
abbrev pub unless : {X : Type 0} → Option ProbeFault → Result X ProbeFault → Result X ProbeFault
unless (Some fault) others = Err fault
unless None others = others

-- so many slots, of which the first ones hold these
abbrev pub in_slots : {X : Type 0} → ℕ → List X → List (Option X)
in_slots zero xs = []
in_slots (suc n) [] = None ∷ in_slots n []
in_slots (suc n) (x ∷ xs) = Some x ∷ in_slots n xs

-- the home of an URB: the device's endpoint 00, or one at a place after it
abbrev pub home_of : ℕ → Need → ℕ
home_of first need = option_map_or (λ place. first + 1 + place) need.place first

-- the homes of these URBs, in five slots
abbrev pub homes_of : ℕ → List Need → List (Option ℕ)
homes_of first needs = in_slots 5 (map (home_of first) needs)

-- the driver that has the other interface
abbrev pub other_holder : BoardValue → ℕ → Option ℕ → Option Driver
other_holder board device other = option_and_then (λ n. holder_of board device n) other

-- too few URBs are spare
abbrev pub full : ℕ → ℕ → Option ProbeFault
full need spare = if nat_lt spare need then Some (Full need spare) else None

-- the plan for a driver that matches: 3 an endpoint or interface is missing, 4 the other interface is bound, 5 too few URBs
abbrev pub plan_for : BoardValue → ℕ → ℕ → Attached → Alt → Driver → Result Plan ProbeFault
plan_for board spare device attached alt driver =
    then_by (λ needs.
    let other = other_of driver attached.config alt in
    unless (option_map OtherBusy (other_holder board device other))
    (unless (full (length (roles_of driver)) spare)
    (Ok (record { driver = driver; other = other; homes = homes_of (slice_index board.firsts device) needs }))))
    (ok_or (needed driver attached.config alt) NoEnds)

-- 1 the interface is bound, 2 no row matches
abbrev pub plan_at : BoardValue → ℕ → List IdRow → ℕ → ℕ → Attached → Alt → Result Plan ProbeFault
plan_at board spare rows device interface attached alt =
    unless (option_map Busy (holder_of board device interface))
    (then_by (λ (row : IdRow). plan_for board spare device attached alt row.driver) (ok_or (first_match rows attached.device alt) NoDriver))

-- the plan of a probe of an interface that is there
abbrev pub planned : BoardValue → ℕ → List IdRow → ℕ → ℕ → Result Plan ProbeFault
planned board spare rows device interface =
    then_by (λ (a : Attached). then_by (plan_at board spare rows device interface a) (ok_or (interface_at a.config interface) NoDriver))
    (ok_or (attached_at board device) NoDriver)

-- a slot with a home takes the next URB
abbrev pub slot_urb : Homes → Option ℕ → Option UrbId
slot_urb pool slot = option_and_then (λ home. next_urb pool) slot

abbrev pub slot_taken : Homes → Option ℕ → Homes
slot_taken pool slot = option_map_or (taken pool) slot pool

-- the URBs of these slots, taken one after the other
abbrev pub all_next : Homes → List (Option ℕ) → List (Option UrbId)
all_next pool [] = []
all_next pool (slot ∷ slots) = slot_urb pool slot ∷ all_next (slot_taken pool slot) slots

-- the pool after that
abbrev pub all_taken : Homes → List (Option ℕ) → Homes
all_taken pool slots = fold slot_taken pool slots

abbrev pub bound_by : Homes → ℕ → ℕ → Plan → Bound
bound_by pool device interface plan = record {
  driver = plan.driver;
  device = device;
  interface = interface;
  other = plan.other;
  urbs = all_next pool plan.homes;
}

-- the binding that is made, or the first fault
abbrev pub probed : BoardValue → Homes → List IdRow → ℕ → ℕ → Result Bound ProbeFault
probed board pool rows device interface =
    then_by (λ plan. Ok (bound_by pool device interface plan)) (planned board (spare_in pool) rows device interface)

-- a refusal changes nothing
abbrev pub board_after : BoardValue → Result Bound ProbeFault → BoardValue
board_after board (Ok b) = with_binding board b
board_after board (Err fault) = board

abbrev pub filled : Homes → Result Plan ProbeFault → Homes
filled pool (Ok plan) = all_taken pool plan.homes
filled pool (Err fault) = pool

abbrev pub pool_after : BoardValue → Homes → List IdRow → ℕ → ℕ → Homes
pool_after board pool rows device interface = filled pool (planned board (spare_in pool) rows device interface)
