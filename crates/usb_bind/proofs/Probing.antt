-- What holds of the board where a probe binds.
use Rattle.std.proofs.Common.{◌≡◌, ◌≤◌, ℕ, Bool, true, false, List, length, Option, Some, None, Ok, Err, Result, refl, ap, ◌∙◌}
use Rattle.std.specs.Prelude.{nat_lt, option_map, ok_or, slice_index}
use Rattle.std.proofs.lemmas.Bool.{ltb-false}
use Rattle.usb_desc.specs.declared.tree.Alt.{Alt}
use Rattle.usb_ctrl.specs.declared.enumerator.Attached.{Attached}
use Rattle.usb_bind.specs.declared.row.Driver.{Driver}
use Rattle.usb_bind.specs.declared.row.IdRow.{IdRow}
use Rattle.usb_bind.specs.declared.bound.Bound.{Bound}
use Rattle.usb_bind.specs.declared.plan.Plan.{Plan}
use Rattle.usb_bind.specs.declared.fault.ProbeFault.{ProbeFault}
use Rattle.usb_bind.specs.declared.fault.ProbeFault.TheVariants.{Busy, NoDriver, NoEnds, OtherBusy}
use Rattle.usb_bind.specs.Matching.{first_match}
use Rattle.usb_bind.specs.Interfaces.{interface_at}
use Rattle.usb_bind.specs.Needs.{Need, needed, other_of, roles_of}
use Rattle.usb_bind.specs.Pool.{Homes, spare_in}
use Rattle.usb_bind.specs.Board.{BoardValue, attached_at, holder_of}
use Rattle.usb_bind.specs.Probe.{then_by, unless, full, other_holder, homes_of, plan_for, plan_at, planned, bound_by, probed, filled, board_after, pool_after}
use Rattle.usb_bind.specs.Laws.{Binds}

then_ok : {X Y : Type 0} (next : X → Result Y ProbeFault) (r : Result X ProbeFault) (y : Y) → then_by next r ≡ Ok y
    → (x : X) × (r ≡ Ok x) × (next x ≡ Ok y)
then_ok next (Ok x) y h = (x, refl, h)
then_ok next (Err fault) y h = absurd cc

unless_ok : {X : Type 0} (fault : Option ProbeFault) (others : Result X ProbeFault) (y : X) → unless fault others ≡ Ok y
    → (fault ≡ None) × (others ≡ Ok y)
unless_ok (Some fault) others y h = absurd cc
unless_ok None others y h = (refl, h)

ok_some : {X : Type 0} (o : Option X) (fault : ProbeFault) (x : X) → ok_or o fault ≡ Ok x → o ≡ Some x
ok_some None fault x h = absurd cc
ok_some (Some y) fault x h = cc

abbrev ok_of : {X : Type 0} → X → Result X ProbeFault
ok_of x = Ok x

ok_is : {X : Type 0} (x y : X) → ok_of x ≡ ok_of y → y ≡ x
ok_is x y h = cc

map_none : {X Y : Type 0} (f : X → Y) (o : Option X) → option_map f o ≡ None → o ≡ None
map_none f None h = refl
map_none f (Some x) h = absurd cc

full_by : (need spare : ℕ) (t : Bool) → nat_lt spare need ≡ t → full need spare ≡ None → need ≤ spare
full_by need spare true e h = let bad = rw e at h in absurd cc
full_by need spare false e h = ltb-false spare need e

plan_binds : (board : BoardValue) (spare device : ℕ) (attached : Attached) (alt : Alt) (driver : Driver) (plan : Plan)
    → plan_for board spare device attached alt driver ≡ Ok plan
    → (needs : List Need) × (needed driver attached.config alt ≡ Some needs)
    × (other_holder board device (other_of driver attached.config alt) ≡ None) × (length (roles_of driver) ≤ spare)
    × (plan ≡ record { driver = driver; other = other_of driver attached.config alt; homes = homes_of (slice_index board.firsts device) needs })
plan_binds board spare device attached alt driver plan h =
    let needs = then_ok _ (ok_or (needed driver attached.config alt) NoEnds) plan h in
    let free = unless_ok (option_map OtherBusy (other_holder board device (other_of driver attached.config alt))) _ plan needs.2 in
    let room = unless_ok (full (length (roles_of driver)) spare) _ plan free.1 in (
      needs.0,
      ok_some (needed driver attached.config alt) NoEnds needs.0 needs.1,
      map_none OtherBusy (other_holder board device (other_of driver attached.config alt)) free.0,
      full_by (length (roles_of driver)) spare (nat_lt spare (length (roles_of driver))) refl room.0,
      ok_is _ plan room.1,
    )

-- a plan in the words of the law
pub record Planned (board : BoardValue) (spare : ℕ) (rows : List IdRow) (device interface : ℕ) (plan : Plan) : Type 0 where
  pub attached : Attached
  pub alt : Alt
  pub row : IdRow
  pub needs : List Need
  pub device_there : attached_at board device ≡ Some attached
  pub interface_there : interface_at attached.config interface ≡ Some alt
  pub free : holder_of board device interface ≡ None
  pub matched : first_match rows attached.device alt ≡ Some row
  pub nothing_missing : needed row.driver attached.config alt ≡ Some needs
  pub other_free : other_holder board device (other_of row.driver attached.config alt) ≡ None
  pub enough : length (roles_of row.driver) ≤ spare
  pub is : plan ≡ record { driver = row.driver; other = other_of row.driver attached.config alt; homes = homes_of (slice_index board.firsts device) needs }

pub planned_says : (board : BoardValue) (spare : ℕ) (rows : List IdRow) (device interface : ℕ) (plan : Plan) → planned board spare rows device interface ≡ Ok plan
    → Planned board spare rows device interface plan
planned_says board spare rows device interface plan h =
    let first = then_ok (λ (a : Attached). then_by (plan_at board spare rows device interface a) (ok_or (interface_at a.config interface) NoDriver))
    (ok_or (attached_at board device) NoDriver) plan h in
    let a = first.0 in
    let second = then_ok (plan_at board spare rows device interface a) (ok_or (interface_at a.config interface) NoDriver) plan first.2 in
    let alt = second.0 in
    let third = unless_ok (option_map Busy (holder_of board device interface)) _ plan second.2 in
    let fourth = then_ok (λ (row : IdRow). plan_for board spare device a alt row.driver) (ok_or (first_match rows a.device alt) NoDriver) plan third.1 in
    let row = fourth.0 in
    let rest = plan_binds board spare device a alt row.driver plan fourth.2 in
    record {
      attached = a;
      alt = alt;
      row = row;
      needs = rest.0;
      device_there = ok_some (attached_at board device) NoDriver a first.1;
      interface_there = ok_some (interface_at a.config interface) NoDriver alt second.1;
      free = map_none Busy (holder_of board device interface) third.0;
      matched = ok_some (first_match rows a.device alt) NoDriver row fourth.1;
      nothing_missing = rest.1;
      other_free = rest.2;
      enough = rest.3;
      is = rest.4;
    }

-- the plan of a probe that binds
pub plan_of : (board : BoardValue) (pool : Homes) (rows : List IdRow) (device interface : ℕ) (b : Bound) → probed board pool rows device interface ≡ Ok b
    → (plan : Plan) × (planned board (spare_in pool) rows device interface ≡ Ok plan) × (b ≡ bound_by pool device interface plan)
plan_of board pool rows device interface b h =
    let first = then_ok (λ plan. Ok (bound_by pool device interface plan)) (planned board (spare_in pool) rows device interface) b h in
    (first.0, first.1, ok_is (bound_by pool device interface first.0) b first.2)

pub binds : (board : BoardValue) (pool : Homes) (rows : List IdRow) (device interface : ℕ) (b : Bound) → probed board pool rows device interface ≡ Ok b
    → Binds board pool rows device interface b
binds board pool rows device interface b h =
    let plan = plan_of board pool rows device interface b h in
    let says = planned_says board (spare_in pool) rows device interface plan.0 plan.1 in
    let is : b ≡ bound_by pool device interface (record { driver = says.row.driver; other = other_of says.row.driver says.attached.config says.alt; homes = homes_of (slice_index board.firsts device) says.needs }) =
    plan.2 ∙ ap (bound_by pool device interface) says.is in
    record {
      attached = says.attached;
      alt = says.alt;
      row = says.row;
      needs = says.needs;
      device_there = says.device_there;
      interface_there = says.interface_there;
      free = says.free;
      matched = says.matched;
      nothing_missing = says.nothing_missing;
      other_free = ap (λ (b : Bound). other_holder board device b.other) is ∙ says.other_free;
      enough = says.enough;
      of_driver = ap (λ (b : Bound). b.driver) is;
      of_device = ap (λ (b : Bound). b.device) is;
      of_interface = ap (λ (b : Bound). b.interface) is;
      of_other = ap (λ (b : Bound). b.other) is;
      of_urbs = ap (λ (b : Bound). b.urbs) is;
    }

then_err : {X Y : Type 0} (next : X → Y) (r : Result X ProbeFault) (fault : ProbeFault) → then_by (λ x. Ok (next x)) r ≡ Err fault → r ≡ Err fault
then_err next (Ok x) fault h = absurd cc
then_err next (Err other) fault h = cc

pub refused : (board : BoardValue) (pool : Homes) (rows : List IdRow) (device interface : ℕ) (fault : ProbeFault)
    → probed board pool rows device interface ≡ Err fault
    → (board_after board (probed board pool rows device interface) ≡ board) × (pool_after board pool rows device interface ≡ pool)
refused board pool rows device interface fault h = (
  ap (board_after board) h,
  ap (filled pool) (then_err (bound_by pool device interface) (planned board (spare_in pool) rows device interface) fault h),
)
