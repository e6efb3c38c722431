-- What a binding that a probe makes is.
use Rattle.std.proofs.Common.{ℕ, zero, suc, ◌≡◌, ◌<◌, ◌≤◌, Bool, true, false, cond, eqb, Option, Some, None, Result, Ok, Err, List, [], ◌∷◌, length, map, refl, ap, ◌∙◌, subst, arith}
use Rattle.std.specs.Prelude.{slice_index, ok_or, option_map, option_and_then, position}
use Rattle.std.specs.List.{All}
use Rattle.std.proofs.Math.Dec.{ltb}
use Rattle.std.proofs.lemmas.List.Quantifiers.{position-Some}
use Rattle.std.proofs.lemmas.Bool.{ltb-false}
use Rattle.usb_types.specs.declared.urb.Role.{Role}
use Rattle.usb_types.specs.declared.urb.Role.TheVariants.{In, Note, Read0, Read1, Write, Ctl}
use Rattle.usb_desc.specs.declared.tree.Alt.{Alt}
use Rattle.usb_desc.specs.declared.tree.End.{End}
use Rattle.usb_desc.specs.declared.tree.ConfigTree.{ConfigTree}
use Rattle.usb_ctrl.specs.declared.enumerator.Attached.{Attached}
use Rattle.usb_bind.specs.declared.row.Driver.{Driver}
use Rattle.usb_bind.specs.declared.row.IdRow.{IdRow}
use Rattle.usb_bind.specs.declared.plan.Plan.{Plan}
use Rattle.usb_bind.specs.declared.fault.ProbeFault.{ProbeFault}
use Rattle.usb_bind.specs.declared.fault.ProbeFault.TheVariants.{Busy, NoDriver, NoEnds, OtherBusy, Full}
use Rattle.usb_bind.specs.Matching.{first_match}
use Rattle.usb_bind.specs.Interfaces.{host_ends, place_of, interface_at}
use Rattle.usb_bind.specs.Needs.{Need, need_at, need_for, end_for, all_of, needed, other_of, roles_of}
use Rattle.usb_bind.specs.Board.{BoardValue, attached_at, holder_of}
use Rattle.usb_bind.specs.Pool.{Homes, spare_in}
use Rattle.usb_bind.specs.declared.bound.Bound.{Bound}
use Rattle.usb_bind.specs.declared.row.Driver.TheVariants.{Keyboard, Acm, Printer}
use Rattle.usb_bind.specs.Probe.{then_by, unless, homes_of, other_holder, full, plan_for, plan_at, planned, all_next, all_taken, bound_by, probed, filled, pool_after}

-- a place is that of one of so many endpoints
abbrev pub IsPlace : ℕ → Option ℕ → Type 0
IsPlace count None = Unit {0}
IsPlace count (Some place) = place < count

abbrev pub IsPlaced : ℕ → Need → Type 0
IsPlaced count need = IsPlace count need.place

-- what a plan of a probe of device d is made of
record IsPlan (board : BoardValue) (spare d : ℕ) (plan : Plan) : Type 0 where
  pub attached : Attached
  pub at : attached_at board d ≡ Some attached
  pub alt : Alt
  pub needs : List Need
  pub due : needed plan.driver attached.config alt ≡ Some needs
  pub homes : plan.homes ≡ homes_of (slice_index board.firsts d) needs
  pub room : length (roles_of plan.driver) ≤ spare

then_in : {X Y : Type 0} (f : X → Result Y ProbeFault) (r : Result X ProbeFault) (y : Y) → then_by f r ≡ Ok y → (x : X) × (r ≡ Ok x) × (f x ≡ Ok y)
then_in f (Ok x) y is = (x, refl, is)
then_in f (Err e) y is = cc

some_in : {X : Type 0} (o : Option X) (e : ProbeFault) (x : X) → ok_or o e ≡ Ok x → o ≡ Some x
some_in None e x is = cc
some_in (Some y) e x is = cc

unless_in : {X : Type 0} (o : Option ProbeFault) (r : Result X ProbeFault) (x : X) → unless o r ≡ Ok x → (o ≡ None) × (r ≡ Ok x)
unless_in None r x is = (refl, is)
unless_in (Some e) r x is = cc

room_in : (need spare : ℕ) → full need spare ≡ None → need ≤ spare
room_in need spare is = go (ltb spare need) refl is
  where
    go : (b : Bool) → ltb spare need ≡ b → cond b (Some (Full need spare)) None ≡ None → need ≤ spare
    go true e none = cc
    go false e none = ltb-false spare need e

module _ (board : BoardValue) (spare d : ℕ) where
  for_in : (a : Attached) (alt : Alt) (driver : Driver) (plan : Plan) → attached_at board d ≡ Some a → plan_for board spare d a alt driver ≡ Ok plan → IsPlan board spare d plan
  for_in a alt driver plan at is =
      let other = other_of driver a.config alt in
      let homes : List Need → List (Option ℕ) = λ needs. homes_of (slice_index board.firsts d) needs in
      let due : List Need → Plan = λ needs. record { driver = driver; other = other; homes = homes needs } in
      let first = then_in (λ needs. unless (option_map OtherBusy (other_holder board d other)) (unless (full (length (roles_of driver)) spare) (Ok (due needs)))) (ok_or (needed driver a.config alt) NoEnds) plan is in
      let free = unless_in (option_map OtherBusy (other_holder board d other)) (unless (full (length (roles_of driver)) spare) (Ok (due first.0))) plan first.2 in
      let room = unless_in (full (length (roles_of driver)) spare) (Ok (due first.0)) plan free.1 in
      let same : due first.0 ≡ plan = cc in
      subst (IsPlan board spare d) same record {
        attached = a;
        at = at;
        alt = alt;
        needs = first.0;
        due = some_in (needed driver a.config alt) NoEnds first.0 first.1;
        homes = refl;
        room = room_in (length (roles_of driver)) spare room.0;
      }

  at_in : (rows : List IdRow) (interface : ℕ) (a : Attached) (alt : Alt) (plan : Plan) → attached_at board d ≡ Some a → plan_at board spare rows d interface a alt ≡ Ok plan → IsPlan board spare d plan
  at_in rows interface a alt plan at is =
      let free = unless_in (option_map Busy (holder_of board d interface)) (then_by (λ (row : IdRow). plan_for board spare d a alt row.driver) (ok_or (first_match rows a.device alt) NoDriver)) plan is in
      let row = then_in (λ (row : IdRow). plan_for board spare d a alt row.driver) (ok_or (first_match rows a.device alt) NoDriver) plan free.1 in
      for_in a alt row.0.driver plan at row.2

  planned_in : (rows : List IdRow) (interface : ℕ) (plan : Plan) → planned board spare rows d interface ≡ Ok plan → IsPlan board spare d plan
  planned_in rows interface plan is =
      let device = then_in (λ (a : Attached). then_by (plan_at board spare rows d interface a) (ok_or (interface_at a.config interface) NoDriver)) (ok_or (attached_at board d) NoDriver) plan is in
      let alt = then_in (plan_at board spare rows d interface device.0) (ok_or (interface_at device.0.config interface) NoDriver) plan device.2 in
      at_in rows interface device.0 alt.0 plan (some_in (attached_at board d) NoDriver device.0 device.1) alt.2

-- the binding that a probe of an interface made: its device and interface, the URBs that its driver needs, each with its
-- home, and the pool after it
pub record IsMade (board : BoardValue) (pool : Homes) (rows : List IdRow) (d interface : ℕ) (b : Bound) : Type 0 where
  pub device : b.device ≡ d
  pub face : b.interface ≡ interface
  pub attached : Attached
  pub at : attached_at board d ≡ Some attached
  pub needs : List Need
  pub placed : All (IsPlaced (length (host_ends attached.config))) needs
  pub count : length needs ≤ 5
  pub room : length needs ≤ spare_in pool
  pub urbs : b.urbs ≡ all_next pool (homes_of (slice_index board.firsts d) needs)
  pub behind : pool_after board pool rows d interface ≡ all_taken pool (homes_of (slice_index board.firsts d) needs)

-- the places of what a driver needs are those of endpoints, and there is one need for each role
find_place : (config : ConfigTree) (role : Role) (o : Option End) (need : Need) → need_at role (option_and_then (λ (e : End). place_of config e.address) o) ≡ Some need → IsPlaced (length (host_ends config)) need
find_place config role None need is = cc
find_place config role (Some e) need is = go (place_of config e.address) refl is
  where
    go : (o : Option ℕ) → place_of config e.address ≡ o → need_at role o ≡ Some need → IsPlaced (length (host_ends config)) need
    go None at is = cc
    go (Some p) at is =
        let same : record { role = role; place = Some p } ≡ need = cc in
        subst (IsPlaced (length (host_ends config))) same (position-Some (λ (f : End). eqb f.address e.address) (host_ends config) p e at).0

module _ (driver : Driver) (config : ConfigTree) (alt : Alt) where
  one_placed : (role : Role) (need : Need) → need_for driver config alt role ≡ Some need → IsPlaced (length (host_ends config)) need
  one_placed Ctl need is = let same : record { role = Ctl; place = None } ≡ need = cc in subst (IsPlaced (length (host_ends config))) same tt
  one_placed In need is = find_place config In (end_for driver config alt In) need is
  one_placed Note need is = find_place config Note (end_for driver config alt Note) need is
  one_placed Read0 need is = find_place config Read0 (end_for driver config alt Read0) need is
  one_placed Read1 need is = find_place config Read1 (end_for driver config alt Read1) need is
  one_placed Write need is = find_place config Write (end_for driver config alt Write) need is

  all_placed : (roles : List Role) (needs : List Need) → all_of (map (need_for driver config alt) roles) ≡ Some needs → All (IsPlaced (length (host_ends config))) needs × (length needs ≡ length roles)
  all_placed [] needs is = let same : [] ≡ needs = cc in subst (λ (l : List Need). All (IsPlaced (length (host_ends config))) l × (length l ≡ 0)) same ((λ k d l. absurd (omega arith)), refl)
  all_placed (role ∷ roles) needs is = go (need_for driver config alt role) refl (all_of (map (need_for driver config alt) roles)) refl is (all_placed roles)
    where
      ArePlaced : List Need → ℕ → Type 0
      ArePlaced l n = All (IsPlaced (length (host_ends config))) l × (length l ≡ n)

      with_first : (x : Need) (xs : List Need) → IsPlaced (length (host_ends config)) x → All (IsPlaced (length (host_ends config))) xs → All (IsPlaced (length (host_ends config))) (x ∷ xs)
      with_first x xs p ps zero d l = p
      with_first x xs p ps (suc k) d l = ps k d (omega arith)

      go : (o : Option Need) → need_for driver config alt role ≡ o → (r : Option (List Need)) → all_of (map (need_for driver config alt) roles) ≡ r
          → option_and_then (λ first. option_map (λ rest. first ∷ rest) r) o ≡ Some needs
          → ((needs : List Need) → all_of (map (need_for driver config alt) roles) ≡ Some needs → ArePlaced needs (length roles)) → ArePlaced needs (suc (length roles))
      go None e r f is more = cc
      go (Some first) e None f is more = cc
      go (Some first) e (Some rest) f is more =
          let same : first ∷ rest ≡ needs = cc in
          let others = more rest f in
          subst (λ (l : List Need). ArePlaced l (suc (length roles))) same (with_first first rest (one_placed role first e) others.0, ap (λ k. suc k) others.1)

few_roles : (driver : Driver) → length (roles_of driver) ≤ 5
few_roles Keyboard = omega arith
few_roles Acm = omega arith
few_roles Printer = omega arith

module _ (board : BoardValue) (pool : Homes) (rows : List IdRow) (d interface : ℕ) where
  of_plan : (plan : Plan) → planned board (spare_in pool) rows d interface ≡ Ok plan → IsMade board pool rows d interface (bound_by pool d interface plan)
  of_plan plan is =
      let p = planned_in board (spare_in pool) d rows interface plan is in
      let placed = all_placed plan.driver p.attached.config p.alt (roles_of plan.driver) p.needs p.due in
      let few = few_roles plan.driver in let long = placed.1 in let room = p.room in
      record {
        device = refl;
        face = refl;
        attached = p.attached;
        at = p.at;
        needs = p.needs;
        placed = placed.0;
        count = omega arith;
        room = omega arith;
        urbs = ap (all_next pool) p.homes;
        behind = ap (filled pool) is ∙ ap (all_taken pool) p.homes;
      }

  result_made : (r : Result Plan ProbeFault) (b : Bound) → planned board (spare_in pool) rows d interface ≡ r → then_by (λ plan. Ok (bound_by pool d interface plan)) r ≡ Ok b → IsMade board pool rows d interface b
  result_made (Ok plan) b at is = let same : bound_by pool d interface plan ≡ b = cc in subst (IsMade board pool rows d interface) same (of_plan plan at)
  result_made (Err e) b at is = cc

  pub is_made : (b : Bound) → probed board pool rows d interface ≡ Ok b → IsMade board pool rows d interface b
  is_made b is = result_made (planned board (spare_in pool) rows d interface) b refl is
