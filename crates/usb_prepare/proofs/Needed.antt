-- What the URBs of a binding are for: there is one for each role of its driver, at the role's endpoint.
use Rattle.std.proofs.Common.{ℕ, zero, suc, ◌≡◌, ◌<◌, ◌≤◌, Bool, true, false, cond, not, ◌&&◌, eqb, Option, Some, None, Ok, List, [], ◌∷◌, length, get_or, map, refl, sym, ap, ◌∙◌, subst, arith}
use Rattle.std.specs.Prelude.{◌%◌, nat_le, slice_get, slice_index, find, option_and_then}
use Rattle.std.proofs.lemmas.Bool.{and_parts, eqb-true}
use Rattle.std.proofs.lemmas.List.{length-map}
use Rattle.std.proofs.lemmas.List.Quantifiers.{position-Some}
use Rattle.std.proofs.lemmas.Option.{slice_get-get_or, slice_get_within}
use Rattle.usb_types.specs.declared.urb.Role.{Role}
use Rattle.usb_types.specs.declared.urb.Role.TheVariants.{In, Note, Read0, Read1, Write, Ctl}
use Rattle.usb_desc.specs.declared.tree.Alt.{Alt}
use Rattle.usb_desc.specs.declared.tree.End.{End}
use Rattle.usb_desc.specs.declared.tree.ConfigTree.{ConfigTree}
use Rattle.usb_bind.specs.declared.row.Driver.{Driver}
use Rattle.usb_bind.specs.declared.row.Driver.TheVariants.{Keyboard, Acm, Printer}
use Rattle.usb_bind.specs.declared.row.IdRow.{IdRow}
use Rattle.usb_bind.specs.declared.bound.Bound.{Bound}
use Rattle.usb_bind.specs.Interfaces.{host_ends, place_of}
use Rattle.usb_bind.specs.Needs.{Need, need_at, need_for, is_in, is_missing, is_interrupt_in, is_bulk_in, data_ends, end_for, all_of, other_of, roles_of}
use Rattle.usb_bind.specs.Pool.{Homes, spare_in}
use Rattle.usb_bind.specs.Board.{BoardValue}
use Rattle.usb_bind.specs.Probe.{homes_of, all_taken, bound_by, probed, filled}
use Rattle.usb_bind.proofs.Binding.{IsPlace, IsMade}
use Rattle.usb_bind.proofs.Probing.{planned_says, plan_of}
use Rattle.usb_bind.proofs.Roles.{all_split, needs_by_role}

-- the roles whose URBs bring data in
abbrev pub brings : Role → Bool
brings Write = false
brings Ctl = false
brings role = true

-- the place of an URB of a role: control transfers have endpoint 00, which is None, and the others one of these after it
abbrev pub IsFor : List End → Role → Option ℕ → Type 0
IsFor ends Ctl place = place ≡ None
IsFor ends role place = (p : ℕ) × (e : End) × (place ≡ Some p) × (slice_get ends p ≡ Some e) × (brings role ≡ true → is_in e ≡ true)

for_place : (ends : List End) (role : Role) (place : Option ℕ) → IsFor ends role place → IsPlace (length ends) place
for_place ends Ctl place is = subst (IsPlace (length ends)) (sym is) tt
for_place ends In place is = subst (IsPlace (length ends)) (sym is.2) (slice_get_within ends is.0 is.1 is.3)
for_place ends Note place is = subst (IsPlace (length ends)) (sym is.2) (slice_get_within ends is.0 is.1 is.3)
for_place ends Read0 place is = subst (IsPlace (length ends)) (sym is.2) (slice_get_within ends is.0 is.1 is.3)
for_place ends Read1 place is = subst (IsPlace (length ends)) (sym is.2) (slice_get_within ends is.0 is.1 is.3)
for_place ends Write place is = subst (IsPlace (length ends)) (sym is.2) (slice_get_within ends is.0 is.1 is.3)

-- what is found passes the test
passes : (p : End → Bool) (ends : List End) (e : End) → find p ends ≡ Some e → p e ≡ true
passes p [] e is = cc
passes p (x ∷ ends) e is = go (p x) refl is (passes p ends e)
  where
    go : (b : Bool) → p x ≡ b → cond b (Some x) (find p ends) ≡ Some e → (find p ends ≡ Some e → p e ≡ true) → p e ≡ true
    go true at f rest = let same : x ≡ e = cc in subst (λ y. p y ≡ true) same at
    go false at f rest = rest f

brought : (kind missing : Bool) (e : End) → (kind && is_in e && missing) ≡ true → is_in e ≡ true
brought kind missing e is = (and_parts kind (is_in e) (and_parts (kind && is_in e) missing is).0).1

interrupt_in : (ends : List End) (e : End) → find is_interrupt_in ends ≡ Some e → is_in e ≡ true
interrupt_in ends e is = brought (eqb (e.attributes % 4) 3) (not (is_missing e)) e (passes is_interrupt_in ends e is)

bulk_in : (ends : List End) (e : End) → find is_bulk_in ends ≡ Some e → is_in e ≡ true
bulk_in ends e is = brought (eqb (e.attributes % 4) 2) (not (is_missing e)) e (passes is_bulk_in ends e is)

-- what a driver needs for a role
abbrev IsAtEnd : ConfigTree → Bool → Need → Type 0
IsAtEnd config comes need = (p : ℕ) × (e : End) × (need.place ≡ Some p) × (slice_get (host_ends config) p ≡ Some e) × (comes ≡ true → is_in e ≡ true)

find_for : (config : ConfigTree) (role : Role) (comes : Bool) (o : Option End) (need : Need) → ((e : End) → o ≡ Some e → comes ≡ true → is_in e ≡ true)
    → need_at role (option_and_then (λ (e : End). place_of config e.address) o) ≡ Some need → IsAtEnd config comes need
find_for config role comes None need in_too is = cc
find_for config role comes (Some e) need in_too is = go (place_of config e.address) refl is
  where
    go : (o : Option ℕ) → place_of config e.address ≡ o → need_at role o ≡ Some need → IsAtEnd config comes need
    go None at is = cc
    go (Some p) at is =
        let same : record { role = role; place = Some p } ≡ need = cc in
        let found = position-Some (λ (f : End). eqb f.address e.address) (host_ends config) p e at in
        let end = get_or (host_ends config) p e in (
          p,
          end,
          sym (ap (λ (n : Need). n.place) same),
          slice_get-get_or (host_ends config) p e found.0,
          λ c. ap (λ a. nat_le 128 a) (eqb-true end.address e.address found.1) ∙ in_too e refl c,
        )

module _ (driver : Driver) (config : ConfigTree) (alt : Alt) where
  one_for : (role : Role) (need : Need) → need_for driver config alt role ≡ Some need → IsFor (host_ends config) role need.place
  one_for Ctl need is = let same : record { role = Ctl; place = None } ≡ need = cc in sym (ap (λ (n : Need). n.place) same)
  one_for In need is = find_for config In true (end_for driver config alt In) need (λ e at c. interrupt_in alt.ends e at) is
  one_for Note need is = find_for config Note true (end_for driver config alt Note) need (λ e at c. interrupt_in alt.ends e at) is
  one_for Read0 need is = find_for config Read0 true (end_for driver config alt Read0) need (λ e at c. bulk_in (data_ends driver config alt) e at) is
  one_for Read1 need is = find_for config Read1 true (end_for driver config alt Read1) need (λ e at c. bulk_in (data_ends driver config alt) e at) is
  one_for Write need is = find_for config Write false (end_for driver config alt Write) need (λ e at c. absurd cc) is

  each_for : (roles : List Role) (needs : List Need) → all_of (map (need_for driver config alt) roles) ≡ Some needs → (k : ℕ) (need : Need) → slice_get needs k ≡ Some need
      → (role : Role) × (slice_get roles k ≡ Some role) × IsFor (host_ends config) role need.place
  each_for [] needs is k need at =
      let none : needs ≡ [] = cc in
      let gone : slice_get [] k ≡ Some need = ap (λ (l : List Need). slice_get l k) (sym none) ∙ at in
      cc
  each_for (role ∷ roles) needs is zero need at =
      let parts = all_split (need_for driver config alt role) (all_of (map (need_for driver config alt) roles)) needs is in
      let first : Some parts.0 ≡ Some need = ap (λ (l : List Need). slice_get l 0) (sym parts.4) ∙ at in
      (role, refl, one_for role need (parts.2 ∙ first))
  each_for (role ∷ roles) needs is (suc k) need at =
      let parts = all_split (need_for driver config alt role) (all_of (map (need_for driver config alt) roles)) needs is in
      each_for roles parts.1 parts.3 k need (ap (λ (l : List Need). slice_get l (suc k)) (sym parts.4) ∙ at)

roles_few : (driver : Driver) → (0 < length (roles_of driver)) × (length (roles_of driver) ≤ 5)
roles_few Keyboard = ((omega arith), omega arith)
roles_few Acm = ((omega arith), omega arith)
roles_few Printer = ((omega arith), omega arith)

abbrev IsRoleOf : Driver → List End → ℕ → Option ℕ → Type 0
IsRoleOf driver ends k place = (role : Role) × (slice_get (roles_of driver) k ≡ Some role) × IsFor ends role place

-- a binding that a probe made has an URB for each role of its driver
pub record IsDue (board : BoardValue) (pool : Homes) (rows : List IdRow) (d interface : ℕ) (b : Bound) : Type 0 where
  pub made : IsMade board pool rows d interface b
  pub some : 0 < length made.needs
  pub each : (k : ℕ) (need : Need) → slice_get made.needs k ≡ Some need → IsRoleOf b.driver (host_ends made.attached.config) k need.place

pub is_due : (board : BoardValue) (pool : Homes) (rows : List IdRow) (d interface : ℕ) (b : Bound) → probed board pool rows d interface ≡ Ok b → IsDue board pool rows d interface b
is_due board pool rows d interface b is =
    let plan = plan_of board pool rows d interface b is in
    let says = planned_says board (spare_in pool) rows d interface plan.0 plan.1 in
    let driver = says.row.driver in
    let config = says.attached.config in
    let same : b ≡ bound_by pool d interface (record { driver = driver; other = other_of driver config says.alt; homes = homes_of (slice_index board.firsts d) says.needs }) =
    plan.2 ∙ ap (bound_by pool d interface) says.is in
    let each = each_for driver config says.alt (roles_of driver) says.needs says.nothing_missing in
    let long : length says.needs ≡ length (roles_of driver) =
    sym (length-map says.needs (λ (n : Need). n.role)) ∙ ap (λ (l : List Role). length l) (needs_by_role driver config says.alt says.needs says.nothing_missing) in
    let few = (roles_few driver).1 in
    let some = (roles_few driver).0 in
    let room = says.enough in
    record {
      made = record {
        device = ap (λ (x : Bound). x.device) same;
        face = ap (λ (x : Bound). x.interface) same;
        attached = says.attached;
        at = says.device_there;
        needs = says.needs;
        placed = λ k need near. (let at = each k (get_or says.needs k need) (slice_get-get_or says.needs k need near) in for_place (host_ends config) at.0 (get_or says.needs k need).place at.2);
        count = omega arith;
        room = omega arith;
        urbs = ap (λ (x : Bound). x.urbs) same;
        behind = ap (filled pool) plan.1 ∙ (λ i. all_taken pool (says.is i).homes);
      };
      some = omega arith;
      each = λ k need at. subst (λ (x : Driver). IsRoleOf x (host_ends config) k need.place) (sym (ap (λ (x : Bound). x.driver) same)) (each k need at);
    }
