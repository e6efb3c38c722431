-- What holds of the endpoints and URBs of a well-formed scene, and of its devices before the run. The crates above this
-- one use these facts alone.
use Rattle.std.proofs.Common.{ℕ, zero, suc, ◌≡◌, ◌≢◌, ◌+◌, ◌<◌, ◌≤◌, ◌^◌, ⊎_elim, Bool, true, false, ◌&&◌, cond, eqb, Option, Some, None, List, [], ◌∷◌, ◌++◌, length, get_or, map, refl, sym, ap, ◌∙◌, subst, arith, length-append, add-zero, zero-add}
use Rattle.std.specs.Prelude.{slice_index_or, slice_get, find, option_and_then, option_map}
use Rattle.std.specs.List.{All}
use Rattle.std.specs.Option.{option_flatten}
use Rattle.std.proofs.lemmas.Option.{slice_get-get_or, slice_get_within, slice_get-map, get_or_from_slice_get}
use Rattle.std.proofs.lemmas.Bool.{and_parts, eqb-true}
use Rattle.std.proofs.lemmas.List.{length-map}
use Rattle.std.proofs.lemmas.List.Quantifiers.{position-Some}
use Rattle.usb_types.specs.declared.urb.Role.{Role}
use Rattle.usb_types.specs.declared.urb.Role.TheVariants.{In, Note, Read0, Read1, Write, Ctl}
use Rattle.usb_types.specs.declared.urb.UrbId.{UrbId}
use Rattle.usb_machine.specs.declared.layout.EndKind.TheVariants.{Control}
use Rattle.usb_machine.specs.declared.layout.Shape.{Shape}
use Rattle.usb_machine.specs.History.{or_zero}
use Rattle.usb_machine.specs.Queues.{HomeIsBelow}
use Rattle.usb_machine.specs.Plain.{IsLayout}
use Rattle.usb_desc.specs.declared.tree.End.{End}
use Rattle.usb_ctrl.specs.declared.enumerator.Attached.{Attached}
use Rattle.usb_xfer.specs.Direction.{goes_in, asked_at}
use Rattle.usb_device.specs.Device.{Call, questions_at}
use Rattle.usb_device.specs.Laws.{NoneHalts}
use Rattle.usb_bind.specs.declared.row.Driver.{Driver}
use Rattle.usb_bind.specs.declared.row.Driver.TheVariants.{Keyboard, Acm, Printer}
use Rattle.usb_bind.specs.declared.bound.Bound.{Bound}
use Rattle.usb_bind.specs.Interfaces.{host_ends, shape_of_end}
use Rattle.usb_bind.specs.Needs.{is_in, roles_of}
use Rattle.usb_bind.specs.Board.{is_binding_of, urb_by, urb_of_role}
use Rattle.usb_scene.specs.declared.scene.Scene.{Scene}
use Rattle.usb_scene.specs.declared.scene.SceneDevice.{SceneDevice}
use Rattle.usb_scene.specs.declared.scene.SceneUrb.{SceneUrb}
use Rattle.usb_scene.specs.WellFormed.{HasEnd, IsUrb, IsWellFormed}
use Rattle.usb_prepare.specs.Ends.{attached_as, control_of, control_end, control_size, other_ends, device_ends, shapes_of, ends_of, first_end, is_at, home_at, or_control, shape_at, raw_in, is_raw_at}
use Rattle.usb_prepare.specs.Prepared.{probes_of, bindings_of, ids_of}
use Rattle.usb_prepare.specs.Layout.{homes_of, layout_of, urb_count, home, urb_in, role_urb}
use Rattle.usb_prepare.proofs.Numbering as numbering
use Rattle.usb_prepare.proofs.Numbering.{devices_at}
use Rattle.usb_prepare.proofs.Apart.{AreApart, shapes_apart, shapes_between, stands_after}
use Rattle.usb_prepare.proofs.Homed.{homes_at}
use Rattle.usb_prepare.proofs.Asked.{asked_at_home}
use Rattle.usb_prepare.proofs.Pooled.{up_to_out}
use Rattle.usb_prepare.proofs.Lists.{in_either, in_front}
use Rattle.usb_prepare.proofs.Host.{host_apart}
pub use Rattle.usb_prepare.proofs.Needed.{brings}
use Rattle.usb_prepare.proofs.Needed.{IsFor}
use Rattle.usb_prepare.proofs.Boarded.{own_homes, behind_first, HasHome, IsBoarded, boarded}
use Rattle.usb_prepare.proofs.Ids.{attached_not_raw, told}
use Rattle.usb_prepare.proofs.Bare.{bare_elsewhere, bare_halts}
use Rattle.usb_prepare.proofs.Whole.{heard_bare}
use Rattle.usb_bind.specs.Pool.{up_to_last}

-- an endpoint that is there has its shape
pub end_shape : (s : Scene) (e : ℕ) → e < ends_of s → slice_get (shapes_of s) e ≡ Some (shape_at s e)
end_shape s e near = let is = slice_get-get_or (shapes_of s) e (control_end 0) near in is ∙ ap Some (sym (ap or_control is))

-- what is found is one of the list, and passes the test
found_in : {X : Type 0} (p : X → Bool) (xs : List X) (x : X) → find p xs ≡ Some x → (i : ℕ) × (slice_get xs i ≡ Some x) × (p x ≡ true)
found_in p [] x is = cc
found_in p (y ∷ xs) x is = go (p y) refl is (found_in p xs x)
  where
    go : (b : Bool) → p y ≡ b → cond b (Some y) (find p xs) ≡ Some x → (find p xs ≡ Some x → (i : ℕ) × (slice_get xs i ≡ Some x) × (p x ≡ true)) → (i : ℕ) × (slice_get (y ∷ xs) i ≡ Some x) × (p x ≡ true)
    go true e f rest = let same : y ≡ x = cc in (0, ap Some same, subst (λ z. p z ≡ true) same e)
    go false e f rest = let r = rest f in (suc r.0, r.1, r.2)

-- the role that a driver's slot has
role_at : Driver → ℕ → Role
role_at Keyboard zero = In
role_at Keyboard (suc k) = Ctl
role_at Acm zero = Note
role_at Acm (suc zero) = Read0
role_at Acm (suc (suc zero)) = Read1
role_at Acm (suc (suc (suc zero))) = Write
role_at Acm (suc (suc (suc (suc k)))) = Ctl
role_at Printer zero = Write
role_at Printer (suc k) = Ctl

-- and that its driver lists there
named : (driver : Driver) (k : ℕ) (role : Role) → slice_get (roles_of driver) k ≡ Some role → role_at driver k ≡ role
unfolding role_at
named Keyboard zero role at = cc
named Keyboard (suc zero) role at = cc
named Keyboard (suc (suc k)) role at = cc
named Acm zero role at = cc
named Acm (suc zero) role at = cc
named Acm (suc (suc zero)) role at = cc
named Acm (suc (suc (suc zero))) role at = cc
named Acm (suc (suc (suc (suc zero)))) role at = cc
named Acm (suc (suc (suc (suc (suc k))))) role at = cc
named Printer zero role at = cc
named Printer (suc zero) role at = cc
named Printer (suc (suc k)) role at = cc

-- the slot of a driver's control URB, which is its last
ctl_slot : Driver → ℕ
ctl_slot Keyboard = 1
ctl_slot Acm = 4
ctl_slot Printer = 1

ctl_last : (driver : Driver) (l : ℕ) → role_at driver l ≡ Ctl → ctl_slot driver ≤ l
unfolding role_at ctl_slot
ctl_last Keyboard zero is = cc
ctl_last Keyboard (suc l) is = omega arith
ctl_last Acm zero is = cc
ctl_last Acm (suc zero) is = cc
ctl_last Acm (suc (suc zero)) is = cc
ctl_last Acm (suc (suc (suc zero))) is = cc
ctl_last Acm (suc (suc (suc (suc l)))) is = omega arith
ctl_last Printer zero is = cc
ctl_last Printer (suc l) is = omega arith

write_before : (driver : Driver) (k : ℕ) → role_at driver k ≡ Write → k < ctl_slot driver
unfolding role_at ctl_slot
write_before Keyboard zero is = cc
write_before Keyboard (suc k) is = cc
write_before Acm zero is = cc
write_before Acm (suc zero) is = cc
write_before Acm (suc (suc zero)) is = cc
write_before Acm (suc (suc (suc zero))) is = omega arith
write_before Acm (suc (suc (suc (suc k)))) is = cc
write_before Printer zero is = omega arith
write_before Printer (suc k) is = cc

IsSlot : Driver → Bound → Role → UrbId → Type 0
IsSlot driver b role u = (k : ℕ) × (slice_get b.urbs k ≡ Some (Some u)) × (role_at driver k ≡ role)

-- the slot of a role
flat : (o : Option (Option UrbId)) (u : UrbId) → option_flatten o ≡ Some u → o ≡ Some (Some u)
flat None u is = cc
flat (Some None) u is = cc
flat (Some (Some v)) u is = ap (λ o. Some o) is

keyboard_slot : (b : Bound) (role : Role) (u : UrbId) → urb_by Keyboard b role ≡ Some u → IsSlot Keyboard b role u
unfolding IsSlot role_at
keyboard_slot b In u is = (0, flat (slice_get b.urbs 0) u is, refl)
keyboard_slot b Ctl u is = (1, flat (slice_get b.urbs 1) u is, refl)
keyboard_slot b Note u is = cc
keyboard_slot b Read0 u is = cc
keyboard_slot b Read1 u is = cc
keyboard_slot b Write u is = cc

acm_slot : (b : Bound) (role : Role) (u : UrbId) → urb_by Acm b role ≡ Some u → IsSlot Acm b role u
unfolding IsSlot role_at
acm_slot b In u is = cc
acm_slot b Note u is = (0, flat (slice_get b.urbs 0) u is, refl)
acm_slot b Read0 u is = (1, flat (slice_get b.urbs 1) u is, refl)
acm_slot b Read1 u is = (2, flat (slice_get b.urbs 2) u is, refl)
acm_slot b Write u is = (3, flat (slice_get b.urbs 3) u is, refl)
acm_slot b Ctl u is = (4, flat (slice_get b.urbs 4) u is, refl)

printer_slot : (b : Bound) (role : Role) (u : UrbId) → urb_by Printer b role ≡ Some u → IsSlot Printer b role u
unfolding IsSlot role_at
printer_slot b In u is = cc
printer_slot b Note u is = cc
printer_slot b Read0 u is = cc
printer_slot b Read1 u is = cc
printer_slot b Write u is = (0, flat (slice_get b.urbs 0) u is, refl)
printer_slot b Ctl u is = (1, flat (slice_get b.urbs 1) u is, refl)

by_driver : (driver : Driver) (b : Bound) (role : Role) (u : UrbId) → urb_by driver b role ≡ Some u → IsSlot driver b role u
by_driver Keyboard b role u is = keyboard_slot b role u is
by_driver Acm b role u is = acm_slot b role u is
by_driver Printer b role u is = printer_slot b role u is

-- the binding and the slot that have the URB of a role
record IsRole (bindings : List Bound) (d interface u : ℕ) (role : Role) : Type 0 where
  pub place : ℕ
  pub slot : ℕ
  pub binding : Bound
  pub at : slice_get bindings place ≡ Some binding
  pub urb : slice_get binding.urbs slot ≡ Some (Some record { 0 = u })
  pub device : binding.device ≡ d
  pub face : binding.interface ≡ interface
  pub purpose : role_at binding.driver slot ≡ role

of_role : (bindings : List Bound) (d interface u : ℕ) (role : Role) → urb_in bindings d interface role ≡ Some u → IsRole bindings d interface u role
unfolding IsSlot
of_role bindings d interface u role is = go (find (is_binding_of d interface) bindings) refl is
  where
    with_urb : (b : Bound) → find (is_binding_of d interface) bindings ≡ Some b → (o : Option UrbId) → urb_of_role b role ≡ o → option_map (λ (v : UrbId). v.0) o ≡ Some u → IsRole bindings d interface u role
    with_urb b f None e is = cc
    with_urb b f (Some v) e is =
        let number : v.0 ≡ u = cc in
        let same : v ≡ record { 0 = u } = ap (λ n. record { 0 = n }) number in
        let slot = by_driver b.driver b role v e in
        let at = found_in (is_binding_of d interface) bindings b f in
        let each = and_parts (eqb b.device d) (eqb b.interface interface) at.2 in
        record {
          place = at.0;
          slot = slot.0;
          binding = b;
          at = at.1;
          urb = slot.1 ∙ ap (λ x. Some (Some x)) same;
          device = eqb-true b.device d each.0;
          face = eqb-true b.interface interface each.1;
          purpose = slot.2;
        }

    go : (o : Option Bound) → find (is_binding_of d interface) bindings ≡ o → option_map (λ (v : UrbId). v.0) (option_and_then (λ b. urb_of_role b role) o) ≡ Some u → IsRole bindings d interface u role
    go None f is = cc
    go (Some b) f is = with_urb b f (urb_of_role b role) refl is

-- the place of a role that isn't for control transfers
other_place : (ends : List End) (role : Role) (place : Option ℕ) → role ≢ Ctl → IsFor ends role place
    → (p : ℕ) × (e : End) × (place ≡ Some p) × (slice_get ends p ≡ Some e) × (brings role ≡ true → is_in e ≡ true)
other_place ends Ctl place off is = absurd (off refl)
other_place ends In place off is = is
other_place ends Note place off is = is
other_place ends Read0 place off is = is
other_place ends Read1 place off is = is
other_place ends Write place off is = is

-- a device that is enumerated has endpoint 00 and those of its configuration
first_of : (d : ℕ) (device : SceneDevice) → slice_get (device_ends d device) 0 ≡ Some (control_of d (control_size (attached_as d device)))
unfolding device_ends
first_of d device = refl

other_end : (d p : ℕ) (device : SceneDevice) (a : Attached) (e : End) → attached_as d device ≡ Some a → slice_get (host_ends a.config) p ≡ Some e → slice_get (device_ends d device) (suc p) ≡ Some (shape_of_end d e)
unfolding device_ends
other_end d p device a e is at =
    ap (λ o. slice_get (other_ends d device.script.ends o) p) is ∙ (slice_get-map (shape_of_end d) (host_ends a.config) p ∙ ap (option_map (shape_of_end d)) at)

below_all : (top : ℕ) (hs : List ℕ) → ((k h : ℕ) → slice_get hs k ≡ Some h → h < top) → All (HomeIsBelow top) (map Some hs)
below_all top [] low k d l = absurd (omega arith)
below_all top (h ∷ hs) low zero d l = low 0 h refl
below_all top (h ∷ hs) low (suc k) d l = below_all top hs (λ j g at. low (suc j) g at) k d (omega arith)

module _ (s : Scene) (good : IsWellFormed s) where
  known : IsBoarded s (probes_of s).board (probes_of s).pool
  known = boarded s good

  abbrev out : List ℕ
  out = own_homes s ++ known.drivers

  own_long : length (own_homes s) ≡ length s.urbs
  own_long = length-map s.urbs (λ (u : SceneUrb). or_zero (home_at s u))

  out_long : length out ≡ length s.urbs + length known.drivers
  out_long = let sum = length-append (own_homes s) known.drivers in let own = own_long in omega arith

  homes_are : homes_of s ≡ map Some out
  unfolding homes_of
  homes_are = ap up_to_last known.out ∙ up_to_out out known.more

  count_is : urb_count s ≡ length s.urbs + length known.drivers
  count_is = ap (λ (l : List (Option ℕ)). length l) homes_are ∙ (length-map out Some ∙ out_long)

  -- how many endpoints and URBs there are
  pub few_ends : ends_of s < 2 ^ 31
  unfolding shapes_of
  few_ends = let few = numbering.few_ends s good in omega arith

  pub own_urbs : length s.urbs ≤ urb_count s
  own_urbs = let count = count_is in omega arith

  pub few_urbs : urb_count s ≤ 256
  few_urbs = let count = count_is in let all = known.all in omega arith

  -- the homes of the scene's own URBs
  own_low : (us : List SceneUrb) → All (IsUrb s) us → (k h : ℕ) → slice_get (map (λ (u : SceneUrb). or_zero (home_at s u)) us) k ≡ Some h → h < ends_of s
  own_low [] all k h at = cc
  own_low (u ∷ us) all zero h at =
      let home = homes_at s good (u ∷ us) all 0 (omega arith) in
      let is : or_zero (home_at s u) ≡ home.0 = ap or_zero home.1 in
      let same : or_zero (home_at s u) ≡ h = cc in
      let low = home.2 in
      omega arith
  own_low (u ∷ us) all (suc k) h at = own_low us (λ j d l. all (suc j) d (omega arith)) k h at

  low : (k h : ℕ) → slice_get out k ≡ Some h → h < ends_of s
  low k h at = ⊎_elim (λ (l : slice_get (own_homes s) k ≡ Some h). own_low s.urbs good.urbs k h l)
      (λ (r : (j : ℕ) × (k ≡ length (own_homes s) + j) × (slice_get known.drivers j ≡ Some h)). known.low r.0 h r.2)
      (in_either (own_homes s) known.drivers k h at)

  -- the layout is one that a machine may have
  pub layout_fits : IsLayout (layout_of s)
  layout_fits = let few = few_urbs in record { urbs = omega arith; ends = few_ends; homes = subst (All (HomeIsBelow (ends_of s))) (sym homes_are) (below_all (ends_of s) out low) }

  -- each URB has a home
  some_home : (u : ℕ) → u < urb_count s → (e : ℕ) × (slice_index_or {A = Option ℕ} (homes_of s) u None ≡ Some e) × (e < ends_of s)
  some_home u near =
      let count = count_is in
      let long = out_long in
      let at = slice_get-get_or out u 0 (omega arith) in (
        get_or out u 0,
        ap (λ (l : List (Option ℕ)). slice_index_or {A = Option ℕ} l u None) homes_are ∙ get_or_from_slice_get (map Some out) u (Some (get_or out u 0)) None (slice_get-map Some out u ∙ ap (option_map Some) at),
        low u (get_or out u 0) at,
      )

  pub has_home : (u : ℕ) → u < urb_count s → slice_index_or {A = Option ℕ} (homes_of s) u None ≡ Some (home s u)
  has_home u near = let at = some_home u near in at.1 ∙ ap Some (sym (ap or_zero at.1))

  pub home_near : (u : ℕ) → u < urb_count s → home s u < ends_of s
  home_near u near = let at = some_home u near in subst (λ (e : ℕ). e < ends_of s) (sym (ap or_zero at.1)) at.2

  -- the home of an URB that is out
  out_home : (u h : ℕ) → slice_get out u ≡ Some h → home s u ≡ h
  out_home u h at =
      ap or_zero (ap (λ (l : List (Option ℕ)). slice_index_or {A = Option ℕ} l u None) homes_are ∙ get_or_from_slice_get (map Some out) u (Some h) None (slice_get-map Some out u ∙ ap (option_map Some) at))

  -- the home of one of the scene's own URBs has the URB's device and address
  own_place : (us : List SceneUrb) → All (IsUrb s) us → (u : ℕ) (urb : SceneUrb) → slice_get us u ≡ Some urb → home_at s urb ≡ Some (or_zero (home_at s urb))
  own_place [] all u urb at = cc
  own_place (x ∷ us) all zero urb at =
      let home = homes_at s good (x ∷ us) all 0 (omega arith) in
      let same : x ≡ urb = cc in
      let is : home_at s x ≡ Some (or_zero (home_at s x)) = home.1 ∙ ap Some (sym (ap or_zero home.1)) in
      subst (λ (y : SceneUrb). home_at s y ≡ Some (or_zero (home_at s y))) same is
  own_place (x ∷ us) all (suc u) urb at = own_place us (λ j d l. all (suc j) d (omega arith)) u urb at

  own_home : (u : ℕ) (urb : SceneUrb) → slice_get s.urbs u ≡ Some urb → home_at s urb ≡ Some (home s u)
  own_home u urb at =
      let front = in_front (own_homes s) known.drivers u (or_zero (home_at s urb)) (slice_get-map (λ (u : SceneUrb). or_zero (home_at s u)) s.urbs u ∙ ap (option_map (λ (u : SceneUrb). or_zero (home_at s u))) at) in
      own_place s.urbs good.urbs u urb at ∙ ap Some (sym (out_home u (or_zero (home_at s urb)) front))

  module _ (u : ℕ) (urb : SceneUrb) (at : slice_get s.urbs u ≡ Some urb) where
    found : (home s u < ends_of s) × ((shape_at s (home s u)).device ≡ urb.device) × ((shape_at s (home s u)).address ≡ urb.address)
    found =
        let place = position-Some (is_at urb.device urb.address) (shapes_of s) (home s u) (control_end 0) (own_home u urb at) in
        let is : get_or (shapes_of s) (home s u) (control_end 0) ≡ shape_at s (home s u) = get_or_from_slice_get (shapes_of s) (home s u) (shape_at s (home s u)) (control_end 0) (end_shape s (home s u) place.0) in
        let both : (eqb (shape_at s (home s u)).device urb.device && eqb (shape_at s (home s u)).address urb.address) ≡ true = ap (is_at urb.device urb.address) (sym is) ∙ place.1 in
        let each = and_parts (eqb (shape_at s (home s u)).device urb.device) (eqb (shape_at s (home s u)).address urb.address) both in
        (place.0, eqb-true (shape_at s (home s u)).device urb.device each.0, eqb-true (shape_at s (home s u)).address urb.address each.1)

    is_urb : IsUrb s urb
    is_urb = subst (IsUrb s) (get_or_from_slice_get s.urbs u urb urb at) (good.urbs u urb (slice_get_within s.urbs u urb at))

    pub scripted_home : ((shape_at s (home s u)).device ≡ urb.device) × ((shape_at s (home s u)).address ≡ urb.address)
    scripted_home = (found.1, found.2)

    -- and that device is raw
    pub scripted_raw : is_raw_at s (shape_at s (home s u)).device ≡ true
    scripted_raw = ap (is_raw_at s) found.1 ∙ go (slice_get s.devices urb.device) is_urb.home
      where
        go : (o : Option SceneDevice) → HasEnd urb.address o → raw_in o ≡ true
        go None has = absurd has
        go (Some device) has = has.0

  -- endpoints of one device have addresses of their own
  all_apart : AreApart (shapes_of s)
  unfolding shapes_of
  all_apart = shapes_apart 0 s.devices (devices_at s good)

  pub ends_apart : (a b : ℕ) → a < ends_of s → b < ends_of s → (shape_at s a).device ≡ (shape_at s b).device → (shape_at s a).address ≡ (shape_at s b).address → a ≡ b
  ends_apart a b l m d e = all_apart a b (shape_at s a) (shape_at s b) (end_shape s a l) (end_shape s b m) d e

  -- the device of an endpoint is there
  device_of : (e : ℕ) (shape : Shape) → slice_get (shapes_of s) e ≡ Some shape → shape.device < length s.devices
  unfolding shapes_of
  device_of e shape at = let l = (shapes_between 0 s.devices (devices_at s good) e shape at).1 in omega arith

  pub end_device : (e : ℕ) → e < ends_of s → (shape_at s e).device < length s.devices
  end_device e near = device_of e (shape_at s e) (end_shape s e near)

  -- an endpoint of a raw device is asked at its address
  pub raw_asked : (e : ℕ) → is_raw_at s (shape_at s e).device ≡ true → asked_at (shape_at s e) ≡ (shape_at s e).address
  raw_asked e raw = asked_at_home s good e raw

  -- the URBs of drivers come after the scene's own, and no two roles have one
  is_role : (d interface u : ℕ) (role : Role) → role_urb s d interface role ≡ Some u → IsRole (bindings_of s) d interface u role
  unfolding role_urb
  is_role d interface u role e = of_role (bindings_of s) d interface u role e

  pub role_near : (device interface u : ℕ) (role : Role) → role_urb s device interface role ≡ Some u → (length s.urbs ≤ u) × (u < urb_count s)
  role_near device interface u role e =
      let r = is_role device interface u role e in
      let is = known.urbs r.place r.slot record { 0 = u } (r.binding, r.at, r.urb) in
      let count = count_is in let near = is.1 in
      (is.0, omega arith)

  pub role_one : (d i e j u : ℕ) (r q : Role) → role_urb s d i r ≡ Some u → role_urb s e j q ≡ Some u → (d ≡ e) × (i ≡ j) × (r ≡ q)
  role_one d i e j u r q a b =
      let x = is_role d i u r a in
      let y = is_role e j u q b in
      let one = known.once x.place y.place x.slot y.slot record { 0 = u } (x.binding, x.at, x.urb) (y.binding, y.at, y.urb) in
      let same : x.binding ≡ y.binding = one_of (sym x.at ∙ (ap (slice_get (bindings_of s)) one.0 ∙ y.at)) in (
        sym x.device ∙ (ap (λ (z : Bound). z.device) same ∙ y.device),
        sym x.face ∙ (ap (λ (z : Bound). z.interface) same ∙ y.face),
        sym x.purpose ∙ ((λ k. role_at (same k).driver (one.1 k)) ∙ y.purpose),
      )
    where
      one_of : {v w : Bound} → ◌≡◌ {A = Option Bound} (Some v) (Some w) → v ≡ w
      one_of p = cc

  -- no two purposes of bindings have one URB
  pub urb_once : (i j : ℕ) (b c : Bound) (r q : Role) (u : UrbId) → slice_get (bindings_of s) i ≡ Some b → slice_get (bindings_of s) j ≡ Some c
      → urb_of_role b r ≡ Some u → urb_of_role c q ≡ Some u → (i ≡ j) × (r ≡ q)
  unfolding IsSlot
  urb_once i j b c r q u at there has too =
      let x = by_driver b.driver b r u has in
      let y = by_driver c.driver c q u too in
      let one = known.once i j x.0 y.0 u (b, at, x.1) (c, there, y.1) in
      let same : b ≡ c = one_of (sym at ∙ (ap (slice_get (bindings_of s)) one.0 ∙ there)) in
      (one.0, sym x.2 ∙ ((λ k. role_at (same k).driver (one.1 k)) ∙ y.2))
    where
      one_of : {v w : Bound} → ◌≡◌ {A = Option Bound} (Some v) (Some w) → v ≡ w
      one_of p = cc

  -- a binding writes with an URB of a lower number than its control URB has
  pub bound_rises : (i : ℕ) (b : Bound) (u v : UrbId) → slice_get (bindings_of s) i ≡ Some b → urb_of_role b Write ≡ Some u → urb_of_role b Ctl ≡ Some v → u.0 < v.0
  unfolding IsSlot
  bound_rises i b u v at writes asks =
      let x = by_driver b.driver b Write u writes in
      let y = by_driver b.driver b Ctl v asks in
      let early = write_before b.driver x.0 x.2 in
      let late = ctl_last b.driver y.0 y.2 in
      known.rise i x.0 y.0 u v (b, at, x.1) (b, at, y.1) (omega arith)

  -- a binding's URBs come after the scene's own
  pub bound_near : (i : ℕ) (b : Bound) (role : Role) (u : UrbId) → slice_get (bindings_of s) i ≡ Some b → urb_of_role b role ≡ Some u → (length s.urbs ≤ u.0) × (u.0 < urb_count s)
  unfolding IsSlot
  bound_near i b role u at has =
      let slot = by_driver b.driver b role u has in
      let is = known.urbs i slot.0 u (b, at, slot.1) in
      let count = count_is in let near = is.1 in
      (is.0, omega arith)

  -- each has one or more of the 256
  pub bindings_few : length (bindings_of s) ≤ 256
  bindings_few = let count = known.count in let all = known.all in omega arith

  -- each was given an id, of at most the 1,023 bytes that are asked for
  pub ids_few : length (ids_of s) ≡ length (bindings_of s)
  ids_few = (told s good).count

  pub ids_short : All (λ (id : List ℕ). length id ≤ 1023) (ids_of s)
  ids_short = (told s good).short

  -- the k-th endpoint of a device
  kth_end : (d k : ℕ) (device : SceneDevice) (x : Shape) → slice_get s.devices d ≡ Some device → slice_get (device_ends d device) k ≡ Some x → shape_at s (first_end s.devices d + k) ≡ x
  unfolding shapes_of
  kth_end d k device x at is = ap or_control (stands_after 0 d s.devices device k x at (ap (λ n. slice_get (device_ends n device) k) (zero-add d) ∙ is))

  module _ (i : ℕ) (b : Bound) (role : Role) (u : UrbId) (at : slice_get (bindings_of s) i ≡ Some b) (has : urb_of_role b role ≡ Some u) where
    -- the slot of the URB, and its home
    bound_home : (k : ℕ) × (role_at b.driver k ≡ role) × HasHome s out b k u.0
    unfolding IsSlot
    bound_home = let slot = by_driver b.driver b role u has in (slot.0, slot.2, known.homes i slot.0 u (b, at, slot.1))

    is_bound_at : HasHome s out b bound_home.0 u.0
    is_bound_at = bound_home.2

    for_role : IsFor (host_ends is_bound_at.attached.config) role is_bound_at.place
    for_role = subst (λ (r : Role). IsFor (host_ends is_bound_at.attached.config) r is_bound_at.place) (sym (named b.driver bound_home.0 is_bound_at.role is_bound_at.slot) ∙ bound_home.1) is_bound_at.due

    -- a binding's device isn't raw
    pub bound_not_raw : is_raw_at s b.device ≡ false
    bound_not_raw = ap raw_in is_bound_at.at ∙ attached_not_raw b.device is_bound_at.device is_bound_at.attached is_bound_at.is

    -- the home of an URB that isn't for control transfers is an endpoint of the device other than 00
    other_home : role ≢ Ctl → (p : ℕ) × (e : End) × (shape_at s (home s u.0) ≡ shape_of_end b.device e) × (slice_get (host_ends is_bound_at.attached.config) p ≡ Some e) × (brings role ≡ true → is_in e ≡ true)
    other_home off =
        let place = other_place (host_ends is_bound_at.attached.config) role is_bound_at.place off for_role in
        let first = first_end s.devices b.device in
        let next : first + 1 + place.0 ≡ first + suc place.0 = omega arith in
        let home_is : home s u.0 ≡ first + suc place.0 = out_home u.0 (behind_first first is_bound_at.place) is_bound_at.home ∙ (ap (behind_first first) place.2 ∙ next) in
        let shape : shape_at s (home s u.0) ≡ shape_of_end b.device place.1 = ap (shape_at s) home_is ∙ kth_end b.device (suc place.0) is_bound_at.device (shape_of_end b.device place.1) is_bound_at.at
        (other_end b.device place.0 is_bound_at.device is_bound_at.attached place.1 is_bound_at.is place.3) in
        (place.0, place.1, shape, place.3, place.4)

    pub bound_home_other : role ≢ Ctl → ((shape_at s (home s u.0)).device ≡ b.device) × ((shape_at s (home s u.0)).address ≢ 0)
    bound_home_other off =
        let home = other_home off in
        let some = (host_apart is_bound_at.attached.config).some home.0 home.1 home.3 in
        let address = ap (λ (x : Shape). x.address) home.2 in
        (ap (λ (x : Shape). x.device) home.2, λ e. absurd (omega arith))

    -- and where its transfers bring data in, the endpoint is an IN endpoint
    pub bound_home_in : role ≢ Ctl → brings role ≡ true → goes_in (shape_at s (home s u.0)).address ≡ true
    bound_home_in off comes = let home = other_home off in ap (λ (x : Shape). goes_in x.address) home.2 ∙ home.4 comes

  -- and that of one for control transfers is 00
  pub bound_home_ctl : (i : ℕ) (b : Bound) (u : UrbId) → slice_get (bindings_of s) i ≡ Some b → urb_of_role b Ctl ≡ Some u
      → ((shape_at s (home s u.0)).device ≡ b.device) × ((shape_at s (home s u.0)).address ≡ 0) × ((shape_at s (home s u.0)).kind ≡ Control)
  bound_home_ctl i b u at has =
      let is = is_bound_at i b Ctl u at has in
      let place : is.place ≡ None = for_role i b Ctl u at has in
      let first = first_end s.devices b.device in
      let home_is : home s u.0 ≡ first + 0 = out_home u.0 (behind_first first is.place) is.home ∙ (ap (behind_first first) place ∙ sym (add-zero first)) in
      let shape : shape_at s (home s u.0) ≡ control_of b.device (control_size (attached_as b.device is.device)) = ap (shape_at s) home_is ∙ kth_end b.device 0 is.device (control_of b.device (control_size (attached_as b.device is.device))) is.at (first_of b.device is.device) in
      (ap (λ (x : Shape). x.device) shape, ap (λ (x : Shape). x.address) shape, ap (λ (x : Shape). x.kind) shape)

  -- before the run a device was asked at 00 alone, and no endpoint of it halted
  pub unhalted_before : (d : ℕ) (device : SceneDevice) (calls : List Call) → slice_get s.devices d ≡ Some device → slice_get (probes_of s).heard d ≡ Some calls
      → NoneHalts calls × ((address : ℕ) → address ≢ 0 → questions_at address calls ≡ [])
  unhalted_before d device calls at heard =
      let bare = heard_bare s d device calls at heard in
      (bare_halts calls bare, bare_elsewhere calls bare)
