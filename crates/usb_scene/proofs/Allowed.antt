-- What holds where there is no cause against a statement.
use Rattle.std.proofs.Common.{◌≡◌, ℕ, ◌<◌, ◌≤◌, Bool, true, false, cond, List, length, Option, Some, None, refl, sym, ap, subst, arith}
use Rattle.std.specs.Prelude.{not, position, unwrap_or, is_some, nat_lt, slice_get}
use Rattle.std.specs.Option.{option_map}
use Rattle.std.specs.List.{position_or_len}
use Rattle.std.specs.Str.{bytes_eq}
use Rattle.std.proofs.lemmas.Bool.{ltb-true, leb-true, not-true}
use Rattle.usb_types.specs.declared.urb.Role.{Role}
use Rattle.usb_scene.specs.declared.scene.Scene.{Scene}
use Rattle.usb_scene.specs.declared.scene.SceneDevice.{SceneDevice}
use Rattle.usb_scene.specs.declared.scene.SceneUrb.{SceneUrb}
use Rattle.usb_scene.specs.declared.scene.Target.TheVariants as target
use Rattle.usb_statement.specs.declared.statement.Statement.{Statement}
use Rattle.usb_statement.specs.declared.urb_name.UrbName.{UrbName}
use Rattle.usb_statement.specs.declared.urb_name.UrbName.TheVariants.{Scripted, Driver}
use Rattle.usb_scene.specs.declared.cause.Cause.{Cause}
use Rattle.usb_scene.specs.declared.cause.Cause.TheVariants as cause
use Rattle.usb_scene.specs.WellFormed.{is_raw, HasDrivers, IsBuilt}
use Rattle.usb_scene.specs.Rules.{SoFar, is_of, is_classed, numbered_device, device_number, urb_number, named_urb, driven_number, named_target, urb_target, interface_target, is_low, fits_device, names_stand, is_new, is_within, holds_reject, may_call, statement_cause}

pub record IsAllowed (s : SoFar) (said : Statement) : Type 0 where
  pub fits : fits_device s.scene said ≡ true
  pub named : names_stand s.scene said ≡ true
  pub new : is_new s said ≡ true
  pub within : is_within s.scene said ≡ true
  pub held : holds_reject s.scene said ≡ true
  pub hub : may_call s.scene said ≡ true

passed : (t : Bool) (c : Cause) (rest : Option Cause) → cond (not t) (Some c) rest ≡ None → (t ≡ true) × (rest ≡ None)
passed true c rest h = (refl, h)
passed false c rest h = cc

pub allowed_said : (s : SoFar) (said : Statement) → statement_cause s said ≡ None → IsAllowed s said
allowed_said s said h =
    let a = passed (fits_device s.scene said) cause.Form _ h in
    let b = passed (names_stand s.scene said) cause.Name _ a.1 in
    let c = passed (is_new s said) cause.Twice _ b.1 in
    let d = passed (is_within s.scene said) cause.Limit _ c.1 in
    let e = passed (holds_reject s.scene said) cause.Held _ d.1 in
    let f = passed (may_call s.scene said) cause.HubOnly None e.1 in
    record { fits = a.0; named = b.0; new = c.0; within = d.0; held = e.0; hub = f.0 }

within_if : (t : Bool) (i n : ℕ) → nat_lt i n ≡ t → is_some (cond t (Some i) None) ≡ true → unwrap_or (cond t (Some i) None) 0 < n
within_if true i n e h = ltb-true i n e
within_if false i n e h = cc

-- the number of a name that is declared
pub position_within : {X : Type 0} (p : X → Bool) (xs : List X) → is_some (position p xs) ≡ true → unwrap_or (position p xs) 0 < length xs
position_within p xs h = within_if (nat_lt (position_or_len p xs) (length xs)) (position_or_len p xs) (length xs) refl h

found : (o : Option ℕ) (n : ℕ) → is_some o ≡ true → unwrap_or o 0 < n
    → (v : ℕ) × (v < n) × (unwrap_or (option_map (λ u. target.Urb u) o) target.Nothing ≡ target.Urb v)
found None n h low = cc
found (Some v) n h low = (v, low, refl)

-- a scripted URB that a line names is there
pub urb_found : (s : Scene) (urb : UrbName) → is_some (named_urb s urb) ≡ true → (v : ℕ) × (v < length s.urbs) × (urb_target s urb ≡ target.Urb v)
urb_found s (Scripted name) h =
    let p : SceneUrb → Bool = λ (u : SceneUrb). bytes_eq u.name name in found (position p s.urbs) (length s.urbs) h (position_within p s.urbs h)
urb_found s (Driver device number role) h = cc

some_mapped : {A B : Type 0} (f : A → B) (o : Option A) → is_some (option_map f o) ≡ true → is_some o ≡ true
some_mapped f None h = cc
some_mapped f (Some x) h = refl

drivers_of : (o : Option SceneDevice) → is_of is_classed o ≡ true → HasDrivers o
drivers_of None h = cc
drivers_of (Some device) h = not-true (is_raw device.script.kind) h

-- a call on the URB of a driver
driven : (s : Scene) (code number : ℕ) (r : Role) (o : Option ℕ) → 2 ≤ code → code ≤ 7 → number ≤ 255
    → is_some (option_map (λ d. target.Role d number r) (cond (is_of is_classed (numbered_device s o)) o None)) ≡ true
    → IsBuilt s code (unwrap_or (option_map (λ d. target.Role d number r) (cond (is_of is_classed (numbered_device s o)) o None)) target.Nothing)
driven s code number r None some most low h = cc
driven s code number r (Some d) some most low h = go (is_of is_classed (slice_get s.devices d)) refl h
  where
    go : (t : Bool) → is_of is_classed (slice_get s.devices d) ≡ t → is_some (option_map (λ d. target.Role d number r) (cond t (Some d) None)) ≡ true
        → IsBuilt s code (unwrap_or (option_map (λ d. target.Role d number r) (cond t (Some d) None)) target.Nothing)
    go true e h = (some, most, low, drivers_of (slice_get s.devices d) e)
    go false e h = cc

-- a call on an URB alone
pub called_built : (s : Scene) (code : ℕ) (urb : UrbName) → 2 ≤ code → code ≤ 7 → is_some (named_target s urb) ≡ true → is_low urb ≡ true
    → IsBuilt s code (urb_target s urb)
called_built s code (Scripted name) some most h low =
    let p = urb_found s (Scripted name) (some_mapped (λ u. target.Urb u) (urb_number s name) h) in
    subst (IsBuilt s code) (sym p.2) (omega arith, most, p.1)
called_built s code (Driver device number r) some most h low =
    driven s code number r (device_number s device) some most (leb-true number 255 low) h

-- a device where drivers have URBs
driven_device : (s : Scene) (o : Option ℕ) → is_some (cond (is_of is_classed (numbered_device s o)) o None) ≡ true
    → (d : ℕ) × (cond (is_of is_classed (numbered_device s o)) o None ≡ Some d) × HasDrivers (slice_get s.devices d)
driven_device s None h = cc
driven_device s (Some d) h = go (is_of is_classed (slice_get s.devices d)) refl h
  where
    go : (t : Bool) → is_of is_classed (slice_get s.devices d) ≡ t → is_some (cond t (Some d) None) ≡ true
        → (e : ℕ) × (cond t (Some d) None ≡ Some e) × HasDrivers (slice_get s.devices e)
    go true e h = (d, refl, drivers_of (slice_get s.devices d) e)
    go false e h = cc

-- a call on an interface
pub interface_built : (s : Scene) (code : ℕ) (device : List ℕ) (interface : ℕ) → 23 ≤ code → code ≤ 30 → interface ≤ 255 → is_some (driven_number s device) ≡ true
    → IsBuilt s code (interface_target s device interface)
interface_built s code device interface some most low h =
    let d = driven_device s (device_number s device) h in
    subst (IsBuilt s code) (sym (ap (λ o. unwrap_or (option_map (λ n. target.Interface n interface) o) target.Nothing) d.1)) (some, most, low, d.2)
