-- The URB that a call on an interface submits.
use Rattle.std.proofs.Common.{ℕ, suc, ◌≡◌, ◌<◌, Bool, true, false, cond, Option, Some, None, List, [], ◌∷◌, refl, ap, ◌∙◌}
use Rattle.std.specs.Prelude.{slice_get, find, option_map, option_and_then}
use Rattle.usb_types.specs.declared.urb.UrbId.{UrbId}
use Rattle.usb_types.specs.declared.urb.Role.{Role}
use Rattle.usb_bind.specs.declared.bound.Bound.{Bound}
use Rattle.usb_bind.specs.Board.{is_binding_of, urb_of_role}
use Rattle.usb_class.specs.InterfaceOps.{role_for, urb_for}
use Rattle.usb_scene.specs.declared.scene.Scene.{Scene}
use Rattle.usb_scene.specs.WellFormed.{IsWellFormed}
use Rattle.usb_scene.specs.declared.operation.Operation.{Operation}
use Rattle.usb_scene.specs.declared.operation.Operation.TheVariants as op
use Rattle.usb_scene.specs.declared.operation.InterfaceOp.{InterfaceOp}
use Rattle.usb_prepare.specs.Prepared.{bindings_of}
use Rattle.usb_prepare.specs.Layout.{urb_count}
use Rattle.usb_prepare.proofs.Facts.{bound_near}
use Rattle.usb_trace.specs.Plan.{called_of, called_urb}

-- what is found stands at a place
found_at : {X : Type 0} (p : X → Bool) (xs : List X) (x : X) → find p xs ≡ Some x → (k : ℕ) × (slice_get xs k ≡ Some x)
found_at p [] x is = cc
found_at p (y ∷ xs) x is = go (p y) is (found_at p xs x)
  where
    go : (b : Bool) → cond b (Some y) (find p xs) ≡ Some x → (find p xs ≡ Some x → (k : ℕ) × (slice_get xs k ≡ Some x)) → (k : ℕ) × (slice_get (y ∷ xs) k ≡ Some x)
    go true e rest = (0, e)
    go false e rest = let r = rest e in (suc r.0, r.1)

-- a call is made on a purpose of the driver
by_role : (b : Bound) (v : UrbId) (o : Option Role) → option_and_then (urb_of_role b) o ≡ Some v → (r : Role) × (o ≡ Some r) × (urb_of_role b r ≡ Some v)
by_role b v None is = cc
by_role b v (Some r) is = (r, refl, is)

-- the operation is one on an interface, and a binding has its URB for this purpose
pub record IsCalled (s : Scene) (o : Operation) (u : ℕ) : Type 0 where
  pub asked : InterfaceOp
  pub is : o ≡ op.Interface asked
  pub place : ℕ
  pub binding : Bound
  pub purpose : Role
  pub at : slice_get (bindings_of s) place ≡ Some binding
  pub for : role_for asked binding.driver ≡ Some purpose
  pub has : urb_of_role binding purpose ≡ Some (record { 0 = u })

-- only an operation on an interface has an URB there
asks : (o : Operation) (b : Bound) (v : UrbId) → called_of o b ≡ Some v → (asked : InterfaceOp) × (o ≡ op.Interface asked) × (urb_for asked b ≡ Some v)
asks (op.Interface asked) b v is = (asked, refl, is)
asks op.Submit b v is = cc
asks op.Unlink b v is = cc
asks op.Kill b v is = cc
asks op.Poison b v is = cc
asks op.Unpoison b v is = cc
asks op.Block b v is = cc
asks op.Unblock b v is = cc
asks op.Serve b v is = cc
asks op.Down b v is = cc
asks op.Up b v is = cc
asks (op.Unbuilt code) b v is = cc

pub called_by : (s : Scene) (o : Operation) (d i u : ℕ) → called_urb s o d i ≡ Some u → IsCalled s o u
called_by s o d i u is = go (find (is_binding_of d i) (bindings_of s)) refl is
  where
    of : (b : Bound) → find (is_binding_of d i) (bindings_of s) ≡ Some b → (v : Option UrbId) → called_of o b ≡ v → option_map (λ (v : UrbId). v.0) v ≡ Some u → IsCalled s o u
    of b f None e is = cc
    of b f (Some v) e is =
        let number : v.0 ≡ u = cc in
        let at = found_at (is_binding_of d i) (bindings_of s) b f in
        let asks = asks o b v e in
        let by = by_role b v (role_for asks.0 b.driver) asks.2 in
        record { asked = asks.0; is = asks.1; place = at.0; binding = b; purpose = by.0; at = at.1; for = by.1; has = by.2 ∙ ap (λ n. Some (record { 0 = n })) number }

    go : (b : Option Bound) → find (is_binding_of d i) (bindings_of s) ≡ b → option_map (λ (v : UrbId). v.0) (option_and_then (called_of o) b) ≡ Some u → IsCalled s o u
    go None f e = cc
    go (Some b) f e = of b f (called_of o b) refl e

pub called_near : (s : Scene) → IsWellFormed s → (o : Operation) (d i u : ℕ) → called_urb s o d i ≡ Some u → u < urb_count s
called_near s good o d i u is = let c = called_by s o d i u is in (bound_near s good c.place c.binding c.purpose (record { 0 = u }) c.at c.has).1
