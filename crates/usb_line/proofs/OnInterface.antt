-- What a call submits, its URB may have.
use Rattle.std.proofs.Common.{ℕ, ◌≡◌, ◌<◌, Bool, true, false, cond, eqb, Option, Some, None, List, ◌∷◌, length, refl, sym, ap, ◌∙◌, subst, arith, true≢false}
use Rattle.std.specs.Prelude.{◌==◌, ◌&&◌, slice_get}
use Rattle.usb_types.specs.declared.urb.Role.{Role}
use Rattle.usb_types.specs.declared.urb.Role.TheVariants.{In as InRole, Note, Read0, Read1, Write, Ctl}
use Rattle.usb_machine.specs.declared.layout.EndKind.{EndKind}
use Rattle.usb_machine.specs.declared.transfer.Transfer.{Transfer}
use Rattle.usb_xfer.specs.Direction.{ControlIn, ControlOut, In, Out, goes_in, setup_in, is_control}
use Rattle.usb_xfer.specs.Moved.{question_by}
use Rattle.usb_device.specs.Rules.{is_at}
use Rattle.usb_device.specs.Laws.{sets_halt}
use Rattle.usb_class.specs.Handler.{is_ctl}
use Rattle.usb_class.specs.InterfaceOps.{setup_for}
use Rattle.usb_class.proofs.Facts.{role_has, IsRequest, call_request}
use Rattle.usb_scene.specs.declared.scene.Scene.{Scene}
use Rattle.usb_scene.specs.declared.scene.Call.{Call}
use Rattle.usb_scene.specs.declared.scene.Target.{Target}
use Rattle.usb_scene.specs.declared.scene.Target.TheVariants as target
use Rattle.usb_scene.specs.declared.operation.Operation.{Operation}
use Rattle.usb_scene.specs.declared.operation.Operation.TheVariants as op
use Rattle.usb_scene.specs.Operation.{operation_of, number_of}
use Rattle.usb_scene.specs.WellFormed.{IsBuilt, IsCall, IsWellFormed}
use Rattle.usb_scene.proofs.Operations.{number_kept}
use Rattle.usb_prepare.specs.Ends.{shape_at}
use Rattle.usb_prepare.specs.Prepared.{bindings_of}
use Rattle.usb_prepare.specs.Layout.{urb_count, home, role_urb}
use Rattle.usb_bind.specs.declared.bound.Bound.{Bound}
use Rattle.usb_bind.specs.Board.{urb_of_role}
use Rattle.usb_prepare.proofs.Facts.{bound_near, bound_home_ctl, urb_once}
use Rattle.usb_class.specs.declared.owner.Owner.{Owner}
use Rattle.usb_trace.specs.declared.rows.HostCall.TheVariants as host_call
use Rattle.usb_trace.specs.Plan.{owner_of, fresh, submit_fault, interface_setup, setup_by, called_urb, host_call_on, host_call_alone, host_call_on_any, host_call_called, host_call_by, host_call_of}
use Rattle.usb_trace.specs.Devices.{IsBare, IsApt}
use Rattle.usb_trace.proofs.Owners.{owner_bound}
use Rattle.usb_trace.proofs.Apt.{own_apt, packets_apt}
use Rattle.usb_line.proofs.Called.{IsCalled, called_by}

-- a control transfer whose setup packet halts no endpoint
control_tame : (kind : EndKind) (b c : Bool) (max : ℕ) (t : Transfer) → is_control kind ≡ true → is_at 0x02 3 0 (setup_in t.setup) ≡ false
    → sets_halt (question_by (cond (is_control kind) (cond b ControlIn ControlOut) (cond c In Out)) max t) ≡ false
control_tame kind b c max t control is = ap (λ k. sets_halt (question_by (cond k (cond b ControlIn ControlOut) (cond c In Out)) max t)) control ∙ go b
  where
    go : (b : Bool) → sets_halt (question_by (cond b ControlIn ControlOut) max t) ≡ false
    go true = is
    go false = is

ctl_of : (r : Role) → Ctl ≡ r → is_ctl r ≡ true
ctl_of r e = ap is_ctl (sym e)

-- a packet of the class on endpoint zero halts nothing
not_halt : (kind : ℕ) (rest : List ℕ) → eqb kind 2 ≡ false → is_at 0x02 3 0 (setup_in (Some (kind ∷ rest))) ≡ false
not_halt kind rest off = ap (λ b. (b && (setup_in (Some (kind ∷ rest))).request == 3) && (setup_in (Some (kind ∷ rest))).value == 0) off

-- a binding's URB for control transfers may have a request of the class
module _ (s : Scene) (good : IsWellFormed s) (k : ℕ) (b : Bound) (u : ℕ) (at : slice_get (bindings_of s) k ≡ Some b) (has : urb_of_role b Ctl ≡ Some (record { 0 = u })) (t : Transfer) where
  ctl_bare : (o : Option Owner) → owner_of s u ≡ o → IsBare o t.setup
  ctl_bare None e = tt
  ctl_bare (Some o) e = λ off.
      let own = owner_bound s u o e in
      let one = urb_once s good k o.place b own.0 Ctl o.role record { 0 = u } at own.1 has (role_has u own.0 o.role own.3) in
      absurd (true≢false (sym (ctl_of o.role one.1) ∙ off))

  pub ctl_apt : IsRequest Ctl t.setup → IsApt s u t
  ctl_apt request =
      let shape = shape_at s (home s u) in
      let ends = bound_home_ctl s good k b record { 0 = u } at has in
      record {
        near = (bound_near s good k b Ctl record { 0 = u } at has).1;
        asked = ap (λ k. cond (is_control k) 0 shape.address) ends.2 ∙ sym ends.1;
        tame = λ off. control_tame shape.kind (goes_in (setup_in t.setup).kind) (goes_in shape.address) shape.max t (ap is_control ends.2)
            (ap (λ x. is_at 0x02 3 0 (setup_in x)) request.2 ∙ not_halt request.0 request.1 request.3);
        bare = ctl_bare (owner_of s u) refl;
      }

module _ (s : Scene) (good : IsWellFormed s) (u : ℕ) (c : Call) where
  -- a call on an interface
  module _ (d i : ℕ) (aims : c.target ≡ target.Interface d i) (called : IsCalled s (operation_of c) u) (none : submit_fault s u c ≡ None) where
    abbrev t : Transfer
    t = fresh s u c

    setup_is : t.setup ≡ setup_for called.asked i
    setup_is = ap (λ (x : Target). setup_by x c) aims ∙ ap (interface_setup i) called.is

    near : u < urb_count s
    near = (bound_near s good called.place called.binding called.purpose record { 0 = u } called.at called.has).1

    interface_apt : (r : Role) → called.purpose ≡ r → IsRequest r t.setup → IsApt s u t
    interface_apt Ctl is request = ctl_apt s good called.place called.binding u called.at (subst (λ r. urb_of_role called.binding r ≡ Some (record { 0 = u })) is called.has) t request
    interface_apt InRole is request = packets_apt s u near t request none
    interface_apt Note is request = packets_apt s u near t request none
    interface_apt Read0 is request = packets_apt s u near t request none
    interface_apt Read1 is request = packets_apt s u near t request none
    interface_apt Write is request = packets_apt s u near t request none

    called_apt : IsApt s u t
    called_apt = interface_apt called.purpose refl (subst (IsRequest called.purpose) (sym setup_is) (call_request called.asked called.binding.driver called.purpose i called.for))

  -- a call on an URB submits it where it asks for that
  submits : (o : Operation) (v : ℕ) → host_call_on o v ≡ host_call.Submit u → (o ≡ op.Submit) × (v ≡ u)
  submits op.Submit v e = (refl, (let same : v ≡ u = cc in same))
  submits op.Unlink v e = cc
  submits op.Kill v e = cc
  submits op.Poison v e = cc
  submits op.Unpoison v e = cc
  submits op.Block v e = cc
  submits op.Unblock v e = cc
  submits op.Serve v e = cc
  submits op.Down v e = cc
  submits op.Up v e = cc
  submits (op.Interface asked) v e = cc
  submits (op.Unbuilt code) v e = cc

  -- and one on nothing never does
  submits_none : (o : Operation) → host_call_alone o ≡ host_call.Submit u → ⊥
  submits_none op.Submit e = cc
  submits_none op.Unlink e = cc
  submits_none op.Kill e = cc
  submits_none op.Poison e = cc
  submits_none op.Unpoison e = cc
  submits_none op.Block e = cc
  submits_none op.Unblock e = cc
  submits_none op.Serve e = cc
  submits_none op.Down e = cc
  submits_none op.Up e = cc
  submits_none (op.Interface asked) e = cc
  submits_none (op.Unbuilt code) e = cc

  called : (o : Option ℕ) → host_call_called o ≡ host_call.Submit u → o ≡ Some u
  called None e = cc
  called (Some v) e = let same : v ≡ u = cc in ap Some same

  by_target : (t : Target) → c.target ≡ t → IsBuilt s c.code t → host_call_by s (operation_of c) t ≡ host_call.Submit u → submit_fault s u c ≡ None → IsApt s u (fresh s u c)
  by_target target.Nothing aims is e none = absurd (submits_none (operation_of c) e)
  by_target (target.Urb v) aims is e none = own_apt s good u (subst (λ w. w < length s.urbs) (submits (operation_of c) v e).1 is.2) (fresh s u c)
  by_target (target.Role d i r) aims is e none = go (role_urb s d i r) e
    where
      go : (o : Option ℕ) → host_call_on_any (operation_of c) o ≡ host_call.Submit u → IsApt s u (fresh s u c)
      go None e = cc
      go (Some v) e =
          let one : c.code ≡ 1 = sym (number_kept c) ∙ ap number_of (submits (operation_of c) v e).0 in
          let low = is.0 in absurd (omega arith)
  by_target (target.Interface d i) aims is e none = called_apt d i aims (called_by s (operation_of c) d i u (called (called_urb s (operation_of c) d i) e)) none
  by_target (target.Anchor a) aims is e none = absurd is
  by_target (target.Device d) aims is e none = absurd is

  -- what a call submits, its URB may have
  pub fresh_apt : IsCall s c → host_call_of s c ≡ host_call.Submit u → submit_fault s u c ≡ None → IsApt s u (fresh s u c)
  fresh_apt is e none = by_target c.target refl is.built e none
