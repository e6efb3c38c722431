-- Which transfers an URB may have: what a submit sends, and what a driver reads.
use Rattle.std.proofs.Common.{ℕ, ◌≡◌, ◌<◌, Bool, true, false, cond, eqb, Option, Some, None, List, length, refl, sym, ap, ◌∙◌, subst, true≢false}
use Rattle.usb_types.specs.declared.errno.Errno.{Errno}
use Rattle.usb_types.specs.declared.errno.Errno.TheVariants.{EMSGSIZE, EINVAL}
use Rattle.usb_machine.specs.declared.layout.EndKind.{EndKind}
use Rattle.usb_machine.specs.declared.layout.EndKind.TheVariants.{Control, Bulk, Interrupt, Iso}
use Rattle.usb_machine.specs.declared.layout.Shape.{Shape}
use Rattle.usb_machine.specs.declared.transfer.Transfer.{Transfer}
use Rattle.usb_machine.specs.Shapes.{setup_fault, lacks_service, else_fault, shape_fault}
use Rattle.usb_xfer.specs.Direction.{is_control, goes_in, setup_in, In, Out, ControlIn, ControlOut}
use Rattle.usb_xfer.specs.Moved.{question_by, question_of}
use Rattle.usb_device.specs.Laws.{sets_halt}
use Rattle.usb_scene.specs.declared.scene.Scene.{Scene}
use Rattle.usb_scene.specs.WellFormed.{IsWellFormed}
use Rattle.usb_prepare.specs.Ends.{shape_at}
use Rattle.usb_prepare.specs.Layout.{urb_count, home}
use Rattle.usb_class.specs.declared.owner.Owner.{Owner}
use Rattle.usb_trace.specs.Plan.{owner_of}
use Rattle.usb_trace.specs.Devices.{IsBare, IsApt}
use Rattle.usb_trace.proofs.Homes.{own_near, home_raw, home_asked}
use Rattle.usb_trace.proofs.Owners.{own_unowned, owner_near}

-- an URB of the scene's own may have any
pub own_apt : (s : Scene) → IsWellFormed s → (u : ℕ) → u < length s.urbs → (t : Transfer) → IsApt s u t
own_apt s good u near t = record {
  near = own_near s good u near;
  asked = home_asked s good u near;
  tame = λ off. absurd (true≢false (sym (home_raw s good u near) ∙ off));
  bare = subst (λ o. IsBare o t.setup) (sym (own_unowned s good u near)) tt;
}

-- an endpoint that takes a transfer without setup packet is none for control transfers
bare_kind : (kind : EndKind) (setup : Option (List ℕ)) (len : ℕ) (rest : Option Errno) → setup ≡ None → else_fault (setup_fault kind setup len) rest ≡ None → is_control kind ≡ false
bare_kind Control None len rest bare none = cc
bare_kind Control (Some x) len rest bare none = cc
bare_kind Bulk setup len rest bare none = refl
bare_kind Interrupt setup len rest bare none = refl
bare_kind Iso setup len rest bare none = refl

pub not_control : (shape : Shape) (t : Transfer) → t.setup ≡ None → shape_fault shape t ≡ None → is_control shape.kind ≡ false
not_control shape t bare none =
    bare_kind shape.kind t.setup t.len (cond (eqb shape.max 0) (Some EMSGSIZE) (cond (lacks_service shape.kind shape.interval) (Some EINVAL) None)) bare none

-- and the device is asked for packets there
packets_tame : (b : Bool) (max : ℕ) (t : Transfer) → sets_halt (question_by (cond b In Out) max t) ≡ false
packets_tame true max t = refl
packets_tame false max t = refl

pub bare_tame : (shape : Shape) (t : Transfer) → is_control shape.kind ≡ false → sets_halt (question_of shape t) ≡ false
bare_tame shape t packets =
    ap (λ b. sets_halt (question_by (cond b (cond (goes_in (setup_in t.setup).kind) ControlIn ControlOut) (cond (goes_in shape.address) In Out)) shape.max t)) packets
    ∙ packets_tame (goes_in shape.address) shape.max t

-- an URB may have a transfer without setup packet that its home takes
pub packets_apt : (s : Scene) (u : ℕ) → u < urb_count s → (t : Transfer) → t.setup ≡ None → shape_fault (shape_at s (home s u)) t ≡ None → IsApt s u t
packets_apt s u near t bare none =
    let shape = shape_at s (home s u) in
    let packets = not_control shape t bare none in
    record {
      near = near;
      asked = ap (λ b. cond b 0 shape.address) packets;
      tame = λ off. bare_tame shape t packets;
      bare = without (owner_of s u);
    }
  where
    without : (o : Option Owner) → IsBare o t.setup
    without None = tt
    without (Some o) = λ off. bare

-- and so may one of a driver
pub bare_apt : (s : Scene) → IsWellFormed s → (u : ℕ) (o : Owner) → owner_of s u ≡ Some o → (t : Transfer) → t.setup ≡ None → shape_fault (shape_at s (home s u)) t ≡ None → IsApt s u t
bare_apt s good u o is t bare none = packets_apt s u (owner_near s good u o is) t bare none
