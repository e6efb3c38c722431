-- Where each endpoint of a scene beside 00 is a bulk one with packets, no submit of an URB there has a fault of its shape.
use Rattle.std.proofs.Common.{ℕ, zero, suc, ◌≡◌, Bool, true, false, ◌||◌, cond, eqb, List, [], ◌∷◌, Option, Some, None, refl, sym, ap, ◌∙◌}
use Rattle.std.specs.Prelude.{slice_get, not, ◌&&◌}
use Rattle.std.specs.List.{list_all}
use Rattle.std.proofs.lemmas.Bool.{and_parts}
use Rattle.usb_types.specs.declared.errno.Errno.TheVariants.{EMSGSIZE, EINVAL}
use Rattle.usb_machine.specs.declared.layout.EndKind.{EndKind}
use Rattle.usb_machine.specs.declared.layout.EndKind.TheVariants.{Control, Bulk, Interrupt, Iso}
use Rattle.usb_machine.specs.declared.layout.Shape.{Shape}
use Rattle.usb_machine.specs.declared.transfer.Transfer.{Transfer}
use Rattle.usb_machine.specs.Shapes.{setup_fault, lacks_service, else_fault, shape_fault}
use Rattle.usb_scene.specs.declared.scene.Scene.{Scene}
use Rattle.usb_prepare.specs.Ends.{shapes_of, or_control, shape_at}

abbrev is_bulk : EndKind → Bool
is_bulk Control = false
is_bulk Bulk = true
is_bulk Interrupt = false
is_bulk Iso = false

abbrev is_served : Shape → Bool
is_served shape = eqb shape.address 0 || (is_bulk shape.kind && not (eqb shape.max 0))

abbrev pub are_served : List Shape → Bool
are_served shapes = list_all is_served shapes

-- such an endpoint takes each transfer
taken_by : (kind : EndKind) (max interval : ℕ) (setup : Option (List ℕ)) (len : ℕ) → (is_bulk kind && not (eqb max 0)) ≡ true
    → else_fault (setup_fault kind setup len) (cond (eqb max 0) (Some EMSGSIZE) (cond (lacks_service kind interval) (Some EINVAL) None)) ≡ None
taken_by Control max interval setup len is = cc
taken_by Bulk max interval setup len is = go (eqb max 0) is
  where
    go : (b : Bool) → not b ≡ true → cond b (Some EMSGSIZE) None ≡ None
    go true is = cc
    go false is = refl
taken_by Interrupt max interval setup len is = cc
taken_by Iso max interval setup len is = cc

served_at : (shapes : List Shape) (e : ℕ) → are_served shapes ≡ true → is_served (or_control (slice_get shapes e)) ≡ true
served_at [] e all = refl
served_at (shape ∷ shapes) zero all = (and_parts (is_served shape) (are_served shapes) all).0
served_at (shape ∷ shapes) (suc e) all = served_at shapes e (and_parts (is_served shape) (are_served shapes) all).1

pub no_fault : (s : Scene) (e : ℕ) (t : Transfer) → are_served (shapes_of s) ≡ true → eqb (shape_at s e).address 0 ≡ false → shape_fault (shape_at s e) t ≡ None
no_fault s e t all other =
    let shape = shape_at s e in
    taken_by shape.kind shape.max shape.interval t.setup t.len (ap (λ b. b || (is_bulk shape.kind && not (eqb shape.max 0))) (sym other) ∙ served_at (shapes_of s) e all)
