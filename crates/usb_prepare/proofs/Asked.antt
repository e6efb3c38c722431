-- The host asks each endpoint of a scene at its address.
use Rattle.std.proofs.Common.{ℕ, zero, suc, ◌≡◌, ◌+◌, ◌⊎◌, ⊎_elim, cond, Option, Some, None, List, ◌∷◌, refl, ap, ◌∙◌, subst, sym, true, zero-add}
use Rattle.std.specs.Prelude.{slice_get}
use Rattle.std.specs.List.{All}
use Rattle.std.proofs.lemmas.Option.{slice_get_within, get_or_from_slice_get}
use Rattle.usb_machine.specs.declared.layout.EndKind.{EndKind}
use Rattle.usb_machine.specs.declared.layout.EndKind.TheVariants.{Bulk, Interrupt, Iso}
use Rattle.usb_machine.specs.declared.layout.Shape.{Shape}
use Rattle.usb_xfer.specs.Direction.{is_control, asked_at}
use Rattle.usb_scene.specs.declared.scene.Scene.{Scene}
use Rattle.usb_scene.specs.WellFormed.{IsEnd, is_raw, IsWellFormed}
use Rattle.usb_prepare.specs.Ends.{control_of, shapes_of, shape_at, or_control, raw_in, is_raw_at}
use Rattle.usb_prepare.proofs.Own.{raw_ends}
use Rattle.usb_prepare.proofs.Numbering.{devices_at}
use Rattle.usb_prepare.proofs.Apart.{of_device}

abbrev IsAskedThere : Shape → Type 0
IsAskedThere shape = asked_at shape ≡ shape.address

asked_by_kind : (shape : Shape) (kind : EndKind) → is_control kind ≡ is_control Bulk → shape.kind ≡ kind → IsAskedThere shape
asked_by_kind shape kind packets is = ap (λ b. cond b 0 shape.address) (ap is_control is ∙ packets)

end_asked : (d : ℕ) (shape : Shape) → IsEnd d shape → IsAskedThere shape
end_asked d shape is = ⊎_elim
    (λ (k : shape.kind ≡ Bulk). asked_by_kind shape Bulk refl k)
    (λ (k : (shape.kind ≡ Interrupt) ⊎ (shape.kind ≡ Iso)). ⊎_elim
    (λ (k : shape.kind ≡ Interrupt). asked_by_kind shape Interrupt refl k)
    (λ (k : shape.kind ≡ Iso). asked_by_kind shape Iso refl k)
    k)
    is.kind

-- each of these shapes is asked at its address
abbrev AreAsked : List Shape → Type 0
AreAsked shapes = (i : ℕ) (shape : Shape) → slice_get shapes i ≡ Some shape → IsAskedThere shape

ends_asked : (n : ℕ) (ends : List Shape) → All (IsEnd n) ends → AreAsked (control_of n 64 ∷ ends)
ends_asked n ends all zero shape e = let same : control_of n 64 ≡ shape = cc in subst IsAskedThere same refl
ends_asked n ends all (suc i) shape e =
    end_asked n shape (subst (IsEnd n) (get_or_from_slice_get ends i shape shape e) (all i shape (slice_get_within ends i shape e)))

-- an endpoint of a raw device is asked at its address, and the control endpoint at 00, where control transfers go
pub asked_at_home : (s : Scene) → IsWellFormed s → (e : ℕ) → is_raw_at s (shape_at s e).device ≡ true → asked_at (shape_at s e) ≡ (shape_at s e).address
unfolding shapes_of
asked_at_home s good e = go (slice_get (shapes_of s) e) refl
  where
    go : (o : Option Shape) → slice_get (shapes_of s) e ≡ o → is_raw_at s (or_control o).device ≡ true → IsAskedThere (or_control o)
    go None at raw = refl
    go (Some shape) at raw =
        let o = of_device 0 s.devices (devices_at s good) e shape at in
        let same : shape.device ≡ o.0 = o.4 ∙ zero-add o.0 in
        let is_raw_one : is_raw o.1.script.kind ≡ true = sym (ap raw_in (ap (slice_get s.devices) same ∙ o.3)) ∙ raw in
        let ends = raw_ends (0 + o.0) o.1 is_raw_one in
        ends_asked (0 + o.0) o.1.script.ends (devices_at s good o.0 o.1 o.3).ends o.2 shape (sym (ap (λ l. slice_get l o.2) ends) ∙ o.5)
