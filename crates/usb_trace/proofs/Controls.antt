-- The endpoint 00 of a device is its control endpoint.
use Rattle.std.proofs.Common.{ℕ, zero, suc, ◌≡◌, ◌+◌, ◌<◌, true, Some, List, [], ◌∷◌, ◌++◌, length, sym, ap, ◌∙◌, arith, zero-add}
use Rattle.std.specs.Prelude.{slice_get}
use Rattle.std.proofs.lemmas.Option.{slice_get_within}
use Rattle.usb_machine.specs.declared.layout.Shape.{Shape}
use Rattle.usb_xfer.specs.Direction.{is_control}
use Rattle.usb_scene.specs.declared.scene.Scene.{Scene}
use Rattle.usb_scene.specs.declared.scene.SceneDevice.{SceneDevice}
use Rattle.usb_scene.specs.WellFormed.{IsWellFormed}
use Rattle.usb_prepare.specs.Ends.{attached_as, control_of, control_size, device_ends, shapes_from, shapes_of, ends_of, shape_at, or_control}
use Rattle.usb_prepare.proofs.Facts.{end_device, ends_apart}

behind : {X : Type 0} (xs ys : List X) (k : ℕ) → slice_get (xs ++ ys) (length xs + k) ≡ slice_get ys k
behind [] ys k = let none : 0 + k ≡ k = omega arith in ap (slice_get ys) none
behind (x ∷ xs) ys k = let next : suc (length xs) + k ≡ suc (length xs + k) = omega arith in ap (slice_get (x ∷ xs ++ ys)) next ∙ behind xs ys k

control_there : (n d : ℕ) (ds : List SceneDevice) → d < length ds → (e : ℕ) × (size : ℕ) × (slice_get (shapes_from n ds) e ≡ Some (control_of (n + d) size))
unfolding device_ends
control_there n d [] l = absurd (omega arith)
control_there n zero (x ∷ ds) l = let same : n ≡ n + 0 = omega arith in (0, control_size (attached_as n x), ap (λ m. Some (control_of m (control_size (attached_as n x)))) same)
control_there n (suc d) (x ∷ ds) l =
    let r = control_there (n + 1) d ds (omega arith) in let same : n + 1 + d ≡ n + suc d = omega arith in
    (length (device_ends n x) + r.0, r.1, behind (device_ends n x) (shapes_from (n + 1) ds) r.0 ∙ (r.2 ∙ ap (λ m. Some (control_of m r.1)) same))

module _ (s : Scene) (good : IsWellFormed s) (e : ℕ) (near : e < ends_of s) where
  first : (k : ℕ) × (size : ℕ) × (slice_get (shapes_of s) k ≡ Some (control_of (shape_at s e).device size))
  unfolding shapes_of
  first = let r = control_there 0 (shape_at s e).device s.devices (end_device s good e near) in
      (r.0, r.1, r.2 ∙ ap (λ m. Some (control_of m r.1)) (zero-add (shape_at s e).device))

  pub zero_control : (shape_at s e).address ≡ 0 → is_control (shape_at s e).kind ≡ true
  zero_control at =
      let k : ℕ = first.0 in let size : ℕ = first.1 in
      let is : shape_at s k ≡ control_of (shape_at s e).device size = ap or_control first.2 in
      let here : k < ends_of s = slice_get_within (shapes_of s) k (control_of (shape_at s e).device size) first.2 in
      let same : e ≡ k = ends_apart s good e k near here (ap (λ (x : Shape). x.device) (sym is)) (at ∙ ap (λ (x : Shape). x.address) (sym is)) in
      ap (λ (i : ℕ). is_control (shape_at s i).kind) same ∙ ap (λ (x : Shape). is_control x.kind) is
