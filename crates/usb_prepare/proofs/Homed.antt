-- Each URB of a well-formed scene has an endpoint.
use Rattle.std.proofs.Common.{ℕ, zero, suc, ◌≡◌, ◌+◌, ◌<◌, ⊎_elim, Bool, true, false, ◌&&◌, ◌||◌, eqb, Option, Some, None, List, [], ◌∷◌, length, map, refl, sym, ap, ◌∙◌, subst, arith, eq-eqb}
use Rattle.std.specs.Prelude.{slice_index_or, slice_get, ◌==◌}
use Rattle.std.specs.List.{All, list_any, position_or_len}
use Rattle.std.proofs.lemmas.List.Folds.{list_any-append}
use Rattle.std.proofs.lemmas.List.Elements.{All-head, All-tail}
use Rattle.usb_machine.specs.declared.layout.Shape.{Shape}
use Rattle.usb_scene.specs.declared.scene.Scene.{Scene}
use Rattle.usb_scene.specs.declared.scene.SceneDevice.{SceneDevice}
use Rattle.usb_scene.specs.declared.scene.SceneUrb.{SceneUrb}
use Rattle.usb_scene.specs.WellFormed.{IsEnd, HasEnd, IsUrb, IsWellFormed}
use Rattle.usb_prepare.specs.Ends.{control_of, device_ends, shapes_from, shapes_of, ends_of, is_at, home_at}
use Rattle.usb_prepare.proofs.Positions.{found, has_position, either}
use Rattle.usb_prepare.proofs.Own.{raw_ends}
use Rattle.usb_prepare.proofs.Numbering.{AreDevices, first_is, others_are, devices_at}

-- an endpoint of a device is at its address
ends_at : (d address : ℕ) (ends : List Shape) → All (IsEnd d) ends → list_any (λ (shape : Shape). shape.address == address) ends ≡ true → list_any (is_at d address) ends ≡ true
ends_at d address [] a e = e
ends_at d address (x ∷ ends) a e = go (eqb x.address address) refl (ends_at d address ends (All-tail (IsEnd d) x ends a))
  where
    here : eqb x.device d ≡ true
    here = eq-eqb x.device d (All-head (IsEnd d) x ends a).device

    go : (b : Bool) → eqb x.address address ≡ b → (list_any (λ (shape : Shape). shape.address == address) ends ≡ true → list_any (is_at d address) ends ≡ true) → list_any (is_at d address) (x ∷ ends) ≡ true
    go true is rest = (λ i. (here i && is i) || list_any (is_at d address) ends)
    go false is rest = either (eqb x.device d && eqb x.address address) (list_any (is_at d address) ends)
        (rest (sym (ap (λ b. b || list_any (λ (shape : Shape). eqb shape.address address) ends) is) ∙ e))

shapes_at : (n k d address : ℕ) (devices : List SceneDevice) → d ≡ n + k → AreDevices n devices
    → HasEnd address (slice_get devices k) → list_any (is_at d address) (shapes_from n devices) ≡ true
shapes_at n k d address [] is all has = absurd has
shapes_at n zero d address (x ∷ devices) is all has =
    let here : n ≡ d = omega arith in
    let own = subst (λ (m : ℕ). All (IsEnd m) x.script.ends) here (first_is n x devices all).ends in
    list_any-append (is_at d address) (device_ends n x) (shapes_from (n + 1) devices)
    ∙ ap (λ b. b || list_any (is_at d address) (shapes_from (n + 1) devices))
    (ap (list_any (is_at d address)) (raw_ends n x has.0) ∙ ⊎_elim
    (λ (z : address ≡ 0). (λ i. (eq-eqb n d here i && eq-eqb 0 address (sym z) i) || list_any (is_at d address) x.script.ends))
    (λ (a : list_any (λ (shape : Shape). shape.address == address) x.script.ends ≡ true).
    either (is_at d address (control_of n 64)) (list_any (is_at d address) x.script.ends) (ends_at d address x.script.ends own a))
    has.1)
shapes_at n (suc k) d address (x ∷ devices) is all has =
    list_any-append (is_at d address) (device_ends n x) (shapes_from (n + 1) devices)
    ∙ either (list_any (is_at d address) (device_ends n x)) (list_any (is_at d address) (shapes_from (n + 1) devices))
    (shapes_at (n + 1) k d address devices (omega arith) (others_are n x devices all) has)

module _ (s : Scene) (good : IsWellFormed s) where
  -- the endpoint of an URB is there
  pub urb_at : (urb : SceneUrb) → IsUrb s urb → list_any (is_at urb.device urb.address) (shapes_of s) ≡ true
  unfolding shapes_of
  urb_at urb is = shapes_at 0 urb.device urb.device urb.address s.devices (omega arith) (devices_at s good) is.home

  pub homes_at : (us : List SceneUrb) → All (IsUrb s) us → (u : ℕ) → u < length us
      → (e : ℕ) × (slice_index_or {A = Option ℕ} (map (home_at s) us) u None ≡ Some e) × (e < ends_of s)
  homes_at [] a u l = absurd (omega arith)
  homes_at (x ∷ us) a zero l = let at = urb_at x (a zero x l) in
      (position_or_len (is_at x.device x.address) (shapes_of s), has_position (is_at x.device x.address) (shapes_of s) at, found (is_at x.device x.address) (shapes_of s) at)
  homes_at (x ∷ us) a (suc u) l = homes_at us (λ k d m. a (suc k) d (omega arith)) u (omega arith)
