-- A device has few endpoints.
use Rattle.std.proofs.Common.{ℕ, ◌≡◌, ◌≢◌, ◌<◌, ◌≤◌, Bool, true, false, ◌||◌, eqb, true≢false, ⊎_elim, Some, List, [], ◌∷◌, length, get_or, map, refl, sym, ap, ◌∙◌, arith}
use Rattle.std.specs.Prelude.{slice_get}
use Rattle.std.specs.List.{All, AllPairs, IsDistinct, list_any}
use Rattle.std.specs.Option.{option_map}
use Rattle.std.proofs.lemmas.Bool.Decides.{Decides-eqb, eqb_tells}
use Rattle.std.proofs.lemmas.List.{length-map}
use Rattle.std.proofs.lemmas.Option.{slice_get-get_or, slice_get-map, get_or_from_slice_get}
use Rattle.std.proofs.lemmas.Map.Made.{IsDistinct-from_AllPairs}
use Rattle.std.proofs.lemmas.Map.Steps.{length-le_from_distinct_below}
use Rattle.std.proofs.lemmas.List.Elements.{All-head, All-tail}
use Rattle.usb_machine.specs.declared.layout.Shape.{Shape}
use Rattle.usb_scene.specs.declared.scene.SceneDevice.{SceneDevice}
use Rattle.usb_scene.specs.WellFormed.{IsEnd, IsDevice}
use Rattle.usb_prepare.specs.Ends.{control_of}

-- the endpoints of a device have addresses of their own, so there are few
abbrev addresses : List Shape → List ℕ
addresses ends = map (λ (shape : Shape). shape.address) ends

apart : (d : ℕ) (device : SceneDevice) → IsDevice d device → IsDistinct eqb (addresses device.script.ends)
apart d device is = IsDistinct-from_AllPairs Decides-eqb (addresses device.script.ends) pairs
  where
    at : (i : ℕ) → i < length device.script.ends → (k : ℕ) → (shape : Shape) × (slice_get device.script.ends i ≡ Some shape) × (get_or (addresses device.script.ends) i k ≡ shape.address)
    at i l k =
        let shape : Shape = get_or device.script.ends i (control_of 0 64) in
        let e = slice_get-get_or device.script.ends i (control_of 0 64) l in
        (shape, e, get_or_from_slice_get (addresses device.script.ends) i shape.address k (slice_get-map (λ (shape : Shape). shape.address) device.script.ends i ∙ ap (option_map (λ (shape : Shape). shape.address)) e))

    pairs : AllPairs (λ (x y : ℕ). x ≢ y) (addresses device.script.ends)
    pairs i j k l near e =
        let long = length-map device.script.ends (λ (shape : Shape). shape.address) in
        let a = at i (omega arith) k in let b = at j (omega arith) k in
        let same = is.once i j a.0 b.0 a.1 b.1 (sym a.2 ∙ (e ∙ b.2)) in
        absurd (omega arith)

low : (d q : ℕ) (ends : List Shape) → All (IsEnd d) ends → list_any (eqb q) (addresses ends) ≡ true → q < 144
low d q [] a e = cc
low d q (x ∷ ends) a e = go (eqb q x.address) refl e (low d q ends (All-tail (IsEnd d) x ends a))
  where
    go : (b : Bool) → eqb q x.address ≡ b → (b || list_any (eqb q) (addresses ends)) ≡ true → (list_any (eqb q) (addresses ends) ≡ true → q < 144) → q < 144
    go true is any rest = let same : q ≡ x.address = ⊎_elim (λ (y : (eqb q x.address ≡ true) × (q ≡ x.address)). y.1) (λ (n : (eqb q x.address ≡ false) × (q ≢ x.address)). absurd (true≢false (sym is ∙ n.0))) (eqb_tells q x.address) in
        ⊎_elim (λ (l : (0 < x.address) × (x.address < 16)). let b = l.1 in omega arith) (λ (l : (128 < x.address) × (x.address < 144)). let b = l.1 in omega arith) (All-head (IsEnd d) x ends a).address
    go false is any rest = rest any

pub given_few : (d : ℕ) (device : SceneDevice) → IsDevice d device → length device.script.ends ≤ 144
given_few d device is =
    let few = length-le_from_distinct_below (addresses device.script.ends) 144 (apart d device is) (λ q e. low d q device.script.ends is.ends e) in
    let long = length-map device.script.ends (λ (shape : Shape). shape.address) in
    omega arith
