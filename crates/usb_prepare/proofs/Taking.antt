-- One URB of the scene's own more.
use Rattle.std.proofs.Common.{ℕ, zero, suc, ◌≡◌, ◌+◌, ◌<◌, ◌≤◌, Option, List, [], ◌∷◌, ◌++◌, length, take, get_or, map, fold, refl, sym, ap, ◌∙◌, arith, add-zero}
use Rattle.std.proofs.lemmas.List.{take_more, map-append}
use Rattle.std.proofs.lemmas.List.Sums.{fold-append}
use Rattle.usb_machine.specs.History.{or_zero}
use Rattle.usb_bind.specs.Pool.{Homes, taken}
use Rattle.usb_scene.specs.declared.scene.Scene.{Scene}
use Rattle.usb_scene.specs.declared.scene.SceneUrb.{SceneUrb}
use Rattle.usb_machine.specs.declared.layout.Shape.{Shape}
use Rattle.usb_ctrl.specs.declared.enumerator.Attached.{Attached}
use Rattle.usb_scene.specs.declared.scene.SceneDevice.{SceneDevice}
use Rattle.usb_scene.specs.WellFormed.{IsWellFormed}
use Rattle.usb_prepare.specs.Ends.{attached_as, shapes_from, home_at}
use Rattle.usb_prepare.specs.Prepared.{attached_from}
use Rattle.usb_prepare.proofs.Numbering.{few_ends, first_within}

pub own_longer : (s : Scene) (k : ℕ) (urb : SceneUrb) (urbs : List SceneUrb) (start old new : Homes) → urbs ≡ s.urbs → k < length urbs → urb ≡ get_or urbs k urb
    → old ≡ fold taken start (map (λ (u : SceneUrb). or_zero (home_at s u)) (take k s.urbs)) → new ≡ taken old (or_zero (home_at s urb))
    → new ≡ fold taken start (map (λ (u : SceneUrb). or_zero (home_at s u)) (take (k + 1) s.urbs))
own_longer s k urb urbs start old new same near at o n =
    let f : SceneUrb → ℕ = λ u. or_zero (home_at s u) in
    let more : take (k + 1) s.urbs ≡ take k s.urbs ++ urb ∷ [] = ap (take (k + 1)) (sym same) ∙ (take_more urbs k urb near ∙ ((λ i. take k (same i) ++ sym at i ∷ []))) in
    n ∙ (ap (λ p. taken p (f urb)) o
    ∙ (sym (fold-append taken start (map f (take k s.urbs)) (f urb ∷ []))
    ∙ ap (fold taken start) (sym (map-append f (take k s.urbs) (urb ∷ [])) ∙ ap (map f) (sym more))))

-- which devices were enumerated
pub attached_long : (n : ℕ) (ds : List SceneDevice) → length (attached_from n ds) ≡ length ds
attached_long n [] = refl
attached_long n (x ∷ ds) = ap (λ k. suc k) (attached_long (n + 1) ds)

attached_get : (n i : ℕ) (ds : List SceneDevice) (x : SceneDevice) (o : Option Attached) → i < length ds → get_or (attached_from n ds) i o ≡ attached_as (n + i) (get_or ds i x)
attached_get n i [] x o l = absurd (omega arith)
attached_get n zero (y ∷ ds) x o l = ap (λ k. attached_as k y) (sym (add-zero n))
attached_get n (suc i) (y ∷ ds) x o l = let same : n + 1 + i ≡ n + suc i = omega arith in attached_get (n + 1) i ds x o (omega arith) ∙ ap (λ k. attached_as k (get_or ds i x)) same

pub attached_is : (s : Scene) (i : ℕ) (ds : List SceneDevice) (x : SceneDevice) (all : List (Option Attached)) (o : Option Attached) → ds ≡ s.devices → i < length ds → x ≡ get_or ds i x → all ≡ attached_from 0 s.devices
    → o ≡ get_or all i o → o ≡ attached_as i x
attached_is s i ds x all o same near at a is =
    let zero_i : 0 + i ≡ i = omega arith in
    is ∙ (ap (λ l. get_or l i o) (a ∙ ap (attached_from 0) (sym same)) ∙ (attached_get 0 i ds x o near ∙ ((λ j. attached_as (zero_i j) (get_or ds i x)) ∙ ap (attached_as i) (sym at))))

-- few endpoints come before a device's
pub front_few : (s : Scene) → IsWellFormed s → (i : ℕ) (l : List Shape) → l ≡ shapes_from 0 (take i s.devices) → length l ≤ 32000
front_few s good i l is = let few = few_ends s good in let within = first_within s good i in let long = ap (λ (k : List Shape). length k) is in omega arith
