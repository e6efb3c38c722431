-- Each endpoint of a scene has an address of its own in its device.
use Rattle.std.proofs.Common.{ℕ, zero, suc, ◌≡◌, ◌+◌, ◌<◌, ◌≤◌, ⊎_elim, Some, List, [], ◌∷◌, ◌++◌, length, take, refl, sym, ap, subst, ◌∙◌, arith, length-append, add-zero, zero-add}
use Rattle.std.specs.Prelude.{slice_get}
use Rattle.usb_machine.specs.declared.layout.Shape.{Shape}
use Rattle.usb_scene.specs.declared.scene.SceneDevice.{SceneDevice}
use Rattle.usb_prepare.specs.Ends.{device_ends, shapes_from}
use Rattle.usb_prepare.proofs.Lists.{in_either, in_front, get_after}
use Rattle.usb_prepare.proofs.Own.{AreOwn, ends_own}
use Rattle.usb_prepare.proofs.Numbering.{AreDevices, first_is, others_are}

-- no two of these shapes have one device and one address
abbrev pub AreApart : List Shape → Type 0
AreApart l = (i j : ℕ) (x y : Shape) → slice_get l i ≡ Some x → slice_get l j ≡ Some y → x.device ≡ y.device → x.address ≡ y.address → i ≡ j

-- the devices of these shapes are n and above, and below m
abbrev AreBetween : ℕ → ℕ → List Shape → Type 0
AreBetween n m l = (i : ℕ) (x : Shape) → slice_get l i ≡ Some x → (n ≤ x.device) × (x.device < m)

both_apart : (n : ℕ) (m : ℕ) (xs ys : List Shape) → AreApart xs → AreApart ys → AreBetween 0 n xs → AreBetween n m ys → AreApart (xs ++ ys)
both_apart n m xs ys a b p q i j x y at bt same e =
    ⊎_elim
    (λ (l : slice_get xs i ≡ Some x). ⊎_elim
    (λ (k : slice_get xs j ≡ Some y). a i j x y l k same e)
    (λ (r : (k : ℕ) × (j ≡ length xs + k) × (slice_get ys k ≡ Some y)). let s = (p i x l).1 in let t = (q r.0 y r.2).0 in absurd (omega arith))
    (in_either xs ys j y bt))
    (λ (l : (k : ℕ) × (i ≡ length xs + k) × (slice_get ys k ≡ Some x)). ⊎_elim
    (λ (k : slice_get xs j ≡ Some y). let s = (p j y k).1 in let t = (q l.0 x l.2).0 in absurd (omega arith))
    (λ (r : (k : ℕ) × (j ≡ length xs + k) × (slice_get ys k ≡ Some y)). let s = l.1 in let t = r.1 in let u = b l.0 r.0 x y l.2 r.2 same e in omega arith)
    (in_either xs ys j y bt))
    (in_either xs ys i x at)

both_between : (n m : ℕ) (xs ys : List Shape) → AreBetween n m xs → AreBetween n m ys → AreBetween n m (xs ++ ys)
both_between n m xs ys a b i x at = ⊎_elim (λ (l : slice_get xs i ≡ Some x). a i x l) (λ (r : (k : ℕ) × (i ≡ length xs + k) × (slice_get ys k ≡ Some x)). b r.0 x r.2) (in_either xs ys i x at)

-- the endpoints of one device
module _ (n : ℕ) (l : List Shape) (own : AreOwn n l) where
  own_apart : AreApart l
  own_apart i j x y at bt same e = own.once i j x y at bt e

  own_between : AreBetween n (n + 1) l
  own_between i x at = let d = own.device i x at in ((omega arith), omega arith)

weaker : (n m k j : ℕ) (l : List Shape) → k ≤ n → m ≤ j → AreBetween n m l → AreBetween k j l
weaker n m k j l a b is i x at = let h = is i x at in let p = h.0 in let q = h.1 in ((omega arith), omega arith)

pub shapes_between : (n : ℕ) (ds : List SceneDevice) → AreDevices n ds → AreBetween n (n + length ds) (shapes_from n ds)
shapes_between n [] all i x at = cc
shapes_between n (d ∷ ds) all i x at =
    both_between n (n + suc (length ds)) (device_ends n d) (shapes_from (n + 1) ds)
    (weaker n (n + 1) n (n + suc (length ds)) (device_ends n d) (omega arith) (omega arith) (own_between n (device_ends n d) (ends_own n d (first_is n d ds all))))
    (weaker (n + 1) (n + 1 + length ds) n (n + suc (length ds)) (shapes_from (n + 1) ds) (omega arith) (omega arith) (shapes_between (n + 1) ds (others_are n d ds all)))
    i x at

pub shapes_apart : (n : ℕ) (ds : List SceneDevice) → AreDevices n ds → AreApart (shapes_from n ds)
shapes_apart n [] all i j x y at bt same e = cc
shapes_apart n (d ∷ ds) all i j x y at bt same e =
    both_apart (n + 1) (n + 1 + length ds) (device_ends n d) (shapes_from (n + 1) ds)
    (own_apart n (device_ends n d) (ends_own n d (first_is n d ds all)))
    (shapes_apart (n + 1) ds (others_are n d ds all))
    (weaker n (n + 1) 0 (n + 1) (device_ends n d) (omega arith) (omega arith) (own_between n (device_ends n d) (ends_own n d (first_is n d ds all))))
    (shapes_between (n + 1) ds (others_are n d ds all))
    i j x y at bt same e

-- an endpoint is one of its device
pub of_device : (n : ℕ) (ds : List SceneDevice) → AreDevices n ds → (i : ℕ) (x : Shape) → slice_get (shapes_from n ds) i ≡ Some x
    → (j : ℕ) × (device : SceneDevice) × (k : ℕ) × (slice_get ds j ≡ Some device) × (x.device ≡ n + j) × (slice_get (device_ends (n + j) device) k ≡ Some x)
of_device n [] all i x at = cc
of_device n (d ∷ ds) all i x at = ⊎_elim
    (λ (l : slice_get (device_ends n d) i ≡ Some x).
    let same : n ≡ n + 0 = omega arith in
    (0, d, i, refl, (ends_own n d (first_is n d ds all)).device i x l ∙ same, subst (λ (m : ℕ). slice_get (device_ends m d) i ≡ Some x) same l))
    (λ (r : (k : ℕ) × (i ≡ length (device_ends n d) + k) × (slice_get (shapes_from (n + 1) ds) k ≡ Some x)).
    let o = of_device (n + 1) ds (others_are n d ds all) r.0 x r.2 in
    let same : n + 1 + o.0 ≡ n + suc o.0 = omega arith in
    (suc o.0, o.1, o.2, o.3, o.4 ∙ same, subst (λ (m : ℕ). slice_get (device_ends m o.1) o.2 ≡ Some x) same o.5))
    (in_either (device_ends n d) (shapes_from (n + 1) ds) i x at)

-- and the endpoints of a device come after those of the devices before it
pub stands_after : (n d : ℕ) (ds : List SceneDevice) (device : SceneDevice) (k : ℕ) (x : Shape) → slice_get ds d ≡ Some device → slice_get (device_ends (n + d) device) k ≡ Some x
    → slice_get (shapes_from n ds) (length (shapes_from n (take d ds)) + k) ≡ Some x
stands_after n d [] device k x at is = cc
stands_after n zero (y ∷ ds) device k x at is =
    let same : y ≡ device = cc in
    ap (slice_get (shapes_from n (y ∷ ds))) (zero-add k)
    ∙ in_front (device_ends n y) (shapes_from (n + 1) ds) k x ((λ i. slice_get (device_ends (sym (add-zero n) i) (same i)) k) ∙ is)
stands_after n (suc d) (y ∷ ds) device k x at is =
    let next : n + 1 + d ≡ n + suc d = omega arith in
    let before = shapes_from (n + 1) (take d ds) in
    let rest = stands_after (n + 1) d ds device k x at (ap (λ m. slice_get (device_ends m device) k) next ∙ is) in
    let long = length-append (device_ends n y) before in
    let place : length (device_ends n y ++ before) + k ≡ length (device_ends n y) + (length before + k) = omega arith in
    ap (slice_get (shapes_from n (y ∷ ds))) place ∙ (get_after (device_ends n y) (shapes_from (n + 1) ds) (length before + k) ∙ rest)
