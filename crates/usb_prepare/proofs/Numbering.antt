-- Endpoints are numbered device by device.
use Rattle.std.proofs.Common.{ℕ, suc, ◌≡◌, ◌≢◌, ◌+◌, ◌<◌, ◌≤◌, ◌^◌, false, ◌||◌, ◌&&◌, eqb, ◌*◌, Option, Some, None, List, [], ◌∷◌, ◌++◌, length, take, drop, get_or, map, refl, sym, ap, ◌∙◌, subst, arith, append_assoc, append-nil, length-append, add-zero, zero-add, ne_eqb}
use Rattle.std.specs.Prelude.{slice_get}
use Rattle.std.specs.List.{list_any}
use Rattle.std.proofs.lemmas.Grind.{common_steps}
use Rattle.std.proofs.lemmas.List.{take_more, take-append-drop}
use Rattle.std.proofs.Math.Seq.{take-append_seam}
use Rattle.std.proofs.lemmas.Option.{slice_get-get_or, slice_get_within, get_or_from_slice_get}
use Rattle.std.proofs.lemmas.List.Folds.{list_any-append, list_any_none}
use Rattle.usb_machine.specs.declared.layout.Shape.{Shape}
use Rattle.usb_scene.specs.declared.scene.Scene.{Scene}
use Rattle.usb_scene.specs.declared.scene.SceneDevice.{SceneDevice}
use Rattle.usb_scene.specs.declared.scene.SceneUrb.{SceneUrb}
use Rattle.usb_scene.specs.WellFormed.{IsDevice, HasEnd, IsUrb, IsWellFormed}
use Rattle.usb_prepare.specs.Below.{below}
use Rattle.usb_prepare.specs.Ends.{device_ends, shapes_from, is_at, first_end}
use Rattle.usb_prepare.proofs.Below.{map_below-suc, length-map_below, get-map_below}
use Rattle.usb_prepare.proofs.Lists.{slice_get-take}
use Rattle.usb_prepare.proofs.Own.{AreOwn, ends_own}

-- devices, of which the first has this number
abbrev pub AreDevices : ℕ → List SceneDevice → Type 0
AreDevices n ds = (j : ℕ) (device : SceneDevice) → slice_get ds j ≡ Some device → IsDevice (n + j) device

pub first_is : (n : ℕ) (x : SceneDevice) (ds : List SceneDevice) → AreDevices n (x ∷ ds) → IsDevice n x
first_is n x ds all = let same : n + 0 ≡ n = omega arith in subst (λ (k : ℕ). IsDevice k x) same (all 0 x refl)

pub others_are : (n : ℕ) (x : SceneDevice) (ds : List SceneDevice) → AreDevices n (x ∷ ds) → AreDevices (n + 1) ds
others_are n x ds all j device at = let next : n + suc j ≡ n + 1 + j = omega arith in subst (λ (k : ℕ). IsDevice k device) next (all (suc j) device at)

-- one device more
shapes-snoc : (n : ℕ) (ds : List SceneDevice) (d : SceneDevice) → shapes_from n (ds ++ d ∷ []) ≡ shapes_from n ds ++ device_ends (n + length ds) d
shapes-snoc n [] d = append-nil (device_ends n d) ∙ ap (λ (k : ℕ). device_ends k d) (sym (add-zero n))
shapes-snoc n (x ∷ ds) d = let e : n + 1 + length ds ≡ n + suc (length ds) = omega arith in
    ap (λ l. device_ends n x ++ l) (shapes-snoc (n + 1) ds d ∙ ap (λ (k : ℕ). shapes_from (n + 1) ds ++ device_ends k d) e)
    ∙ sym (append_assoc (device_ends n x) (shapes_from (n + 1) ds) (device_ends (n + suc (length ds)) d))

pub shapes_longer : (ds : List SceneDevice) (i : ℕ) (d : SceneDevice) (before after : List Shape) → i < length ds
    → before ≡ shapes_from 0 (take i ds) → after ≡ before ++ device_ends i (get_or ds i d) → after ≡ shapes_from 0 (take (i + 1) ds)
shapes_longer ds i d before after near b a =
    let long : length (take i ds) ≡ i = grind (arith, common_steps) in
    let n : i ≡ 0 + length (take i ds) = sym long ∙ sym (zero-add (length (take i ds))) in
    a ∙ ((λ j. b j ++ device_ends (n j) (get_or ds i d))
    ∙ (sym (shapes-snoc 0 (take i ds) (get_or ds i d)) ∙ ap (shapes_from 0) (sym (take_more ds i d near))))

-- no endpoint of these devices belongs to a device of a higher number
others : (d m address : ℕ) (l : List Shape) → AreOwn d l → d ≢ m → list_any (is_at m address) l ≡ false
others d m address l own off = list_any_none (is_at m address) l
    (λ k x near. let at = slice_get-get_or l k x near in let is = own.device k (get_or l k x) at in
    ap (λ b. b && eqb (get_or l k x).address address) (ne_eqb (get_or l k x).device m (λ e. off (sym is ∙ e))))

none_before : (n m address : ℕ) (ds : List SceneDevice) → AreDevices n ds → n + length ds ≤ m → list_any (is_at m address) (shapes_from n ds) ≡ false
none_before n m address [] all l = refl
none_before n m address (x ∷ ds) all l =
    let off : n ≢ m = λ e. absurd (omega arith) in
    let here = others n m address (device_ends n x) (ends_own n x (first_is n x ds all)) off in
    let later = none_before (n + 1) m address ds (others_are n x ds all) (omega arith) in
    list_any-append (is_at m address) (device_ends n x) (shapes_from (n + 1) ds) ∙ (λ i. here i || later i)

shapes-append : (n : ℕ) (xs ys : List SceneDevice) → shapes_from n (xs ++ ys) ≡ shapes_from n xs ++ shapes_from (n + length xs) ys
shapes-append n [] ys = ap (λ (k : ℕ). shapes_from k ys) (sym (add-zero n))
shapes-append n (x ∷ xs) ys = let e : n + 1 + length xs ≡ n + suc (length xs) = omega arith in
    ap (λ l. device_ends n x ++ l) (shapes-append (n + 1) xs ys ∙ ap (λ (k : ℕ). shapes_from (n + 1) xs ++ shapes_from k ys) e)
    ∙ sym (append_assoc (device_ends n x) (shapes_from (n + 1) xs) (shapes_from (n + suc (length xs)) ys))

-- one device more is numbered
pub firsts_longer : (ds : List SceneDevice) (i n : ℕ) (before : List Shape) (old new : List ℕ) → before ≡ shapes_from 0 (take i ds) → old ≡ map (first_end ds) (below i) → n ≡ length before
    → new ≡ old ++ n ∷ [] → new ≡ map (first_end ds) (below (i + 1))
firsts_longer ds i n before old new b o l e =
    e ∙ ((λ j. o j ++ (l ∙ ap (λ (l : List Shape). length l) b) j ∷ []) ∙ map_below-suc (first_end ds) i)

few_from : (n : ℕ) (ds : List SceneDevice) → AreDevices n ds → length (shapes_from n ds) ≤ 2000 * length ds
few_from n [] all = omega arith
few_from n (x ∷ ds) all =
    let one = (ends_own n x (first_is n x ds all)).few in
    let more = few_from (n + 1) ds (others_are n x ds all) in
    let long = length-append (device_ends n x) (shapes_from (n + 1) ds) in
    omega arith

module _ (s : Scene) (good : IsWellFormed s) where
  pub devices_at : AreDevices 0 s.devices
  devices_at j device at = subst (λ (m : ℕ). IsDevice m device) (sym (zero-add j)) (good.devices j device at)

  pub few_ends : length (shapes_from 0 s.devices) ≤ 32000
  few_ends = let few = few_from 0 s.devices devices_at in let devices = good.few_devices in omega arith

  -- where the endpoints of a device begin
  module _ (d : ℕ) where
    pub split : shapes_from 0 s.devices ≡ shapes_from 0 (take d s.devices) ++ shapes_from (0 + length (take d s.devices)) (drop d s.devices)
    split = ap (shapes_from 0) (sym (take-append-drop d s.devices)) ∙ shapes-append 0 (take d s.devices) (drop d s.devices)

    pub first_within : first_end s.devices d ≤ length (shapes_from 0 s.devices)
    first_within = let e = ap (λ (l : List Shape). length l) split in
        let a = length-append (shapes_from 0 (take d s.devices)) (shapes_from (0 + length (take d s.devices)) (drop d s.devices)) in omega arith

    pub none_first : (address : ℕ) → d < length s.devices → list_any (is_at d address) (take (first_end s.devices d) (shapes_from 0 s.devices)) ≡ false
    none_first address near =
        let some : length (take d s.devices) ≤ d = grind (arith, common_steps) in
        ap (λ l. list_any (is_at d address) (take (first_end s.devices d) l)) split
        ∙ (ap (list_any (is_at d address)) (take-append_seam (shapes_from 0 (take d s.devices)) (shapes_from (0 + length (take d s.devices)) (drop d s.devices)))
        ∙ none_before 0 d address (take d s.devices) (λ j device at. devices_at j device (slice_get-take s.devices d j device at)) (omega arith))

  -- the endpoints of device d end within all of them
  pub ends_within : (d : ℕ) (device : SceneDevice) → slice_get s.devices d ≡ Some device → first_end s.devices d + length (device_ends d device) ≤ length (shapes_from 0 s.devices)
  ends_within d device at =
      let near = slice_get_within s.devices d device at in
      let is : get_or s.devices d device ≡ device = get_or_from_slice_get s.devices d device device at in
      let next : shapes_from 0 (take d s.devices) ++ device_ends d (get_or s.devices d device) ≡ shapes_from 0 (take (d + 1) s.devices) = shapes_longer s.devices d device (shapes_from 0 (take d s.devices)) (shapes_from 0 (take d s.devices) ++ device_ends d (get_or s.devices d device)) near refl refl in
      let long = ap (λ (l : List Shape). length l) next in
      let sum = length-append (shapes_from 0 (take d s.devices)) (device_ends d (get_or s.devices d device)) in
      let same = ap (λ (x : SceneDevice). length (device_ends d x)) is in
      let most = first_within (d + 1) in
      omega arith

  -- the device of an URB is there
  pub device_near : (urb : SceneUrb) → IsUrb s urb → urb.device < length s.devices
  device_near urb is = go (slice_get s.devices urb.device) refl is.home
    where
      go : (o : Option SceneDevice) → slice_get s.devices urb.device ≡ o → HasEnd urb.address o → urb.device < length s.devices
      go None e has = absurd has
      go (Some device) e has = slice_get_within s.devices urb.device device e

  -- what the search for an URB's home finds of its device
  module _ (urbs : List SceneUrb) (k : ℕ) (urb : SceneUrb) (shapes : List Shape) (firsts : List ℕ) (same : urbs ≡ s.urbs) (near : k < length urbs) (at : urb ≡ get_or urbs k urb)
      (shapes_so : shapes ≡ shapes_from 0 s.devices) (firsts_so : firsts ≡ map (first_end s.devices) (below (length s.devices))) where
    is_urb : IsUrb s urb
    is_urb = subst (IsUrb s) (sym (at ∙ ap (λ l. get_or l k urb) same)) (good.urbs k urb (subst (λ l. k < length l) same near))

    pub device_known : urb.device < length firsts
    device_known = let l = device_near urb is_urb in let long = ap (λ (l : List ℕ). length l) firsts_so ∙ length-map_below (first_end s.devices) (length s.devices) in omega arith

    pub first_of : get_or firsts urb.device 0 ≡ first_end s.devices urb.device
    first_of = ap (λ l. get_or l urb.device 0) firsts_so ∙ get-map_below (first_end s.devices) (length s.devices) urb.device 0 (device_near urb is_urb)

    pub start_within : get_or firsts urb.device 0 ≤ length shapes
    start_within = let l = first_within urb.device in let e = first_of in let long = ap (λ (l : List Shape). length l) shapes_so in omega arith

    pub none_earlier : list_any (is_at urb.device urb.address) (take (get_or firsts urb.device 0) shapes) ≡ false
    none_earlier = (λ i. list_any (is_at urb.device urb.address) (take (first_of i) (shapes_so i))) ∙ none_first urb.device urb.address (device_near urb is_urb)

    pub few_shapes : length shapes < 2 ^ 31
    few_shapes = let few = few_ends in let long = ap (λ (l : List Shape). length l) shapes_so in omega arith
