-- The endpoints of one device: all are its own, and each has an address of its own.
use Rattle.std.proofs.Common.{ℕ, zero, suc, ◌≡◌, ◌<◌, ◌≤◌, ⊎_elim, true, Option, Some, None, List, [], ◌∷◌, length, map, refl, sym, ap, ◌∙◌, subst, arith}
use Rattle.std.specs.Prelude.{slice_get}
use Rattle.std.specs.List.{All}
use Rattle.std.proofs.lemmas.List.{length-map}
use Rattle.std.proofs.lemmas.Option.{slice_get_within, get_or_from_slice_get}
use Rattle.usb_machine.specs.declared.layout.Shape.{Shape}
use Rattle.usb_desc.specs.declared.tree.End.{End}
use Rattle.usb_ctrl.specs.declared.enumerator.Attached.{Attached}
use Rattle.usb_bind.specs.Interfaces.{host_ends, shape_of_end}
use Rattle.usb_scene.specs.declared.scene.SceneDevice.{SceneDevice}
use Rattle.usb_scene.specs.WellFormed.{IsEnd, IsDevice, is_raw}
use Rattle.usb_prepare.specs.Ends.{attached_as, control_of, control_size, other_ends, device_ends}
use Rattle.usb_prepare.proofs.Few.{given_few}
use Rattle.usb_prepare.proofs.Host.{AreHost, host_apart, host_few}
use Rattle.usb_prepare.proofs.Sound.{attached_good}

-- these shapes are endpoints of device d, each with an address of its own, and they are few
pub record AreOwn (d : ℕ) (l : List Shape) : Type 0 where
  pub device : (i : ℕ) (x : Shape) → slice_get l i ≡ Some x → x.device ≡ d
  pub once : (i j : ℕ) (x y : Shape) → slice_get l i ≡ Some x → slice_get l j ≡ Some y → x.address ≡ y.address → i ≡ j
  pub few : length l ≤ 2000

-- and none has the address 00, so that endpoint 00 may come before them
record AreBeside (d : ℕ) (l : List Shape) : Type 0 where
  pub device : (i : ℕ) (x : Shape) → slice_get l i ≡ Some x → x.device ≡ d
  pub some : (i : ℕ) (x : Shape) → slice_get l i ≡ Some x → 0 < x.address
  pub once : (i j : ℕ) (x y : Shape) → slice_get l i ≡ Some x → slice_get l j ≡ Some y → x.address ≡ y.address → i ≡ j
  pub few : length l ≤ 1999

module _ (d size : ℕ) (l : List Shape) (is : AreBeside d l) where
  own_device : (i : ℕ) (x : Shape) → slice_get (control_of d size ∷ l) i ≡ Some x → x.device ≡ d
  own_device zero x at = let c : control_of d size ≡ x = cc in sym (ap (λ (t : Shape). t.device) c)
  own_device (suc i) x at = is.device i x at

  own_once : (i j : ℕ) (x y : Shape) → slice_get (control_of d size ∷ l) i ≡ Some x → slice_get (control_of d size ∷ l) j ≡ Some y → x.address ≡ y.address → i ≡ j
  own_once zero zero x y at bt e = refl
  own_once zero (suc j) x y at bt e = let c : control_of d size ≡ x = cc in let z = ap (λ (t : Shape). t.address) c in let s = is.some j y bt in absurd (omega arith)
  own_once (suc i) zero x y at bt e = let c : control_of d size ≡ y = cc in let z = ap (λ (t : Shape). t.address) c in let s = is.some i x at in absurd (omega arith)
  own_once (suc i) (suc j) x y at bt e = ap (λ k. suc k) (is.once i j x y at bt e)

  with_control : AreOwn d (control_of d size ∷ l)
  with_control = record { device = own_device; once = own_once; few = (let few = is.few in omega arith) }

-- the endpoints that a scene gives a device
is_end : (d : ℕ) (ends : List Shape) → All (IsEnd d) ends → (i : ℕ) (x : Shape) → slice_get ends i ≡ Some x → IsEnd d x
is_end d ends all i x at = subst (IsEnd d) (get_or_from_slice_get ends i x x at) (all i x (slice_get_within ends i x at))

given_beside : (d : ℕ) (device : SceneDevice) → IsDevice d device → AreBeside d device.script.ends
given_beside d device is = record {
  device = λ i x at. (is_end d device.script.ends is.ends i x at).device;
  some = λ i x at. ⊎_elim (λ (l : (0 < x.address) × (x.address < 16)). l.0) (λ (l : (128 < x.address) × (x.address < 144)). let a = l.0 in omega arith) (is_end d device.script.ends is.ends i x at).address;
  once = is.once;
  few = (let few = given_few d device is in omega arith);
}

-- what is mapped comes from something
mapped : {X Y : Type 0} (f : X → Y) (xs : List X) (i : ℕ) (y : Y) → slice_get (map f xs) i ≡ Some y → (x : X) × (slice_get xs i ≡ Some x) × (f x ≡ y)
mapped f [] i y e = cc
mapped f (x ∷ xs) zero y e = (x, refl, cc)
mapped f (x ∷ xs) (suc i) y e = mapped f xs i y e

-- the endpoints of an attached device's configuration
found_beside : (d : ℕ) (device : SceneDevice) (a : Attached) → IsDevice d device → attached_as d device ≡ Some a → AreBeside d (map (shape_of_end d) (host_ends a.config))
found_beside d device a is at = record {
  device = λ i x e. (let m = mapped shape ends i x e in sym (ap (λ (t : Shape). t.device) m.2));
  some = λ i x e. (let m = mapped shape ends i x e in let l = host.some i m.0 m.1 in let same = ap (λ (t : Shape). t.address) m.2 in omega arith);
  once = λ i j x y e f same. (let m = mapped shape ends i x e in let n = mapped shape ends j y f in
      host.once i j m.0 n.0 m.1 n.1 (ap (λ (t : Shape). t.address) m.2 ∙ (same ∙ sym (ap (λ (t : Shape). t.address) n.2))));
  few = (let few = host_few a.config (attached_good d device a is at) in let long = length-map ends shape in omega arith);
}
  where
    shape : End → Shape
    shape = shape_of_end d

    ends : List End
    ends = host_ends a.config

    host : AreHost ends
    host = host_apart a.config

pub ends_own : (d : ℕ) (device : SceneDevice) → IsDevice d device → AreOwn d (device_ends d device)
unfolding device_ends
ends_own d device is = go (attached_as d device) refl
  where
    go : (o : Option Attached) → attached_as d device ≡ o → AreOwn d (control_of d (control_size o) ∷ other_ends d device.script.ends o)
    go None at = with_control d 64 device.script.ends (given_beside d device is)
    go (Some a) at = with_control d a.device.max0 (map (shape_of_end d) (host_ends a.config)) (found_beside d device a is at)

-- a raw device has the endpoints that the scene gives
pub raw_ends : (d : ℕ) (device : SceneDevice) → is_raw device.script.kind ≡ true → device_ends d device ≡ control_of d 64 ∷ device.script.ends
unfolding device_ends attached_as
raw_ends d device raw = cc
