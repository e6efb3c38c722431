-- The devices of a scene are made one after another.
use Rattle.std.proofs.Common.{ℕ, suc, ◌≡◌, ◌+◌, ◌<◌, ◌⊎◌, inl, inr, true, false, cond, Some, None, Result, Ok, Err, List, [], ◌∷◌, ◌++◌, length, take, get_or, refl, sym, ap, ◌∙◌, subst, arith, length-append, add-zero}
use Rattle.std.specs.Prelude.{slice_get}
use Rattle.std.proofs.lemmas.List.{take_more, length-take-le}
use Rattle.std.proofs.lemmas.Option.{slice_get_within}
use Rattle.usb_ctrl.specs.declared.fault.EnumFault.{EnumFault}
use Rattle.usb_ctrl.specs.declared.enumerator.Attached.{Attached}
use Rattle.usb_ctrl.specs.declared.stage.Stage.{Stage}
use Rattle.usb_xfer.specs.declared.script.Kind.{Kind}
use Rattle.usb_xfer.specs.declared.script.Kind.TheVariants.{Raw, Keyboard, Acm, Printer}
use Rattle.usb_device.specs.declared.scripted.Scripted.{Scripted}
use Rattle.usb_device.specs.Device.{Call, Stands}
use Rattle.usb_device.specs.Device as devices
use Rattle.usb_scene.specs.WellFormed.{is_raw, AreGiven}
use Rattle.usb_scene.specs.declared.scene.SceneDevice.{SceneDevice}
use Rattle.usb_prepare.specs.declared.beginning.EnumeratedDevice.{EnumeratedDevice}
use Rattle.usb_prepare.specs.declared.beginning.EnumeratedDevices.{EnumeratedDevices}
use Rattle.usb_prepare.specs.Enumerated.{enumerated, attached_in, attached_of, fault_in, IsFound}
use Rattle.usb_prepare.specs.Ends.{address_of, attached_as}
use Rattle.usb_prepare.specs.Requests.{IsOwn}
use Rattle.usb_prepare.specs.Prepared.{requests_heard, enumeration_of, attached_from}
use Rattle.usb_prepare.specs.Bindings.{one_of, fault_as, faults_from, IsEnumerated, HaveHeard, enumerations_from, AreEnumerated, AddsDevice}
use Rattle.usb_prepare.proofs.Lists.{in_longer}

raw_same : (k : Kind) → devices.is_raw k ≡ is_raw k
raw_same Raw = refl
raw_same Keyboard = refl
raw_same Acm = refl
raw_same Printer = refl

pub own : (device : SceneDevice) → is_raw device.script.kind ≡ false → AreGiven 65535 device.script.config → IsOwn device.script
own device other given = record { other = raw_same device.script.kind ∙ other; config = given }

module _ (d : ℕ) (device : SceneDevice) (made : Scripted) where
  pub begun_raw : is_raw device.script.kind ≡ true → Stands made device.script [] → IsEnumerated d device record { device = made; attached = None; fault = None }
  unfolding attached_as
  begun_raw raw stands = record {
    heard = subst (Stands made device.script) (sym (ap (λ b. cond b [] (requests_heard device.script (address_of d) 6)) raw)) stands;
    attached = sym (ap (λ b. cond b None (attached_of device.script (address_of d))) raw);
    fault = sym (ap (λ b. cond b None (fault_in (enumerated device.script (address_of d)))) raw);
  }

  pub begun_other : (told : Result Attached EnumFault) → is_raw device.script.kind ≡ false → IsFound (address_of d) (enumerated device.script (address_of d)) told
      → Stands made device.script (requests_heard device.script (address_of d) 6) → IsEnumerated d device (one_of made told)
  unfolding attached_as
  begun_other (Ok a) other is stands = record {
    heard = subst (Stands made device.script) (sym (ap (λ b. cond b [] (requests_heard device.script (address_of d) 6)) other)) stands;
    attached = sym is ∙ sym (ap (λ b. cond b None (attached_of device.script (address_of d))) other);
    fault = no_fault (enumerated device.script (address_of d)) is ∙ sym (ap (λ b. cond b None (fault_in (enumerated device.script (address_of d)))) other);
  }
    where
      no_fault : (r : Result Stage EnumFault) → attached_in (address_of d) r ≡ Some a → None ≡ fault_in r
      no_fault (Ok stage) e = refl
      no_fault (Err fault) e = cc
  begun_other (Err fault) other is stands = record {
    heard = subst (Stands made device.script) (sym (ap (λ b. cond b [] (requests_heard device.script (address_of d) 6)) other)) stands;
    attached = sym (ap (attached_in (address_of d)) is) ∙ sym (ap (λ b. cond b None (attached_of device.script (address_of d))) other);
    fault = sym (ap fault_in is) ∙ sym (ap (λ b. cond b None (fault_in (enumerated device.script (address_of d)))) other);
  }

-- one device more
pub attached-snoc : (n : ℕ) (ds : List SceneDevice) (x : SceneDevice) → attached_from n (ds ++ x ∷ []) ≡ attached_from n ds ++ attached_as (n + length ds) x ∷ []
attached-snoc n [] x = ap (λ k. attached_as k x ∷ []) (sym (add-zero n))
attached-snoc n (y ∷ ds) x = let same : n + 1 + length ds ≡ n + suc (length ds) = omega arith in
    ap (λ l. attached_as n y ∷ l) (attached-snoc (n + 1) ds x ∙ ap (λ k. attached_from (n + 1) ds ++ attached_as k x ∷ []) same)

faults-snoc : (n : ℕ) (ds : List SceneDevice) (x : SceneDevice) → faults_from n (ds ++ x ∷ []) ≡ faults_from n ds ++ fault_as (n + length ds) x ∷ []
faults-snoc n [] x = ap (λ k. fault_as k x ∷ []) (sym (add-zero n))
faults-snoc n (y ∷ ds) x = let same : n + 1 + length ds ≡ n + suc (length ds) = omega arith in
    ap (λ l. fault_as n y ∷ l) (faults-snoc (n + 1) ds x ∙ ap (λ k. faults_from (n + 1) ds ++ fault_as k x ∷ []) same)

enumerations-snoc : (n : ℕ) (ds : List SceneDevice) (x : SceneDevice) → enumerations_from n (ds ++ x ∷ []) ≡ enumerations_from n ds ++ enumeration_of (n + length ds) x ∷ []
enumerations-snoc n [] x = ap (λ k. enumeration_of k x ∷ []) (sym (add-zero n))
enumerations-snoc n (y ∷ ds) x = let same : n + 1 + length ds ≡ n + suc (length ds) = omega arith in
    ap (λ l. enumeration_of n y ∷ l) (enumerations-snoc (n + 1) ds x ∙ ap (λ k. enumerations_from (n + 1) ds ++ enumeration_of k x ∷ []) same)

pub heard_more : (ds : List SceneDevice) (hs : List (List Call)) (all : List Scripted) (x : SceneDevice) (calls : List Call) (one : Scripted) → HaveHeard ds hs all → Stands one x.script calls
    → HaveHeard (ds ++ x ∷ []) (hs ++ calls ∷ []) (all ++ one ∷ [])
heard_more ds hs all x calls one old new = record {
  count = (let a = length-append ds (x ∷ []) in let b = length-append all (one ∷ []) in let c = old.count in omega arith);
  same = (let a = length-append ds (x ∷ []) in let b = length-append hs (calls ∷ []) in let c = old.same in omega arith);
  each = λ d device cs made p q r. go d device cs made (in_longer ds x device d p) (in_longer hs calls cs d q) (in_longer all one made d r);
}
  where
    go : (d : ℕ) (device : SceneDevice) (cs : List Call) (made : Scripted) → (slice_get ds d ≡ Some device) ⊎ ((d ≡ length ds) × (device ≡ x)) → (slice_get hs d ≡ Some cs) ⊎ ((d ≡ length hs) × (cs ≡ calls))
        → (slice_get all d ≡ Some made) ⊎ ((d ≡ length all) × (made ≡ one)) → Stands made device.script cs
    go d device cs made (inl a) (inl b) (inl c) = old.each d device cs made a b c
    go d device cs made (inr a) (inr b) (inr c) = subst (λ (y : SceneDevice). Stands made y.script cs) (sym a.1) (subst (Stands made x.script) (sym b.1) (subst (λ (m : Scripted). Stands m x.script calls) (sym c.1) new))
    go d device cs made (inl a) (inr b) c = let near = slice_get_within ds d device a in let same = old.same in let at = b.0 in absurd (omega arith)
    go d device cs made (inl a) (inl b) (inr c) = let near = slice_get_within ds d device a in let same = old.count in let at = c.0 in absurd (omega arith)
    go d device cs made (inr a) (inl b) c = let near = slice_get_within hs d cs b in let same = old.same in let at = a.0 in absurd (omega arith)
    go d device cs made (inr a) (inr b) (inl c) = let near = slice_get_within all d made c in let same = old.count in let at = a.0 in absurd (omega arith)

pub begun_none : (b : EnumeratedDevices) → b.devices.items ≡ [] → b.attached ≡ [] → b.faults ≡ [] → AreEnumerated [] b
begun_none b d a f = record {
  heard = record { count = ap (λ (l : List Scripted). length l) d; same = refl; each = λ k device calls one p q r. cc };
  attached = a;
  faults = f;
}

pub begun_longer : (ds : List SceneDevice) (i : ℕ) (x : SceneDevice) (old new : EnumeratedDevices) (one : EnumeratedDevice) → i < length ds → AreEnumerated (take i ds) old → IsEnumerated i (get_or ds i x) one → AddsDevice old one new → AreEnumerated (take (i + 1) ds) new
begun_longer ds i x old new one near are is adds =
    let y = get_or ds i x in
    let long : length (take i ds) ≡ i = length-take-le i ds (omega arith) in
    let place : 0 + length (take i ds) ≡ i = omega arith in
    let more : take (i + 1) ds ≡ take i ds ++ y ∷ [] = take_more ds i x near in
    let all : HaveHeard (take i ds ++ y ∷ []) (enumerations_from 0 (take i ds) ++ enumeration_of i y ∷ []) (old.devices.items ++ one.device ∷ []) =
    heard_more (take i ds) (enumerations_from 0 (take i ds)) old.devices.items y (enumeration_of i y) one.device are.heard is.heard in
    record {
      heard = subst (λ l. HaveHeard l (enumerations_from 0 l) new.devices.items) (sym more)
          (subst (HaveHeard (take i ds ++ y ∷ []) (enumerations_from 0 (take i ds ++ y ∷ []))) (sym adds.devices)
          (subst (λ h. HaveHeard (take i ds ++ y ∷ []) h (old.devices.items ++ one.device ∷ [])) (sym (enumerations-snoc 0 (take i ds) y ∙ ap (λ k. enumerations_from 0 (take i ds) ++ enumeration_of k y ∷ []) place)) all));
      attached = adds.attached ∙ ((λ j. are.attached j ++ is.attached j ∷ []) ∙ (sym (attached-snoc 0 (take i ds) y ∙ ap (λ k. attached_from 0 (take i ds) ++ attached_as k y ∷ []) place) ∙ ap (attached_from 0) (sym more)));
      faults = adds.faults ∙ ((λ j. are.faults j ++ is.fault j ∷ []) ∙ (sym (faults-snoc 0 (take i ds) y ∙ ap (λ k. faults_from 0 (take i ds) ++ fault_as k y ∷ []) place) ∙ ap (faults_from 0) (sym more)));
    }
