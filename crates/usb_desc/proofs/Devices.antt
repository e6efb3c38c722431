-- A device that is read is spelled so, and one that is spelled so is read.
use Rattle.std.proofs.Common.{◌≡◌, ℕ, ◌<◌, ◌≤◌, cond, eqb, ltb, List, [], ◌∷◌, length, get_or, Result, Ok, Err, refl, sym, ap, subst, ◌∙◌, arith}
use Rattle.std.specs.List.{AllByRecursion}
use Rattle.std.proofs.lemmas.Bool.{ltb-false, eqb-true}
use Rattle.usb_desc.specs.declared.device.DeviceDesc.{DeviceDesc}
use Rattle.usb_desc.specs.declared.fault.DescFault.{DescFault}
use Rattle.usb_desc.specs.declared.fault.DescFault.TheVariants.{Short, BadLength, BadType}
use Rattle.usb_desc.specs.Good.{IsByte}
use Rattle.usb_desc.specs.Device.{spell_device, IsGoodDevice, device_fields, device_of}
use Rattle.usb_desc.proofs.Cuts.{passed, held}
use Rattle.usb_desc.proofs.Words.{low_word, high_word, word_again}

eighteen : (bytes : List ℕ) → length bytes ≡ 18 → get_or bytes 0 0 ≡ 18 → get_or bytes 1 0 ≡ 1 → AllByRecursion IsByte bytes
    → spell_device (device_fields bytes) ≡ bytes
eighteen (a ∷ b ∷ c ∷ d ∷ e ∷ f ∷ g ∷ h ∷ i ∷ j ∷ k ∷ l ∷ m ∷ n ∷ o ∷ p ∷ q ∷ r ∷ []) len head kind fits =
    let fc : c < 256 = fits.1.1.0 in
    let fi : i < 256 = fits.1.1.1.1.1.1.1.1.0 in
    let fk : k < 256 = fits.1.1.1.1.1.1.1.1.1.1.0 in
    let fm : m < 256 = fits.1.1.1.1.1.1.1.1.1.1.1.1.0 in
    rw (low_word c d fc, high_word c d fc, low_word i j fi, high_word i j fi, low_word k l fk, high_word k l fk, low_word m n fm, high_word m n fm)
    (ap (λ (x : ℕ). x ∷ 1 ∷ c ∷ d ∷ e ∷ f ∷ g ∷ h ∷ i ∷ j ∷ k ∷ l ∷ m ∷ n ∷ o ∷ p ∷ q ∷ r ∷ []) (sym head)
    ∙ ap (λ (x : ℕ). a ∷ x ∷ c ∷ d ∷ e ∷ f ∷ g ∷ h ∷ i ∷ j ∷ k ∷ l ∷ m ∷ n ∷ o ∷ p ∷ q ∷ r ∷ []) (sym kind))
eighteen _ len head kind fits = absurd (omega arith)

pub device_found : (bytes : List ℕ) (d : DeviceDesc) → AllByRecursion IsByte bytes → device_of bytes ≡ Ok d → IsGoodDevice d × (spell_device d ≡ bytes)
device_found bytes d fits e =
    let n = get_or bytes 0 0 in
    let fields : Result DeviceDesc DescFault = Ok (device_fields bytes) in
    let r5 : Result DeviceDesc DescFault = cond (ltb 18 (length bytes)) (Err (BadLength 18)) fields in
    let r4 : Result DeviceDesc DescFault = cond (eqb (get_or bytes 1 0) 1) r5 (Err (BadType 0)) in
    let r3 : Result DeviceDesc DescFault = cond (eqb n 18) r4 (Err (BadLength 0)) in
    let r2 : Result DeviceDesc DescFault = cond (ltb (length bytes) n) (Err (Short (length bytes))) r3 in
    let a = passed (ltb (length bytes) 2) (Short (length bytes)) r2 d e in
    let b = passed (ltb (length bytes) n) (Short (length bytes)) r3 d a.1 in
    let c = held (eqb n 18) (BadLength 0) r4 d b.1 in
    let g = held (eqb (get_or bytes 1 0) 1) (BadType 0) r5 d c.1 in
    let h = passed (ltb 18 (length bytes)) (BadLength 18) fields d g.1 in
    let within : n ≤ length bytes = ltb-false _ _ b.0 in
    let head : n ≡ 18 = eqb-true _ _ c.0 in
    let kind : get_or bytes 1 0 ≡ 1 = eqb-true _ _ g.0 in
    let few : length bytes ≤ 18 = ltb-false _ _ h.0 in
    let is : device_fields bytes ≡ d = cc in
    let spelled : spell_device d ≡ bytes = ap spell_device (sym is) ∙ eighteen bytes (omega arith) head kind fits in
    (record { bytes = subst (AllByRecursion IsByte) (sym spelled) fits; three = ap (λ (x : DeviceDesc). length x.texts) (sym is) }, spelled)

three_texts : (u c s p m v q r f : ℕ) (texts : List ℕ) → length texts ≡ 3
    → device_of (spell_device (record { usb = u; class = c; subclass = s; protocol = p; max0 = m; vendor = v; product = q; release = r; texts = texts; configs = f })) ≡ Ok (record { usb = u; class = c; subclass = s; protocol = p; max0 = m; vendor = v; product = q; release = r; texts = texts; configs = f })
three_texts u c s p m v q r f (x ∷ y ∷ z ∷ []) h = rw (word_again u, word_again v, word_again q, word_again r) refl
three_texts u c s p m v q r f _ h = absurd (omega arith)

pub device_again : (d : DeviceDesc) → IsGoodDevice d → device_of (spell_device d) ≡ Ok d
device_again d good = three_texts d.usb d.class d.subclass d.protocol d.max0 d.vendor d.product d.release d.configs d.texts good.three
