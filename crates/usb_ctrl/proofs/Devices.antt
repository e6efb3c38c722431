-- What is known of the bytes that a device was read from.
use Rattle.std.proofs.Common.{◌≡◌, ℕ, ◌≤◌, ◌==◌, Bool, true, false, cond, List, length, get_or, Result, Ok, Err, refl, arith}
use Rattle.std.specs.Prelude.{nat_lt}
use Rattle.std.proofs.lemmas.Bool.{eqb-true, ltb-false}
use Rattle.usb_desc.specs.declared.device.DeviceDesc.{DeviceDesc}
use Rattle.usb_desc.specs.declared.fault.DescFault.{DescFault}
use Rattle.usb_desc.specs.Device.{device_of}

-- where one of three tests has to be answered so
third : {X : Type 0} (a b c : Bool) (e f g : DescFault) (r : Result X DescFault) (x : X) →
    cond a (Err e) (cond b (Err f) (cond c r (Err g))) ≡ Ok x → (b ≡ false) × (c ≡ true)
third true b c e f g r x h = cc
third false true c e f g r x h = cc
third false false true e f g r x h = (refl, refl)
third false false false e f g r x h = cc

pub device_is_long : (bytes : List ℕ) (d : DeviceDesc) → device_of bytes ≡ Ok d → 8 ≤ length bytes
device_is_long bytes d h =
    let t = third (nat_lt (length bytes) 2) (nat_lt (length bytes) (get_or bytes 0 0)) (get_or bytes 0 0 == 18) _ _ _ _ d h in
    let fits : get_or bytes 0 0 ≤ length bytes = ltb-false (length bytes) (get_or bytes 0 0) t.0 in
    let long : get_or bytes 0 0 ≡ 18 = eqb-true (get_or bytes 0 0) 18 t.1 in
    omega arith
