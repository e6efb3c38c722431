-- The bytes of a device, and the device that bytes are.
use Rattle.std.specs.Prelude.{◌≡◌, ℕ, ◌==◌, nat_lt, if◌then◌else◌, List, [], ◌∷◌, ◌++◌, length, slice_index, Option, Result, Ok, Err}
use Rattle.std.specs.List.{AllByRecursion}
use Rattle.usb_desc.specs.declared.device.DeviceDesc.{DeviceDesc}
use Rattle.usb_desc.specs.declared.fault.DescFault.{DescFault}
use Rattle.usb_desc.specs.declared.fault.DescFault.TheVariants.{Short, BadLength, BadType}
use Rattle.usb_desc.specs.Spell.{low, high}
use Rattle.usb_desc.specs.Good.{IsByte}
use Rattle.usb_desc.specs.Growth.{word_at}
use Rattle.usb_desc.specs.Read.{fault_in}

abbrev pub spell_device : DeviceDesc → List ℕ
spell_device d =
    18 ∷ 1 ∷ low d.usb ∷ high d.usb ∷ d.class ∷ d.subclass ∷ d.protocol ∷ d.max0 ∷ low d.vendor ∷ high d.vendor
    ∷ low d.product ∷ high d.product ∷ low d.release ∷ high d.release ∷ d.texts ++ d.configs ∷ []

-- three strings, and each number is a byte in its place
pub record IsGoodDevice (d : DeviceDesc) : Type 0 where
  pub bytes : AllByRecursion IsByte (spell_device d)
  pub three : length d.texts ≡ 3

abbrev pub device_fields : List ℕ → DeviceDesc
device_fields d = record {
  usb = word_at d 2 3;
  class = slice_index d 4;
  subclass = slice_index d 5;
  protocol = slice_index d 6;
  max0 = slice_index d 7;
  vendor = word_at d 8 9;
  product = word_at d 10 11;
  release = word_at d 12 13;
  texts = slice_index d 14 ∷ slice_index d 15 ∷ slice_index d 16 ∷ [];
  configs = slice_index d 17;
}

-- the device that the bytes are, or their first fault
abbrev pub device_of : List ℕ → Result DeviceDesc DescFault
device_of bytes =
    if nat_lt (length bytes) 2 then Err (Short (length bytes))
    else if nat_lt (length bytes) (slice_index bytes 0) then Err (Short (length bytes))
    else if slice_index bytes 0 == 18 then
    (if slice_index bytes 1 == 1 then (if nat_lt 18 (length bytes) then Err (BadLength 18) else Ok (device_fields bytes)) else Err (BadType 0))
    else Err (BadLength 0)

-- the first fault of bytes that should be a device, where they have one
abbrev pub first_device_fault : List ℕ → Option DescFault
first_device_fault bytes = fault_in (device_of bytes)
