-- Which interfaces a row of a driver's table matches, after `struct usb_device_id` and `usb_match_id` of the kernel.
use Rattle.std.specs.Prelude.{◌≡◌, ◌≤◌, ℕ, Bool, true, false, not, ◌&&◌, ◌||◌, ◌==◌, nat_le, bit_and, List, Option, find}
use Rattle.usb_desc.specs.declared.device.DeviceDesc.{DeviceDesc}
use Rattle.usb_desc.specs.declared.tree.Alt.{Alt}
use Rattle.usb_bind.specs.declared.row.IdRow.{IdRow}

-- whether one of these flags is set
abbrev pub is_set : IdRow → ℕ → Bool
is_set row flags = not (bit_and row.flags flags == 0)

-- a fact that a row asks for where its flag is set
abbrev pub Asks : IdRow → ℕ → Type 0 → Type 0
Asks row flag P = is_set row flag ≡ true → P

-- at least one flag is set, which is this project's own rule; each set flag's field fits; and a device of a vendor's
-- class is matched by its interfaces only where its vendor is asked for
pub record Matches (row : IdRow) (device : DeviceDesc) (alt : Alt) : Type 0 where
  pub some : is_set row 0x7FF ≡ true
  pub vendor : Asks row 0x1 (row.vendor ≡ device.vendor)
  pub product : Asks row 0x2 (row.product ≡ device.product)
  pub lowest : Asks row 0x4 (row.lo ≤ device.release)
  pub highest : Asks row 0x8 (device.release ≤ row.hi)
  pub class : Asks row 0x10 (row.class ≡ device.class)
  pub subclass : Asks row 0x20 (row.subclass ≡ device.subclass)
  pub protocol : Asks row 0x40 (row.protocol ≡ device.protocol)
  pub int_class : Asks row 0x80 (row.int_class ≡ alt.class)
  pub int_subclass : Asks row 0x100 (row.int_subclass ≡ alt.subclass)
  pub int_protocol : Asks row 0x200 (row.int_protocol ≡ alt.protocol)
  pub int_number : Asks row 0x400 (row.int_number ≡ alt.number)
  pub own_class : device.class ≡ 0xFF → is_set row 0x1 ≡ false → is_set row 0x780 ≡ false

-- the same as a test
abbrev pub fits : IdRow → ℕ → Bool → Bool
fits row flag test = not (is_set row flag) || test

abbrev pub fits_device : IdRow → DeviceDesc → Bool
fits_device row device =
    fits row 0x1 (row.vendor == device.vendor) && fits row 0x2 (row.product == device.product)
    && fits row 0x4 (nat_le row.lo device.release) && fits row 0x8 (nat_le device.release row.hi)
    && fits row 0x10 (row.class == device.class) && fits row 0x20 (row.subclass == device.subclass)
    && fits row 0x40 (row.protocol == device.protocol)

abbrev pub fits_interface : IdRow → Alt → Bool
fits_interface row alt =
    fits row 0x80 (row.int_class == alt.class) && fits row 0x100 (row.int_subclass == alt.subclass)
    && fits row 0x200 (row.int_protocol == alt.protocol) && fits row 0x400 (row.int_number == alt.number)

abbrev pub needs_vendor : IdRow → DeviceDesc → Bool
needs_vendor row device = device.class == 0xFF && not (is_set row 0x1) && is_set row 0x780

abbrev pub is_match : IdRow → DeviceDesc → Alt → Bool
is_match row device alt =
    is_set row 0x7FF && fits_device row device && fits_interface row alt && not (needs_vendor row device)

-- the first row that matches
abbrev pub first_match : List IdRow → DeviceDesc → Alt → Option IdRow
first_match rows device alt = find (λ row. is_match row device alt) rows
