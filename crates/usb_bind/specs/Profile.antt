-- The rows of this project's drivers.
use Rattle.std.specs.Prelude.{ℕ, List, [], ◌∷◌}
use Rattle.usb_bind.specs.declared.row.Driver.{Driver}
use Rattle.usb_bind.specs.declared.row.Driver.TheVariants.{Keyboard, Acm, Printer}
use Rattle.usb_bind.specs.declared.row.IdRow.{IdRow}

-- a row that asks for an interface's class, subclass and protocol, as its flags say
abbrev pub interface_row : ℕ → ℕ → ℕ → ℕ → Driver → IdRow
interface_row flags class subclass protocol driver = record {
  flags = flags;
  vendor = 0;
  product = 0;
  lo = 0;
  hi = 0;
  class = 0;
  subclass = 0;
  protocol = 0;
  int_class = class;
  int_subclass = subclass;
  int_protocol = protocol;
  int_number = 0;
  driver = driver;
}

-- boot keyboards (HID 1.11 §4.2), modems (CDC 1.2), and printers of either direction (Printer class 1.1 §4.2.1)
abbrev pub profile_rows : List IdRow
profile_rows =
    interface_row 0x380 3 1 1 Keyboard
    ∷ interface_row 0x180 2 2 0 Acm
    ∷ interface_row 0x380 7 1 1 Printer
    ∷ interface_row 0x380 7 1 2 Printer
    ∷ []
