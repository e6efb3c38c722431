-- The request that a keyboard's driver makes.
use Rattle.std.specs.Prelude.{ℕ}
use Rattle.usb_ctrl.specs.declared.setup.Setup.{Setup}

-- SET_REPORT of the output report without a number, whose one byte has the lights (HID 1.11, section 7.2.2)
abbrev pub set_report : ℕ → Setup
set_report interface = record { kind = 0x21; request = 0x09; value = 0x0200; index = interface; length = 1 }
