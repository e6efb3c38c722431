-- The requests that the driver of a serial port makes.
use Rattle.std.specs.Prelude.{ℕ, ◌/◌, ◌%◌, List, [], ◌∷◌}
use Rattle.usb_ctrl.specs.declared.setup.Setup.{Setup}

-- SET_LINE_CODING (PSTN 1.2, section 6.3.10)
abbrev pub set_line_coding : ℕ → Setup
set_line_coding interface = record { kind = 0x21; request = 0x20; value = 0; index = interface; length = 7 }

-- SET_CONTROL_LINE_STATE (PSTN 1.2, section 6.3.12)
abbrev pub set_control_lines : ℕ → ℕ → Setup
set_control_lines interface lines = record { kind = 0x21; request = 0x22; value = lines; index = interface; length = 0 }

-- SEND_BREAK (PSTN 1.2, section 6.3.13)
abbrev pub send_break : ℕ → ℕ → Setup
send_break interface ms = record { kind = 0x21; request = 0x23; value = ms; index = interface; length = 0 }

-- the rate of a line coding as four bytes, the low one first (PSTN 1.2, section 6.3.11)
abbrev pub rate_bytes : ℕ → List ℕ
rate_bytes rate = (rate % 256) ∷ ((rate / 256) % 256) ∷ ((rate / 65536) % 256) ∷ (rate / 16777216) ∷ []
