-- The requests that a printer's driver makes.
use Rattle.std.specs.Prelude.{ℕ, false, [], ◌∷◌, List, Some}
use Rattle.usb_ctrl.specs.declared.setup.Setup.{Setup}
use Rattle.usb_machine.specs.declared.transfer.Transfer.{Transfer}

-- GET_PORT_STATUS: one byte comes in (printer class 1.1, section 4.2.2)
abbrev pub get_port_status : ℕ → Setup
get_port_status interface = record { kind = 0xA1; request = 0x01; value = 0; index = interface; length = 1 }

-- SOFT_RESET (printer class 1.1, section 4.2.3)
abbrev pub soft_reset : ℕ → Setup
soft_reset interface = record { kind = 0x21; request = 0x02; value = 0; index = interface; length = 0 }

-- the bytes of the first
abbrev pub status_packet : ℕ → List ℕ
status_packet interface = 0xA1 ∷ 0x01 ∷ 0x00 ∷ 0x00 ∷ interface ∷ 0x00 ∷ 0x01 ∷ 0x00 ∷ []

-- the transfer by which the driver asks for the port's status, with nothing moved
abbrev pub question_of : ℕ → ℕ → Transfer
question_of number interface = record {
  setup = Some (status_packet interface);
  buf = 0 ∷ [];
  from = 0;
  len = 1;
  short_not_ok = false;
  actual = 0;
  number = number;
}
