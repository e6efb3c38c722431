-- The six requests of an enumeration, each by what came before.
use Rattle.std.specs.Prelude.{ℕ, Option, Some, None}
use Rattle.usb_ctrl.specs.declared.setup.Setup.{Setup}
use Rattle.usb_ctrl.specs.declared.stage.Stage.{Stage}
use Rattle.usb_ctrl.specs.declared.stage.Stage.TheVariants.{Fresh, Begun, Addressed, Described, Measured, Known, Done, Failed}

-- a descriptor of a type and an index, as far as a length
abbrev pub get_descriptor : ℕ → ℕ → Setup
get_descriptor kind length = record { kind = 0x80; request = 6; value = kind; index = 0; length = length }

abbrev pub set_address : ℕ → Setup
set_address address = record { kind = 0; request = 5; value = address; index = 0; length = 0 }

abbrev pub set_configuration : ℕ → Setup
set_configuration value = record { kind = 0; request = 9; value = value; index = 0; length = 0 }

-- the request that comes next
abbrev pub asks : ℕ → Stage → Option Setup
asks address Fresh = Some (get_descriptor 0x0100 8)
asks address (Begun head) = Some (set_address address)
asks address (Addressed head) = Some (get_descriptor 0x0100 18)
asks address (Described device) = Some (get_descriptor 0x0200 9)
asks address (Measured device total) = Some (get_descriptor 0x0200 total)
asks address (Known device config) = Some (set_configuration config.value)
asks address (Done device config) = None
asks address Failed = None
