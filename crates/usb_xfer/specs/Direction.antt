-- Which way the bytes of a transfer go.
use Rattle.std.specs.Prelude.{ℕ, Bool, true, false, nat_le, if◌then◌else◌, List, Option, Some, None}
use Rattle.usb_ctrl.specs.declared.setup.Setup.{Setup}
use Rattle.usb_ctrl.specs.Setup.{setup_of}
use Rattle.usb_machine.specs.declared.layout.EndKind.{EndKind}
use Rattle.usb_machine.specs.declared.layout.EndKind.TheVariants.{Control, Bulk, Interrupt, Iso}
use Rattle.usb_machine.specs.declared.layout.Shape.{Shape}
use Rattle.usb_machine.specs.declared.transfer.Transfer.{Transfer}

-- to the host or to the device, in packets or in a control transfer
pub data Direction : Type 0 where
  In : Direction
  Out : Direction
  ControlIn : Direction
  ControlOut : Direction

-- whether bit 7 is set, of an endpoint's address (USB 2.0 §9.6.6) or of a setup packet's first byte (§9.3.1)
abbrev pub goes_in : ℕ → Bool
goes_in byte = nat_le 128 byte

abbrev pub is_control : EndKind → Bool
is_control Control = true
is_control Bulk = false
is_control Interrupt = false
is_control Iso = false

abbrev pub no_setup : Setup
no_setup = record { kind = 0; request = 0; value = 0; index = 0; length = 0 }

-- what a control transfer asks, and zeros where it has no setup packet
abbrev pub setup_in : Option (List ℕ) → Setup
setup_in (Some bytes) = setup_of bytes
setup_in None = no_setup

abbrev pub direction_of : Shape → Transfer → Direction
direction_of shape t =
    if is_control shape.kind
    then (if goes_in (setup_in t.setup).kind then ControlIn else ControlOut)
    else (if goes_in shape.address then In else Out)

-- where the host asks: control transfers go to address 00
abbrev pub asked_at : Shape → ℕ
asked_at shape = if is_control shape.kind then 0 else shape.address
