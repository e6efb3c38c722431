-- What a call on an interface sends: the URB that it submits, and the transfer.
use Rattle.std.specs.Prelude.{ℕ, List, [], ◌∷◌, ◌++◌, Option, Some, None, option_and_then}
use Rattle.usb_types.specs.declared.urb.UrbId.{UrbId}
use Rattle.usb_types.specs.declared.urb.Role.{Role}
use Rattle.usb_types.specs.declared.urb.Role.TheVariants.{Write, Ctl}
use Rattle.usb_ctrl.specs.Setup.{low, high}
use Rattle.usb_bind.specs.declared.row.Driver.{Driver}
use Rattle.usb_bind.specs.declared.row.Driver.TheVariants.{Keyboard, Acm, Printer}
use Rattle.usb_bind.specs.declared.bound.Bound.{Bound}
use Rattle.usb_bind.specs.Board.{urb_of_role}
use Rattle.usb_acm.specs.Requests.{rate_bytes}
use Rattle.usb_printer.specs.Jobs.{first_window}
use Rattle.usb_scene.specs.declared.operation.InterfaceOp.{InterfaceOp}
use Rattle.usb_scene.specs.declared.operation.InterfaceOp.TheVariants as op

-- the purpose of the URB that an operation submits, where the driver has such an operation
abbrev pub role_for : InterfaceOp → Driver → Option Role
role_for (op.Led lights) Keyboard = Some Ctl
role_for op.Write Acm = Some Write
role_for (op.Coding rate stop parity bits) Acm = Some Ctl
role_for (op.Control lines) Acm = Some Ctl
role_for (op.SendBreak ms) Acm = Some Ctl
role_for op.Print Printer = Some Write
role_for op.Status Printer = Some Ctl
role_for op.SoftReset Printer = Some Ctl
role_for _ _ = None

-- the URB that it submits of a binding
abbrev pub urb_for : InterfaceOp → Bound → Option UrbId
urb_for asked b = option_and_then (urb_of_role b) (role_for asked b.driver)

-- the setup packet that it sends to an interface
abbrev pub setup_for : InterfaceOp → ℕ → Option (List ℕ)
setup_for (op.Led lights) interface = Some (0x21 ∷ 0x09 ∷ 0x00 ∷ 0x02 ∷ interface ∷ 0x00 ∷ 0x01 ∷ 0x00 ∷ [])  -- SET_REPORT (HID 1.11 §7.2.2)
setup_for op.Write interface = None
setup_for (op.Coding rate stop parity bits) interface = Some (0x21 ∷ 0x20 ∷ 0x00 ∷ 0x00 ∷ interface ∷ 0x00 ∷ 0x07 ∷ 0x00 ∷ [])  -- SET_LINE_CODING (PSTN 1.2 §6.3.10)
setup_for (op.Control lines) interface = Some (0x21 ∷ 0x22 ∷ lines ∷ 0x00 ∷ interface ∷ 0x00 ∷ 0x00 ∷ 0x00 ∷ [])  -- SET_CONTROL_LINE_STATE (PSTN 1.2 §6.3.12)
setup_for (op.SendBreak ms) interface = Some (0x21 ∷ 0x23 ∷ low ms ∷ high ms ∷ interface ∷ 0x00 ∷ 0x00 ∷ 0x00 ∷ [])  -- SEND_BREAK (PSTN 1.2 §6.3.13)
setup_for op.Print interface = None
setup_for op.Status interface = Some (0xA1 ∷ 0x01 ∷ 0x00 ∷ 0x00 ∷ interface ∷ 0x00 ∷ 0x01 ∷ 0x00 ∷ [])  -- GET_PORT_STATUS (printer class 1.1 §4.2.2)
setup_for op.SoftReset interface = Some (0x21 ∷ 0x02 ∷ 0x00 ∷ 0x00 ∷ interface ∷ 0x00 ∷ 0x00 ∷ 0x00 ∷ [])  -- SOFT_RESET (printer class 1.1 §4.2.3)

-- the bytes of its buffer: a line coding, which is the rate in four bytes, and a byte each for the stop bits, the parity and
-- the data bits (PSTN 1.2 §6.3.11); none; room for a status; or those that the call says
abbrev pub payload_for : InterfaceOp → Option (List ℕ) → Option (List ℕ)
payload_for (op.Led lights) said = said
payload_for op.Write said = said
payload_for (op.Coding rate stop parity bits) said = Some (rate_bytes rate ++ stop ∷ parity ∷ bits ∷ [])
payload_for (op.Control lines) said = Some []
payload_for (op.SendBreak ms) said = Some []
payload_for op.Print said = said
payload_for op.Status said = Some (0 ∷ [])
payload_for op.SoftReset said = Some []

-- length of its first window: at most 8,192 bytes for `print`, else the whole buffer
abbrev pub window_for : InterfaceOp → ℕ → ℕ
window_for op.Print n = first_window n
window_for _ n = n
