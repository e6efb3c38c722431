-- How a device replies to the setup packets of address 00, request by request: USB 2.0 §9.4, and the class requests of HID
-- 1.11 §7.2, CDC PSTN 1.2 §6.3 and printers 1.1 §4.2. What no row names is refused.
use Rattle.std.specs.Prelude.{ℕ, Bool, true, false, ◌&&◌, ◌||◌, ◌==◌, if◌then◌else◌, List, [], ◌∷◌, length, take, replicate, slice_index, slice_index_or, slice_set, Option, Some, None}
use Rattle.usb_ctrl.specs.declared.setup.Setup.{Setup}
use Rattle.usb_ctrl.specs.Setup.{low}
use Rattle.usb_xfer.specs.Direction.{goes_in}
use Rattle.usb_xfer.specs.Replies.{Reply}
use Rattle.usb_xfer.specs.declared.script.What.TheVariants.{Ack, Stall, Packet}
use Rattle.usb_xfer.specs.declared.script.Kind.{Kind}
use Rattle.usb_xfer.specs.declared.script.Kind.TheVariants.{Raw, Keyboard, Acm, Printer}
use Rattle.usb_xfer.specs.declared.script.DeviceScript.{DeviceScript}
use Rattle.usb_device.specs.declared.state.DeviceState.{DeviceState}

-- all is 0, and no address is halted
unfoldable pub first_state : DeviceState
first_state = record { address = 0; configuration = 0; halted = replicate 256 false; coding = replicate 7 0; lines = 0; leds = 0 }

-- whether an endpoint's address is halted (USB 2.0 §9.4.5)
abbrev pub is_halted : DeviceState → ℕ → Bool
is_halted state address = slice_index_or state.halted address false

-- the address that a request names, the low byte of wIndex (USB 2.0 §9.3.4)
abbrev pub named_by : Setup → ℕ
named_by s = low s.index

-- the state with that address halted, or not
abbrev pub halts : Bool → Setup → DeviceState → DeviceState
halts halted s state = record state { halted = slice_set state.halted (named_by s) halted }

abbrev pub bytes_or : Option (List ℕ) → List ℕ → List ℕ
bytes_or (Some bytes) others = bytes
bytes_or None others = others

-- the descriptor of a device that gives none (USB 2.0 §9.6.1)
abbrev pub default_desc : List ℕ
default_desc = 0x12 ∷ 0x01 ∷ 0x00 ∷ 0x02 ∷ 0x00 ∷ 0x00 ∷ 0x00 ∷ 0x40 ∷ 0x09 ∷ 0x12 ∷ 0x01 ∷ 0x00 ∷ 0x00 ∷ 0x01 ∷ 0x00 ∷ 0x00 ∷ 0x00 ∷ 0x01 ∷ []

-- the value that sets the configuration, its byte 5, or 0 where there is none (USB 2.0 §9.6.3)
abbrev pub config_value : DeviceScript → ℕ
config_value script = slice_index (bytes_or script.config []) 5

-- whether a setup packet has this bmRequestType and this bRequest
abbrev pub is_of : ℕ → ℕ → Setup → Bool
is_of kind request s = (s.kind == kind) && (s.request == request)

-- whether it has this wValue too
abbrev pub is_at : ℕ → ℕ → ℕ → Setup → Bool
is_at kind request value s = is_of kind request s && (s.value == value)

-- what a device gives
abbrev pub standard_given : DeviceScript → DeviceState → Setup → Option (List ℕ)
standard_given script state s =
    if is_at 0x80 6 0x0100 s then Some (bytes_or script.desc default_desc)  -- GET_DESCRIPTOR of the device
    else if is_at 0x80 6 0x0200 s then script.config  -- GET_DESCRIPTOR of the configuration
    else if is_of 0x80 8 s then Some (state.configuration ∷ [])  -- GET_CONFIGURATION
    else if is_of 0x80 0 s then Some (0 ∷ 0 ∷ [])  -- GET_STATUS of the device
    else if is_of 0x81 0 s then Some (0 ∷ 0 ∷ [])  -- GET_STATUS of an interface
    else if is_of 0x82 0 s then Some ((if is_halted state (named_by s) then 1 else 0) ∷ 0 ∷ [])  -- GET_STATUS of an endpoint
    else if is_of 0x81 10 s then Some (0 ∷ [])  -- GET_INTERFACE
    else None

-- what a class gives
abbrev pub class_given : Kind → DeviceScript → DeviceState → Setup → Option (List ℕ)
class_given Raw script state s = None
class_given Keyboard script state s = None
class_given Acm script state s =
    if s.request == 0x21 then Some state.coding  -- GET_LINE_CODING
    else None
class_given Printer script state s =
    if s.request == 0x00 then script.id  -- GET_DEVICE_ID
    else if s.request == 0x01 then Some (script.port ∷ [])  -- GET_PORT_STATUS
    else None

-- an address is set before a configuration
abbrev pub with_address : DeviceState → ℕ → Option DeviceState
with_address state value = if state.configuration == 0 then Some (record state { address = low value }) else None

-- a configuration is set after an address: none, or the one that there is
abbrev pub with_configuration : DeviceScript → DeviceState → ℕ → Option DeviceState
with_configuration script state value =
    if state.address == 0 then None
    else if (value == 0) || (value == config_value script) then Some (record state { configuration = value })
    else None

-- the state that a device takes
abbrev pub standard_taken : DeviceScript → DeviceState → Setup → Option DeviceState
standard_taken script state s =
    if is_of 0x00 5 s then with_address state s.value  -- SET_ADDRESS
    else if is_of 0x00 9 s then with_configuration script state s.value  -- SET_CONFIGURATION
    else if is_at 0x02 1 0 s then Some (halts false s state)  -- CLEAR_FEATURE of an endpoint's halt
    else if is_at 0x02 3 0 s then Some (halts true s state)  -- SET_FEATURE of an endpoint's halt
    else if is_at 0x01 11 0 s then Some state  -- SET_INTERFACE
    else None

-- the state that a class takes
abbrev pub class_taken : Kind → DeviceState → Setup → List ℕ → Option DeviceState
class_taken Raw state s out = None
class_taken Keyboard state s out =
    if (s.request == 0x09) && (length out == 1) then Some (record state { leds = slice_index out 0 })  -- SET_REPORT
    else if s.request == 0x0A then Some state  -- SET_IDLE
    else if (s.request == 0x0B) && ((s.value == 0) || (s.value == 1)) then Some state  -- SET_PROTOCOL
    else None
class_taken Acm state s out =
    if (s.request == 0x20) && (length out == 7) then Some (record state { coding = out })  -- SET_LINE_CODING
    else if s.request == 0x22 then Some (record state { lines = s.value })  -- SET_CONTROL_LINE_STATE
    else if s.request == 0x23 then Some state  -- SEND_BREAK
    else None
class_taken Printer state s out =
    if s.request == 0x02 then Some state  -- SOFT_RESET
    else None

-- a request of bmRequestType A1 asks a class, and each other one the device
abbrev pub given : DeviceScript → DeviceState → Setup → Option (List ℕ)
given script state s = if s.kind == 0xA1 then class_given script.kind script state s else standard_given script state s

-- a request of bmRequestType 21 is made to a class, and each other one to the device
abbrev pub taken : DeviceScript → DeviceState → Setup → List ℕ → Option DeviceState
taken script state s out = if s.kind == 0x21 then class_taken script.kind state s out else standard_taken script state s

-- a reply, and the state after it
pub record Ruled : Type 0 where
  pub reply : Reply
  pub state : DeviceState

-- what is given is cut to wLength
abbrev pub gives : DeviceState → ℕ → Option (List ℕ) → Ruled
gives state size (Some bytes) = record { reply = Packet (take size bytes); state = state }
gives state size None = record { reply = Stall; state = state }

abbrev pub takes : DeviceState → Option DeviceState → Ruled
takes state (Some next) = record { reply = Ack; state = next }
takes state None = record { reply = Stall; state = state }

-- the reply to a setup packet with the data that go out
abbrev pub control_rule : DeviceScript → DeviceState → Setup → List ℕ → Ruled
control_rule script state s out =
    if goes_in s.kind
    then gives state s.length (given script state s)
    else takes state (taken script state s out)
