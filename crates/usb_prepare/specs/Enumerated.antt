-- The enumeration of a scripted device: what it replies to the six requests, and what they yield.
use Rattle.std.specs.Prelude.{ℕ, zero, suc, ◌≡◌, List, [], take, Option, Some, None, Result, Ok, Err}
use Rattle.usb_types.specs.declared.errno.Errno.TheVariants.{EPIPE}
use Rattle.usb_types.specs.declared.errno.Code.TheVariants.{Zero, Fault}
use Rattle.usb_ctrl.specs.declared.fault.EnumFault.{EnumFault}
use Rattle.usb_ctrl.specs.declared.enumerator.Attached.{Attached}
use Rattle.usb_ctrl.specs.declared.stage.Stage.{Stage}
use Rattle.usb_ctrl.specs.declared.stage.Stage.TheVariants.{Fresh, Begun, Addressed, Described, Measured, Known, Done, Failed}
use Rattle.usb_ctrl.specs.Enumeration.{Answer, answer, then_by, heard, end_of}
use Rattle.usb_xfer.specs.declared.script.DeviceScript.{DeviceScript}
use Rattle.usb_device.specs.Rules.{bytes_or, default_desc}

-- the bytes of its device descriptor
abbrev pub desc_of : DeviceScript → List ℕ
desc_of script = bytes_or script.desc default_desc

-- so many bytes of its configuration; a device without one stalls
abbrev pub config_said : Option (List ℕ) → ℕ → Answer
config_said None n = answer [] (Fault EPIPE)
config_said (Some bytes) n = answer (take n bytes) Zero

-- what it replies to the request of each stage: as much of a descriptor as is asked for
abbrev pub said_at : DeviceScript → Stage → Answer
said_at script Fresh = answer (take 8 (desc_of script)) Zero
said_at script (Begun head) = answer [] Zero
said_at script (Addressed head) = answer (take 18 (desc_of script)) Zero
said_at script (Described device) = config_said script.config 9
said_at script (Measured device total) = config_said script.config total
said_at script (Known device config) = answer [] Zero
said_at script (Done device config) = answer [] Zero
said_at script Failed = answer [] Zero

-- one request more
abbrev pub one_more : DeviceScript → ℕ → Stage → Result Stage EnumFault
one_more script address stage = heard address stage (said_at script stage).reply (said_at script stage).code

-- what the first n requests yield
abbrev pub after : DeviceScript → ℕ → ℕ → Result Stage EnumFault
after script address zero = Ok Fresh
after script address (suc n) = then_by (one_more script address) (after script address n)

-- what all six yield
unfoldable pub enumerated : DeviceScript → ℕ → Result Stage EnumFault
enumerated script address = after script address 6

abbrev pub attached_in : ℕ → Result Stage EnumFault → Option Attached
attached_in address (Ok stage) = end_of address stage
attached_in address (Err fault) = None

abbrev pub fault_in : Result Stage EnumFault → Option EnumFault
fault_in (Ok stage) = None
fault_in (Err fault) = Some fault

-- the device with its address, where each request was answered well
abbrev pub attached_of : DeviceScript → ℕ → Option Attached
attached_of script address = attached_in address (enumerated script address)

-- what the code reports of an enumeration
abbrev pub IsFound : ℕ → Result Stage EnumFault → Result Attached EnumFault → Type 0
IsFound address due (Ok attached) = attached_in address due ≡ Some attached
IsFound address due (Err fault) = due ≡ Err fault
