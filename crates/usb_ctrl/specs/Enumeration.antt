-- What the answers to the requests of an enumeration yield.
use Rattle.std.specs.Prelude.{◌≡◌, ℕ, ◌==◌, nat_lt, if◌then◌else◌, List, length, take, slice_index, fold, bytes_eq, Option, Some, None, Result, Ok, Err}
use Rattle.std.specs.Option.{option_map_or}
use Rattle.std.specs.Result.{result_map_both}
use Rattle.usb_types.specs.declared.errno.Code.{Code}
use Rattle.usb_types.specs.declared.errno.Code.TheVariants.{Zero, Fault}
use Rattle.usb_desc.specs.declared.fault.DescFault.{DescFault}
use Rattle.usb_desc.specs.declared.fault.DescFault.TheVariants.{Short, BadLength, BadType}
use Rattle.usb_desc.specs.declared.fault.DescFault.TheVariants as lacks
use Rattle.usb_desc.specs.declared.device.DeviceDesc.{DeviceDesc}
use Rattle.usb_desc.specs.Device.{device_of}
use Rattle.usb_desc.specs.Read.{tree_of}
use Rattle.usb_ctrl.specs.declared.setup.Setup.{Setup}
use Rattle.usb_ctrl.specs.declared.fault.EnumFault.{EnumFault}
use Rattle.usb_ctrl.specs.declared.fault.EnumFault.TheVariants.{Status, Descriptor, Changed, Memory}
use Rattle.usb_ctrl.specs.declared.enumerator.Attached.{Attached}
use Rattle.usb_ctrl.specs.declared.stage.Stage.{Stage}
use Rattle.usb_ctrl.specs.declared.stage.Stage.TheVariants.{Fresh, Begun, Addressed, Described, Measured, Known, Done, Failed}
use Rattle.usb_ctrl.specs.Setup.{word}
use Rattle.usb_ctrl.specs.Requests.{asks}

-- an answer to a request
pub record Answer : Type 0 where
  pub reply : List ℕ
  pub code : Code

abbrev pub fault_of : DescFault → EnumFault
fault_of lacks.Memory = Memory
fault_of fault = Descriptor fault

-- a fault ends it, and what is good goes on
abbrev pub then_by : {X Y : Type 0} → (X → Result Y EnumFault) → Result X EnumFault → Result Y EnumFault
then_by next (Ok x) = next x
then_by next (Err fault) = Err fault

-- eight bytes begin a device
abbrev pub begun : List ℕ → Result Stage EnumFault
begun reply = if length reply == 8 then Ok (Begun (take 8 reply)) else Err (Descriptor (Short (length reply)))

-- the device stays the one whose first eight bytes were read
abbrev pub unchanged : List ℕ → List ℕ → DeviceDesc → Result Stage EnumFault
unchanged old new device = if bytes_eq new old then Ok (Described device) else Err (Changed old new)

abbrev pub described : List ℕ → List ℕ → Result Stage EnumFault
described old reply = then_by (unchanged old (take 8 reply)) (result_map_both (λ d. d) fault_of (device_of reply))

-- nine bytes begin a configuration and say its total length
abbrev pub measured : DeviceDesc → List ℕ → Result Stage EnumFault
measured device reply =
    if length reply == 9 then
    (if nat_lt (slice_index reply 0) 9 then Err (Descriptor (BadLength 0))
    else if slice_index reply 1 == 2 then Ok (Measured device (word (slice_index reply 2) (slice_index reply 3)))
    else Err (Descriptor (BadType 0)))
    else Err (Descriptor (Short (length reply)))

abbrev pub known : DeviceDesc → List ℕ → Result Stage EnumFault
known device reply = result_map_both (Known device) fault_of (tree_of reply)

-- what a reply without a fault yields
abbrev pub said : Stage → List ℕ → Result Stage EnumFault
said Fresh reply = begun reply
said (Begun head) reply = Ok (Addressed head)
said (Addressed head) reply = described head reply
said (Described device) reply = measured device reply
said (Measured device total) reply = known device reply
said (Known device config) reply = Ok (Done device config)
said (Done device config) reply = Ok (Done device config)
said Failed reply = Ok Failed

-- the number of the request that was answered
abbrev pub asked : ℕ → Stage → ℕ
asked address stage = option_map_or (λ (s : Setup). s.request) (asks address stage) 0

-- what an answer yields
abbrev pub heard : ℕ → Stage → List ℕ → Code → Result Stage EnumFault
heard address stage reply Zero = said stage reply
heard address stage reply (Fault errno) = Err (Status (asked address stage) errno)

-- what the answers so far yield
abbrev pub reached : ℕ → List Answer → Result Stage EnumFault
reached address answers =
    fold (λ so_far (a : Answer). then_by (λ stage. heard address stage a.reply a.code) so_far) (Ok Fresh) answers

abbrev pub answer : List ℕ → Code → Answer
answer reply code = record { reply = reply; code = code }

-- the device that is enumerated, at the end
abbrev pub end_of : ℕ → Stage → Option Attached
end_of address (Done device config) = Some (record { address = address; device = device; config = config })
end_of address stage = None

-- the next stage, or a failure
abbrev pub IsEnd : {T : Type 0} → Result Stage EnumFault → Stage → Result T EnumFault → Type 0
IsEnd due after (Ok x) = due ≡ Ok after
IsEnd due after (Err fault) = (due ≡ Err fault) × (after ≡ Failed)

-- what becomes of a stage: the next one, or the same where memory ran out, or a failure
abbrev pub IsTurn : {T : Type 0} → Result Stage EnumFault → Stage → Stage → Result T EnumFault → Type 0
IsTurn due before after (Ok x) = due ≡ Ok after
IsTurn due before after (Err Memory) = after ≡ before
IsTurn due before after (Err fault) = (due ≡ Err fault) × (after ≡ Failed)

-- a descriptor's fault is never want of memory
abbrev pub NamesNoMemory : EnumFault → Type 0
NamesNoMemory (Descriptor lacks.Memory) = ⊥
NamesNoMemory fault = Unit {0}
