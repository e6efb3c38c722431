-- What the host takes of a device's reply to a setup packet without data that go out.
use Rattle.std.specs.Prelude.{ℕ, ◌≡◌, ◌+◌, ◌<◌, ◌≤◌, Bool, true, false, List, [], length, Result, Ok, Err}
use Rattle.usb_types.specs.declared.errno.Errno.TheVariants.{EPIPE, EPROTO}
use Rattle.usb_types.specs.declared.errno.Code.{Code}
use Rattle.usb_types.specs.declared.errno.Code.TheVariants.{Zero, Fault}
use Rattle.usb_ctrl.specs.declared.setup.Setup.{Setup}
use Rattle.usb_ctrl.specs.declared.fault.EnumFault.{EnumFault}
use Rattle.usb_ctrl.specs.declared.fault.EnumFault.TheVariants.{Memory}
use Rattle.usb_ctrl.specs.declared.stage.Stage.{Stage}
use Rattle.usb_ctrl.specs.declared.stage.Stage.TheVariants.{Fresh, Begun, Addressed, Described, Measured, Known, Done, Failed}
use Rattle.usb_ctrl.specs.Enumeration.{Answer, answer}
use Rattle.usb_xfer.specs.Direction.{goes_in}
use Rattle.usb_xfer.specs.Replies.{Reply}
use Rattle.usb_xfer.specs.declared.script.What.TheVariants.{Ack, Stall, Packet}
use Rattle.usb_xfer.specs.declared.script.DeviceScript.{DeviceScript}
use Rattle.usb_xfer.specs.declared.device.CtrlReply.{CtrlReply}
use Rattle.usb_xfer.specs.declared.device.CtrlReply.TheVariants as heard
use Rattle.usb_device.specs.Device.{Call, questions_at, is_raw, state_after}
use Rattle.usb_scene.specs.WellFormed.{AreGiven}
use Rattle.usb_prepare.specs.Enumerated.{after}
use Rattle.usb_prepare.specs.Prepared.{requests_heard}

-- the code that a reply ends a control transfer with; nobody asks again after a Nak
abbrev pub code_of : Reply → Code
code_of Ack = Zero
code_of (Packet bytes) = Zero
code_of Stall = Fault EPIPE
code_of _ = Fault EPROTO

-- the bytes that it brings
abbrev pub bytes_of : Bool → Reply → List ℕ
bytes_of true (Packet bytes) = bytes
bytes_of _ _ = []

abbrev pub answer_to : Setup → Reply → Answer
answer_to s r = answer (bytes_of (goes_in s.kind) r) (code_of r)

-- the same of what the host hears
abbrev pub code_heard : CtrlReply → Code
code_heard (heard.Moved n) = Zero
code_heard heard.Stall = Fault EPIPE
code_heard _ = Fault EPROTO

abbrev pub count_heard : CtrlReply → ℕ
count_heard (heard.Moved n) = n
count_heard _ = 0

-- how many requests come after a stage
abbrev pub left_of : Stage → ℕ
left_of Fresh = 6
left_of (Begun head) = 5
left_of (Addressed head) = 4
left_of (Described device) = 3
left_of (Measured device total) = 2
left_of (Known device config) = 1
left_of (Done device config) = 0
left_of Failed = 0

abbrev pub is_failed : Stage → Bool
is_failed Failed = true
is_failed _ = false

-- the device with this script answered the first k requests, and the enumeration reached this stage
pub record IsAt (script : DeviceScript) (address k : ℕ) (stage : Stage) (calls : List Call) : Type 0 where
  pub so_far : after script address k ≡ Ok stage
  pub requests : calls ≡ requests_heard script address k
  pub place : k + left_of stage ≡ 6
  pub live : is_failed stage ≡ false
  pub count : length (questions_at 0 calls) ≡ k
  pub bare : 0 < left_of stage → (state_after script calls).configuration ≡ 0
  pub named : left_of stage ≤ 4 → (state_after script calls).address ≡ address

-- the enumeration after one request more: the next stage, or the fault that ends it
abbrev pub GoesOn : DeviceScript → ℕ → ℕ → Stage → List Call → Result (Unit {0}) EnumFault → Type 0
GoesOn script address k stage calls (Ok done) = IsAt script address (k + 1) stage calls
GoesOn script address k stage calls (Err Memory) = Unit {0}
GoesOn script address k stage calls (Err fault) = (after script address (k + 1) ≡ Err fault) × (calls ≡ requests_heard script address (k + 1))

-- want of memory is no fault of the device
abbrev pub is_memory : EnumFault → Bool
is_memory Memory = true
is_memory _ = false

-- a device that is enumerated: it isn't raw, and its configuration is one that a scene may give
pub record IsOwn (script : DeviceScript) : Type 0 where
  pub other : is_raw script.kind ≡ false
  pub config : AreGiven 65535 script.config
