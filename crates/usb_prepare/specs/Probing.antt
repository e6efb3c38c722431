-- The probes of a device's interfaces: each is matched and bound, and asked the requests of its driver.
use Rattle.std.specs.Prelude.{ℕ, ◌≡◌, ◌*◌, ◌≤◌, Bool, true, false, not, if◌then◌else◌, List, [], ◌∷◌, ◌++◌, fold, length, take, Option, Some, None, IfSome, Result, Ok, Err}
use Rattle.usb_ctrl.specs.declared.setup.Setup.{Setup}
use Rattle.usb_desc.specs.declared.tree.ConfigTree.{ConfigTree}
use Rattle.usb_desc.specs.declared.tree.Alt.{Alt}
use Rattle.usb_xfer.specs.Replies.{Reply, Ask}
use Rattle.usb_xfer.specs.declared.script.What.TheVariants.{Nak, Error, Packet}
use Rattle.usb_xfer.specs.declared.script.DeviceScript.{DeviceScript}
use Rattle.usb_xfer.specs.declared.device.CtrlReply.{CtrlReply}
use Rattle.usb_xfer.specs.declared.device.CtrlReply.TheVariants as heard
use Rattle.usb_device.specs.declared.scripted.Scripted.{Scripted}
use Rattle.usb_device.specs.Device.{Call, reply_to, Stands}
use Rattle.usb_bind.specs.declared.row.Driver.{Driver}
use Rattle.usb_bind.specs.declared.row.Driver.TheVariants.{Keyboard, Acm, Printer}
use Rattle.usb_bind.specs.declared.bound.Bound.{Bound}
use Rattle.usb_bind.specs.declared.fault.ProbeFault.{ProbeFault}
use Rattle.usb_bind.specs.Interfaces.{interfaces_of}
use Rattle.usb_bind.specs.Pool.{Homes}
use Rattle.usb_bind.specs.Board.{BoardValue, with_binding}
use Rattle.usb_bind.specs.Probe.{probed, pool_after}
use Rattle.usb_bind.specs.Profile.{profile_rows}
use Rattle.usb_prepare.specs.declared.found.Probe.{Probe}
use Rattle.usb_prepare.specs.declared.found.Probe.TheVariants as probe

-- a request of a class to an interface (USB 2.0 §9.3)
abbrev pub to_interface : ℕ → ℕ → ℕ → ℕ → ℕ → Setup
to_interface kind request value index size = record { kind = kind; request = request; value = value; index = index; length = size }

-- GET_DEVICE_ID, of at most 1,023 bytes, with the interface in the high byte of wIndex (printer class 1.1 §4.2.1)
abbrev pub id_request : ℕ → Setup
id_request i = to_interface 0xA1 0x00 0 (256 * i) 0x03FF

-- what a driver asks of its interface: SET_PROTOCOL of the boot protocol and SET_IDLE (HID 1.11 §7.2); a printer's id
abbrev pub requests_of : Driver → ℕ → List Setup
requests_of Keyboard i = to_interface 0x21 0x0B 0 i 0 ∷ to_interface 0x21 0x0A 0 i 0 ∷ []
requests_of Acm i = []
requests_of Printer i = id_request i ∷ []

-- a control transfer without data that go out
abbrev pub asking : Setup → Call
asking setup = record { address = 0; question = Ask setup [] }

-- an Error ends a probe, and so does a Nak, since nobody asks again; a Stall is passed over
abbrev pub ends_probe : Reply → Bool
ends_probe Nak = true
ends_probe Error = true
ends_probe _ = false

-- the calls that a device heard, and whether each request was answered
pub record Asked : Type 0 where
  pub calls : List Call
  pub answered : Bool

-- the requests one after another, after these calls, up to the first that ends the probe
abbrev pub ask_each : DeviceScript → List Call → List Setup → Asked
ask_each script calls [] = record { calls = calls; answered = true }
ask_each script calls (setup ∷ setups) =
    if ends_probe (reply_to script calls (asking setup))
    then record { calls = calls ++ asking setup ∷ []; answered = false }
    else ask_each script (calls ++ asking setup ∷ []) setups

-- the bytes that a reply brings
abbrev pub bytes_in : Reply → List ℕ
bytes_in (Packet bytes) = bytes
bytes_in _ = []

abbrev pub id_by : Driver → DeviceScript → List Call → ℕ → List ℕ
id_by Printer script calls i = bytes_in (reply_to script calls (asking (id_request i)))
id_by driver script calls i = []

-- the id that a device reports to the driver of this binding after these calls: the reply to GET_DEVICE_ID (printer class 1.1 §4.2.1)
abbrev pub id_told : DeviceScript → List Call → Bound → List ℕ
id_told script calls b = id_by b.driver script calls b.interface

-- how far the probes of a device are: the board and the pool, what the device heard, how each probe went, and the id that
-- each binding of the board was given
pub record Probing : Type 0 where
  pub board : BoardValue
  pub pool : Homes
  pub calls : List Call
  pub probes : List Probe
  pub ids : List (List ℕ)

-- a binding stays where each request was answered, with the id that it was given, and is cancelled where one was not
abbrev pub settled : Probing → Bound → Homes → Asked → List ℕ → Probing
settled p b pool asked id =
    if asked.answered
    then record { board = with_binding p.board b; pool = pool; calls = asked.calls; probes = p.probes ++ probe.Bound ∷ []; ids = p.ids ++ id ∷ [] }
    else record p { calls = asked.calls; probes = p.probes ++ probe.Cancelled ∷ [] }

abbrev pub probed_by : DeviceScript → Probing → Homes → Result Bound ProbeFault → Probing
probed_by script p pool (Ok b) = settled p b pool (ask_each script p.calls (requests_of b.driver b.interface)) (id_told script p.calls b)
probed_by script p pool (Err fault) = record p { probes = p.probes ++ probe.Refused fault ∷ [] }

-- the probe of one interface more
abbrev pub with_probe : DeviceScript → ℕ → Probing → Alt → Probing
with_probe script device p alt =
    probed_by script p (pool_after p.board p.pool profile_rows device alt.number) (probed p.board p.pool profile_rows device alt.number)

-- the probes of all interfaces of a device, in descriptor order
abbrev pub probed_all : DeviceScript → ℕ → ConfigTree → Probing → Probing
probed_all script device config p = fold (with_probe script device) p (interfaces_of config)

-- the same of what the host hears
abbrev pub goes_on : CtrlReply → Bool
goes_on (heard.Moved n) = true
goes_on heard.Stall = true
goes_on _ = false

-- a device that was asked went on or ended the probe, whatever its script is and whatever it heard
abbrev pub Asks : Scripted → Setup → Bool → Scripted → Type 0
Asks old setup goes new = (script : DeviceScript) (calls : List Call) → Stands old script calls
    → (not (ends_probe (reply_to script calls (asking setup))) ≡ goes) × Stands new script (calls ++ asking setup ∷ [])

-- and the same of some requests
abbrev pub AsksEach : Scripted → List Setup → Bool → Scripted → Type 0
AsksEach old setups answered new = (script : DeviceScript) (calls : List Call) → Stands old script calls
    → ((ask_each script calls setups).answered ≡ answered) × Stands new script (ask_each script calls setups).calls

-- how many bytes came, where the probe goes on
abbrev pub count_moved : CtrlReply → Option ℕ
count_moved (heard.Moved n) = Some n
count_moved heard.Stall = Some 0
count_moved _ = None

-- a reply of no more bytes than this
abbrev pub IsWithin : ℕ → Reply → Type 0
IsWithin most (Packet bytes) = length bytes ≤ most
IsWithin most _ = Unit {0}

-- whatever a device heard, the id that it reports has room
abbrev pub FitsRoom : DeviceScript → Type 0
FitsRoom script = (calls : List Call) (i : ℕ) → IsWithin 1024 (reply_to script calls (asking (id_request i)))

-- the first bytes of the room, where the probe goes on, are the id that the driver is given
abbrev pub TellsId : Scripted → Driver → ℕ → Option ℕ → List ℕ → Type 0
TellsId old driver i count room = (script : DeviceScript) (calls : List Call) → Stands old script calls → FitsRoom script
    → IfSome count (λ n. take n room ≡ id_by driver script calls i)
