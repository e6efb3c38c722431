-- Where a line may stand, what its device answers, what it must name, what it must not repeat, its limits, and its rules
-- on rejects and the hub.
use Rattle.usb_types.specs.Limits.{most_again, most_break, most_buffer, most_calls, most_config, most_desc, most_devices, most_id, most_interface, most_interval, most_packet, most_rejects, most_replies, most_threads, most_urbs}
use Rattle.std.specs.Prelude.{ℕ, ◌+◌, ◌-◌, Bool, true, false, ◌&&◌, ◌||◌, not, ◌==◌, nat_le, nat_lt, if◌then◌else◌, List, [], ◌∷◌, length, Option, Some, None, is_some, position, unwrap_or, slice_get, count_by, codes}
use Rattle.std.specs.List.{list_all, list_any}
use Rattle.std.specs.Option.{option_map}
use Rattle.std.specs.Str.{bytes_eq}
use Rattle.usb_machine.specs.declared.layout.Shape.{Shape}
use Rattle.usb_xfer.specs.declared.script.Item.{Item}
use Rattle.usb_xfer.specs.declared.script.Kind.{Kind}
use Rattle.usb_xfer.specs.declared.script.DeviceScript.{DeviceScript}
use Rattle.usb_scene.specs.declared.scene.Scene.{Scene}
use Rattle.usb_scene.specs.declared.scene.SceneDevice.{SceneDevice}
use Rattle.usb_scene.specs.declared.scene.SceneUrb.{SceneUrb}
use Rattle.usb_scene.specs.declared.scene.SceneThread.{SceneThread}
use Rattle.usb_scene.specs.declared.scene.Call.{Call}
use Rattle.usb_scene.specs.declared.scene.Target.{Target}
use Rattle.usb_scene.specs.declared.scene.Target.TheVariants as target
use Rattle.usb_statement.specs.declared.statement.Statement.{Statement}
use Rattle.usb_statement.specs.declared.statement.Statement.TheVariants as say
use Rattle.usb_statement.specs.declared.keyword.Keyword.{Keyword}
use Rattle.usb_statement.specs.declared.keyword.Keyword.TheVariants as word
use Rattle.usb_statement.specs.declared.options.UrbOption.{UrbOption}
use Rattle.usb_statement.specs.declared.options.UrbOption.TheVariants.{Len, Again, Short}
use Rattle.usb_statement.specs.declared.urb_name.UrbName.{UrbName}
use Rattle.usb_statement.specs.declared.urb_name.UrbName.TheVariants.{Scripted, Driver}
use Rattle.usb_statement.specs.declared.keyword.DeviceBytes.{DeviceBytes}
use Rattle.usb_statement.specs.declared.keyword.DeviceBytes.TheVariants.{Desc, Config, Id}
use Rattle.usb_statement.specs.declared.keyword.UrbCall.{UrbCall}
use Rattle.usb_statement.specs.declared.keyword.UrbCall.TheVariants as on
use Rattle.usb_statement.specs.declared.keyword.BareCall.TheVariants as bare
use Rattle.usb_statement.specs.declared.interface_call.InterfaceCall.{InterfaceCall}
use Rattle.usb_statement.specs.declared.interface_call.InterfaceCall.TheVariants as made
use Rattle.usb_scene.specs.declared.cause.Cause.{Cause}
use Rattle.usb_scene.specs.declared.cause.Cause.TheVariants as cause
use Rattle.usb_statement.specs.Statements.{is_empty}
use Rattle.usb_scene.specs.WellFormed.{is_raw, is_printer, is_packet, held_on, replies_of, all_replies, all_calls}

-- what was read so far: the scene, and whether the device whose lines are being read has its `port` line
pub record SoFar : Type 0 where
  pub scene : Scene
  pub has_port : Bool

-- no URB is declared yet, and no thread
abbrev pub in_devices : Scene → Bool
in_devices scene = is_empty scene.urbs && is_empty scene.threads

-- the device whose lines are being read
abbrev pub last_device : Scene → Option SceneDevice
last_device scene = slice_get scene.devices (length scene.devices - 1)

-- whether there is a device, and it is of such a kind
abbrev pub is_of : (Kind → Bool) → Option SceneDevice → Bool
is_of test None = false
is_of test (Some device) = test device.script.kind

-- a device of a class has descriptors and drivers
abbrev pub is_classed : Kind → Bool
is_classed kind = not (is_raw kind)

-- the kinds of device that such bytes belong to
abbrev pub takes : DeviceBytes → Kind → Bool
takes Desc kind = is_classed kind
takes Config kind = is_classed kind
takes Id kind = is_printer kind

-- Devices come first, each with its own lines, then URBs, then threads with their calls.
abbrev pub may_stand : Scene → Keyword → Bool
may_stand scene word.Device = in_devices scene
may_stand scene word.Ep = is_of is_raw (last_device scene) && in_devices scene
may_stand scene (word.Bytes which) = is_of (takes which) (last_device scene) && in_devices scene
may_stand scene word.Port = is_of is_printer (last_device scene) && in_devices scene
may_stand scene word.Answer = not (is_empty scene.devices) && in_devices scene
may_stand scene word.Urb = is_empty scene.threads
may_stand scene word.Thread = true
may_stand scene _ = not (is_empty scene.threads)

-- at 00 only a raw device's packets are those of its script
abbrev pub fits_device : Scene → Statement → Bool
fits_device scene (say.Answer address items) =
    not (address == 0) || is_of is_raw (last_device scene) || list_all (λ (item : Item). not (is_packet item.what)) items
fits_device scene _ = true

-- the number of a declared name
abbrev pub device_number : Scene → List ℕ → Option ℕ
device_number scene name = position (λ (d : SceneDevice). bytes_eq d.name name) scene.devices

abbrev pub urb_number : Scene → List ℕ → Option ℕ
urb_number scene name = position (λ (u : SceneUrb). bytes_eq u.name name) scene.urbs

abbrev pub thread_number : Scene → List ℕ → Option ℕ
thread_number scene name = position (λ (t : SceneThread). bytes_eq t.name name) scene.threads

-- the number of the scripted URB that a call names
abbrev pub named_urb : Scene → UrbName → Option ℕ
named_urb scene (Scripted name) = urb_number scene name
named_urb scene (Driver device number role) = None

-- the endpoints of a device, if there is one
abbrev pub ends_of : Option SceneDevice → List Shape
ends_of None = []
ends_of (Some device) = device.script.ends

-- whether a device has an endpoint with this address
abbrev pub has_end : Option SceneDevice → ℕ → Bool
has_end device address = list_any (λ (e : Shape). e.address == address) (ends_of device)

-- whether an address is one of a device: 00, which each device has, or that of an endpoint
abbrev pub has_address : Option SceneDevice → ℕ → Bool
has_address None address = false
has_address (Some device) address = address == 0 || has_end (Some device) address

-- the device with this number, if there is one
abbrev pub numbered_device : Scene → Option ℕ → Option SceneDevice
numbered_device scene None = None
numbered_device scene (Some number) = slice_get scene.devices number

-- whether a device answers at an address: a raw one at those that it has, and another at each
abbrev pub may_answer : Option SceneDevice → ℕ → Bool
may_answer None address = false
may_answer (Some device) address = is_classed device.script.kind || has_address (Some device) address

-- whether a line may declare an URB there: at an address of a raw device
abbrev pub is_home : Option SceneDevice → ℕ → Bool
is_home device address = is_of is_raw device && has_address device address

-- the number of the device with this name, where drivers have its URBs
abbrev pub driven_number : Scene → List ℕ → Option ℕ
driven_number scene name = if is_of is_classed (numbered_device scene (device_number scene name)) then device_number scene name else None

-- the URB that a call names, if there may be one
abbrev pub named_target : Scene → UrbName → Option Target
named_target scene (Scripted name) = option_map (λ u. target.Urb u) (urb_number scene name)
named_target scene (Driver device number role) = option_map (λ d. target.Role d number role) (driven_number scene device)

abbrev pub urb_target : Scene → UrbName → Target
urb_target scene urb = unwrap_or (named_target scene urb) target.Nothing

-- the interface that a line calls, where drivers have its device
abbrev pub interface_target : Scene → List ℕ → ℕ → Target
interface_target scene device interface = unwrap_or (option_map (λ d. target.Interface d interface) (driven_number scene device)) target.Nothing

-- each name and address that the line takes as declared is so, and of the kind that the line asks
abbrev pub names_stand : Scene → Statement → Bool
names_stand scene (say.Answer address items) = may_answer (last_device scene) address
names_stand scene (say.Urb name device address options) = is_home (numbered_device scene (device_number scene device)) address
names_stand scene (say.Submit urb setup bytes) = is_some (named_urb scene urb)
names_stand scene (say.OnUrb call urb) = is_some (named_target scene urb)
names_stand scene (say.OnInterface call device interface) = is_some (driven_number scene device)
names_stand scene _ = true

abbrev pub is_len : UrbOption → Bool
is_len (Len n) = true
is_len _ = false

abbrev pub is_again : UrbOption → Bool
is_again (Again n) = true
is_again _ = false

abbrev pub is_short : UrbOption → Bool
is_short Short = true
is_short _ = false

-- each option is given at most once
abbrev pub are_once : List UrbOption → Bool
are_once options = nat_le (count_by is_len options) 1 && nat_le (count_by is_again options) 1 && nat_le (count_by is_short options) 1

-- the bytes that a line gives a device
abbrev pub bytes_of : DeviceBytes → DeviceScript → Option (List ℕ)
bytes_of Desc script = script.desc
bytes_of Config script = script.config
bytes_of Id script = script.id

abbrev pub has_bytes : DeviceBytes → Option SceneDevice → Bool
has_bytes which None = false
has_bytes which (Some device) = is_some (bytes_of which device.script)

-- what the line declares was not declared before, and no option is repeated
abbrev pub is_new : SoFar → Statement → Bool
is_new so_far (say.Device name kind) = not (is_some (device_number so_far.scene name))
is_new so_far (say.Ep address kind size interval) = not (has_end (last_device so_far.scene) address)
is_new so_far (say.Bytes which bytes) = not (has_bytes which (last_device so_far.scene))
is_new so_far (say.Port status) = not so_far.has_port
is_new so_far (say.Urb name device address options) = not (is_some (urb_number so_far.scene name)) && are_once options
is_new so_far (say.Thread name) = not (is_some (thread_number so_far.scene name)) && not (bytes_eq name (codes "server"))
is_new so_far _ = true

-- the numbers that options give, 0 where they give none
abbrev pub len_in : List UrbOption → ℕ
len_in [] = 0
len_in (Len n ∷ options) = n
len_in (_ ∷ options) = len_in options

abbrev pub again_in : List UrbOption → ℕ
again_in [] = 0
again_in (Again n ∷ options) = n
again_in (_ ∷ options) = again_in options

-- the thread whose calls are being read
abbrev pub last_thread : Scene → Option SceneThread
last_thread scene = slice_get scene.threads (length scene.threads - 1)

abbrev pub calls_of : Option SceneThread → List Call
calls_of None = []
calls_of (Some thread) = thread.calls

-- how many rejects the script that is being read holds on the URB that a call names
abbrev pub held_now : Scene → UrbName → ℕ
held_now scene urb = held_on (urb_target scene urb) (calls_of (last_thread scene))

-- the calls that raise a reject, and those that withdraw one
abbrev pub raises : UrbCall → Bool
raises on.Poison = true
raises on.Block = true
raises _ = false

abbrev pub withdraws : UrbCall → Bool
withdraws on.Unpoison = true
withdraws on.Unblock = true
withdraws _ = false

-- how many bytes are given
abbrev pub given_len : Option (List ℕ) → ℕ
given_len None = 0
given_len (Some bytes) = length bytes

-- the most bytes that such a line may give (USB 2.0 §9.4.3: a descriptor's length is a byte, a transfer's two)
abbrev pub most_of : DeviceBytes → ℕ
most_of Desc = most_desc
most_of Config = most_config
most_of Id = most_id

-- the number of an interface is a byte
abbrev pub is_low : UrbName → Bool
is_low (Scripted name) = true
is_low (Driver device number role) = nat_le number most_interface

-- what a call on an interface carries is within its limits: a buffer; a line coding, whose stop bits are 0 to 2 and whose
-- parity is 0 to 4 (PSTN 1.2 §6.3.11); a break, whose milliseconds are two bytes (PSTN 1.2 §6.3.13)
abbrev pub carries_within : InterfaceCall → Bool
carries_within (made.Write bytes) = nat_le (length bytes) most_buffer
carries_within (made.Coding rate stop parity bits) = nat_le stop 2 && nat_le parity 4
carries_within (made.SendBreak ms) = nat_le ms most_break
carries_within (made.Print bytes) = nat_le (length bytes) most_buffer
carries_within _ = true

-- there is room for one call more in the scripts
abbrev pub has_call_left : Scene → Bool
has_call_left scene = nat_lt (all_calls scene) most_calls

-- the line passes no limit
abbrev pub is_within : Scene → Statement → Bool
is_within scene (say.Device name kind) = nat_lt (length scene.devices) most_devices
is_within scene (say.Ep address kind size interval) = nat_le size most_packet && nat_le interval most_interval
is_within scene (say.Bytes which bytes) = nat_le (length bytes) (most_of which)
is_within scene (say.Port status) = true
is_within scene (say.Answer address items) = nat_le (all_replies scene + replies_of items) most_replies
is_within scene (say.Urb name device address options) =
    nat_le (len_in options) most_buffer && nat_le (again_in options) most_again && nat_lt (length scene.urbs) most_urbs
is_within scene (say.Thread name) = nat_lt (length scene.threads) most_threads
is_within scene (say.Submit urb setup bytes) = has_call_left scene && nat_le (given_len bytes) most_buffer
is_within scene (say.OnUrb call urb) = has_call_left scene && is_low urb && (if raises call then nat_lt (held_now scene urb) most_rejects else true)
is_within scene (say.Alone call) = has_call_left scene
is_within scene (say.OnInterface call device interface) = has_call_left scene && nat_le interface most_interface && carries_within call

-- a reject that is withdrawn is one that this script holds
abbrev pub holds_reject : Scene → Statement → Bool
holds_reject scene (say.OnUrb call urb) = if withdraws call then nat_lt 0 (held_now scene urb) else true
holds_reject scene _ = true

-- whether a thread's name is `hub`
abbrev pub is_hub : Option SceneThread → Bool
is_hub None = false
is_hub (Some thread) = bytes_eq thread.name (codes "hub")

-- a call of the host as a whole, as `down`, stands in the thread `hub`
abbrev pub may_call : Scene → Statement → Bool
may_call scene (say.Alone bare.Down) = is_hub (last_thread scene)
may_call scene (say.Alone bare.Up) = is_hub (last_thread scene)
may_call scene _ = true

-- the first cause against a statement, if there is one
abbrev pub statement_cause : SoFar → Statement → Option Cause
statement_cause so_far statement =
    if not (fits_device so_far.scene statement) then Some cause.Form
    else if not (names_stand so_far.scene statement) then Some cause.Name
    else if not (is_new so_far statement) then Some cause.Twice
    else if not (is_within so_far.scene statement) then Some cause.Limit
    else if not (holds_reject so_far.scene statement) then Some cause.Held
    else if not (may_call so_far.scene statement) then Some cause.HubOnly
    else None
