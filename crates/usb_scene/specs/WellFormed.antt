-- What holds of every scene that is read, beyond its text: numbers are those of things that are there, names are
-- unique, sizes and counts are within their limits, and no script withdraws a reject that it does not hold.
use Rattle.usb_types.specs.Limits.{most_again, most_break, most_buffer, most_calls, most_config, most_desc, most_devices, most_id, most_interface, most_interval, most_packet, most_rejects, most_replies, most_threads, most_times, most_urbs}
use Rattle.std.specs.Prelude.{ℕ, ◌≡◌, ◌≢◌, ◌-◌, ◌<◌, ◌≤◌, ◌^◌, ◌⊎◌, ◌==◌, ◌&&◌, Bool, true, false, if◌then◌else◌, List, [], ◌∷◌, ◌++◌, length, slice_get, slice_index, sum_by, codes, Option, Some, None}
use Rattle.std.specs.List.{All, list_any}
use Rattle.std.specs.Str.{bytes_eq}
use Rattle.usb_types.specs.declared.urb.Role.{Role}
use Rattle.usb_types.specs.declared.urb.Role.TheVariants as role
use Rattle.usb_machine.specs.declared.layout.EndKind.TheVariants.{Bulk, Interrupt, Iso}
use Rattle.usb_machine.specs.declared.layout.Shape.{Shape}
use Rattle.usb_text.specs.Written.{AreBytes}
use Rattle.usb_statement.specs.InterfaceCalls.{is_data_bits}
use Rattle.usb_xfer.specs.Direction.{goes_in}
use Rattle.usb_xfer.specs.declared.script.DeviceScript.{DeviceScript}
use Rattle.usb_xfer.specs.declared.script.Kind.{Kind}
use Rattle.usb_xfer.specs.declared.script.Kind.TheVariants as kind
use Rattle.usb_xfer.specs.declared.script.What.{What}
use Rattle.usb_xfer.specs.declared.script.What.TheVariants.{Ack, Nak, Stall, Error, Packet}
use Rattle.usb_xfer.specs.declared.script.Item.{Item}
use Rattle.usb_xfer.specs.declared.script.Answers.{Answers}
use Rattle.usb_scene.specs.declared.scene.Scene.{Scene}
use Rattle.usb_scene.specs.declared.scene.SceneDevice.{SceneDevice}
use Rattle.usb_scene.specs.declared.scene.SceneUrb.{SceneUrb}
use Rattle.usb_scene.specs.declared.scene.SceneThread.{SceneThread}
use Rattle.usb_scene.specs.declared.scene.Call.{Call}
use Rattle.usb_scene.specs.declared.scene.Target.{Target}
use Rattle.usb_scene.specs.declared.scene.Target.TheVariants as target

-- an endpoint of device number d, with an address of 01 to 0F or 81 to 8F
pub record IsEnd (d : ℕ) (shape : Shape) : Type 0 where
  pub device : shape.device ≡ d
  pub address : ((0 < shape.address) × (shape.address < 16)) ⊎ ((128 < shape.address) × (shape.address < 144))
  pub kind : (shape.kind ≡ Bulk) ⊎ (shape.kind ≡ Interrupt) ⊎ (shape.kind ≡ Iso)
  pub most : shape.max ≤ most_packet
  pub interval : shape.interval ≤ most_interval

-- a packet has at most 1,024 bytes
abbrev pub IsShort : What → Type 0
IsShort (Packet bytes) = length bytes ≤ most_packet
IsShort _ = Unit {0}

-- a reply of an IN address, or of an OUT address
abbrev pub IsItemOf : Bool → What → Type 0
IsItemOf goes Ack = goes ≡ false
IsItemOf goes Nak = Unit {0}
IsItemOf goes Stall = Unit {0}
IsItemOf goes Error = Unit {0}
IsItemOf goes (Packet bytes) = goes ≡ true

pub record IsItem (address : ℕ) (item : Item) : Type 0 where
  pub some : 0 < item.times
  pub most : item.times ≤ most_times
  pub short : IsShort item.what
  -- at 00, where control transfers go both ways, it may be any
  pub kind : address ≢ 0 → IsItemOf (goes_in address) item.what

-- the kinds of device
abbrev pub is_raw : Kind → Bool
is_raw kind.Raw = true
is_raw _ = false

abbrev pub is_printer : Kind → Bool
is_printer kind.Printer = true
is_printer _ = false

-- bytes that a line gives, if it does, and no more than these
abbrev pub AreGiven : ℕ → Option (List ℕ) → Type 0
AreGiven most None = Unit {0}
AreGiven most (Some bytes) = AreBytes bytes × (length bytes ≤ most)

-- no packet
abbrev pub is_packet : What → Bool
is_packet (Packet bytes) = true
is_packet _ = false

-- at 00 it is no packet
abbrev pub IsNoPacketAt : ℕ → Item → Type 0
IsNoPacketAt address item = address ≡ 0 → is_packet item.what ≡ false

-- the lines that a device of its kind has: a raw one endpoints, the others descriptors, and a printer its id and port status
pub record HasOwnLines (script : DeviceScript) : Type 0 where
  pub raw_desc : is_raw script.kind ≡ true → script.desc ≡ None
  pub raw_config : is_raw script.kind ≡ true → script.config ≡ None
  pub no_ends : is_raw script.kind ≡ false → script.ends ≡ []
  pub no_packets : is_raw script.kind ≡ false → All (λ (said : Answers). All (IsNoPacketAt said.address) said.items) script.answers
  pub no_id : is_printer script.kind ≡ false → script.id ≡ None
  pub usual_port : is_printer script.kind ≡ false → script.port ≡ 24
  pub desc : AreGiven most_desc script.desc
  pub config : AreGiven most_config script.config
  pub id : AreGiven most_id script.id
  pub port : script.port < 256

pub record IsDevice (d : ℕ) (device : SceneDevice) : Type 0 where
  pub ends : All (IsEnd d) device.script.ends
  pub once : (i j : ℕ) (a b : Shape) → slice_get device.script.ends i ≡ Some a → slice_get device.script.ends j ≡ Some b → a.address ≡ b.address → i ≡ j
  pub answers : All (λ (said : Answers). All (IsItem said.address) said.items) device.script.answers
  pub own : HasOwnLines device.script

-- a raw device, and its address 00, which each has, or that of one of its endpoints
abbrev pub HasEnd : ℕ → Option SceneDevice → Type 0
HasEnd address None = ⊥
HasEnd address (Some device) =
    (is_raw device.script.kind ≡ true) × ((address ≡ 0) ⊎ (list_any (λ (shape : Shape). shape.address == address) device.script.ends ≡ true))

-- a device that isn't raw, so that drivers may have URBs of it
abbrev pub HasDrivers : Option SceneDevice → Type 0
HasDrivers None = ⊥
HasDrivers (Some device) = is_raw device.script.kind ≡ false

pub record IsUrb (s : Scene) (urb : SceneUrb) : Type 0 where
  pub home : HasEnd urb.address (slice_get s.devices urb.device)
  pub len : urb.len ≤ most_buffer
  pub again : urb.again ≤ most_again

-- the calls that are built: 1 to 7 on an URB, 2 to 7 on one of a driver, 23 to 30 on an interface, and 8, 21 and 22 on nothing
abbrev pub IsBuilt : Scene → ℕ → Target → Type 0
IsBuilt s code (target.Urb u) = (1 ≤ code) × (code ≤ 7) × (u < length s.urbs)
IsBuilt s code (target.Role d interface r) = (2 ≤ code) × (code ≤ 7) × (interface ≤ most_interface) × HasDrivers (slice_get s.devices d)
IsBuilt s code (target.Interface d interface) = (23 ≤ code) × (code ≤ 30) × (interface ≤ most_interface) × HasDrivers (slice_get s.devices d)
IsBuilt s code target.Nothing = (code ≡ 8) ⊎ (code ≡ 21) ⊎ (code ≡ 22)
IsBuilt s code _ = ⊥

abbrev pub IsBuffer : Option (List ℕ) → Type 0
IsBuffer None = Unit {0}
IsBuffer (Some bytes) = length bytes ≤ most_buffer

-- bytes that are there, and so many
abbrev pub CarriesBytes : ℕ → Option (List ℕ) → Type 0
CarriesBytes n None = ⊥
CarriesBytes n (Some bytes) = length bytes ≡ n

-- bytes that are there, and that a buffer holds
abbrev pub CarriesBuffer : Option (List ℕ) → Type 0
CarriesBuffer None = ⊥
CarriesBuffer (Some bytes) = length bytes ≤ most_buffer

-- the numbers of a line coding, and no bytes: the rate has four bytes, the others have one (PSTN 1.2 §6.3.11)
pub record IsCoding (c : Call) : Type 0 where
  pub alone : c.bytes ≡ None
  pub rate : slice_index c.numbers 0 < 10 ^ 9
  pub stop : slice_index c.numbers 1 ≤ 2
  pub parity : slice_index c.numbers 2 ≤ 4
  pub bits : is_data_bits (slice_index c.numbers 3) ≡ true

-- the milliseconds of a break, which have two bytes (PSTN 1.2 §6.3.13), and no bytes
pub record IsBreak (c : Call) : Type 0 where
  pub alone : c.bytes ≡ None
  pub ms : slice_index c.numbers 0 ≤ most_break

pub record IsCall (s : Scene) (c : Call) : Type 0 where
  pub line : c.line < 2 ^ 31
  pub built : IsBuilt s c.code c.target
  -- only a submit has a setup packet
  pub setup : c.code ≢ 1 → c.setup ≡ None
  pub bytes : IsBuffer c.bytes
  -- the lights are one byte
  pub lights : c.code ≡ 23 → CarriesBytes 1 c.bytes
  pub written : c.code ≡ 24 → CarriesBuffer c.bytes
  pub coding : c.code ≡ 25 → IsCoding c
  -- the control lines are one byte
  pub lines : c.code ≡ 26 → CarriesBytes 1 c.bytes
  pub pause : c.code ≡ 27 → IsBreak c
  pub printed : c.code ≡ 28 → CarriesBuffer c.bytes
  pub question : c.code ≡ 29 → c.bytes ≡ None
  pub soft_reset : c.code ≡ 30 → c.bytes ≡ None

-- the roles of a driver's URBs, numbered
abbrev pub role_number : Role → ℕ
role_number role.In = 0
role_number role.Note = 1
role_number role.Read0 = 2
role_number role.Read1 = 3
role_number role.Write = 4
role_number role.Ctl = 5

-- whether both are one URB, one interface, one anchor or one device
abbrev pub is_on : Target → Target → Bool
is_on (target.Urb u) (target.Urb v) = v == u
is_on (target.Role d i r) (target.Role e j q) = e == d && j == i && role_number q == role_number r
is_on (target.Interface d i) (target.Interface e j) = e == d && j == i
is_on (target.Anchor a) (target.Anchor b) = b == a
is_on (target.Device d) (target.Device e) = e == d
is_on target.Nothing target.Nothing = true
is_on _ _ = false

-- how many rejects a call raises on an URB: poison and block one
abbrev pub raised : Target → Call → ℕ
raised urb c = if is_on urb c.target then (if c.code == 4 then 1 else if c.code == 6 then 1 else 0) else 0

-- and how many it withdraws: unpoison and unblock one
abbrev pub withdrawn : Target → Call → ℕ
withdrawn urb c = if is_on urb c.target then (if c.code == 5 then 1 else if c.code == 7 then 1 else 0) else 0

-- how many rejects a script holds on an URB after some calls
abbrev pub held_on : Target → List Call → ℕ
held_on urb calls = sum_by (raised urb) calls - sum_by (withdrawn urb) calls

-- each call that withdraws finds a reject of its script, and never more than `most_rejects` are held
pub record AreHeld (calls : List Call) : Type 0 where
  pub held : (before : List Call) (c : Call) (behind : List Call) (urb : Target) → calls ≡ before ++ c ∷ behind → withdrawn urb c ≡ 1 → 0 < held_on urb before
  pub most : (before behind : List Call) (urb : Target) → calls ≡ before ++ behind → held_on urb before ≤ most_rejects

abbrev pub is_hub_call : ℕ → Bool
is_hub_call code = if code == 21 then true else if code == 22 then true else false

pub record IsThread (s : Scene) (thread : SceneThread) : Type 0 where
  pub calls : All (IsCall s) thread.calls
  pub held : AreHeld thread.calls
  pub hub : bytes_eq thread.name (codes "hub") ≡ false → All (λ (c : Call). is_hub_call c.code ≡ false) thread.calls

-- how many answers these items give
abbrev pub replies_of : List Item → ℕ
replies_of items = sum_by (λ (item : Item). item.times) items

abbrev pub replies_in : SceneDevice → ℕ
replies_in device = sum_by (λ (said : Answers). replies_of said.items) device.script.answers

-- how many answers the items of a scene give, in all
abbrev pub all_replies : Scene → ℕ
all_replies scene = sum_by replies_in scene.devices

abbrev pub calls_in : SceneThread → ℕ
calls_in thread = length thread.calls

-- how many calls the scripts of a scene have, in all
abbrev pub all_calls : Scene → ℕ
all_calls scene = sum_by calls_in scene.threads

-- no two items have one name
abbrev pub HaveOwnNames : {X : Type 0} → (X → List ℕ) → List X → Type 0
HaveOwnNames {X} name xs = (i j : ℕ) (a b : X) → slice_get xs i ≡ Some a → slice_get xs j ≡ Some b → name a ≡ name b → i ≡ j

pub record IsWellFormed (s : Scene) : Type 0 where
  pub few_devices : length s.devices ≤ most_devices
  pub few_urbs : length s.urbs ≤ most_urbs
  pub few_threads : length s.threads ≤ most_threads
  -- after repeats, in the scripts of all devices
  pub few_replies : all_replies s ≤ most_replies
  -- in the scripts of all threads
  pub few_calls : all_calls s ≤ most_calls
  pub devices : (d : ℕ) (device : SceneDevice) → slice_get s.devices d ≡ Some device → IsDevice d device
  pub urbs : All (IsUrb s) s.urbs
  pub threads : All (IsThread s) s.threads
  -- devices, URBs and threads have name spaces of their own
  pub device_names : HaveOwnNames (λ (d : SceneDevice). d.name) s.devices
  pub urb_names : HaveOwnNames (λ (u : SceneUrb). u.name) s.urbs
  pub thread_names : HaveOwnNames (λ (t : SceneThread). t.name) s.threads
  -- this name is the server's
  pub not_server : All (λ (t : SceneThread). bytes_eq t.name (codes "server") ≡ false) s.threads
