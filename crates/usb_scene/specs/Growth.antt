-- What a line adds to the scene.
use Rattle.std.specs.Prelude.{ℕ, ◌-◌, ◌==◌, Bool, true, false, if◌then◌else◌, List, [], ◌∷◌, ◌++◌, length, Option, Some, None, unwrap_or}
use Rattle.std.specs.List.{list_any}
use Rattle.usb_machine.specs.declared.layout.EndKind.{EndKind}
use Rattle.usb_machine.specs.declared.layout.Shape.{Shape}
use Rattle.usb_xfer.specs.declared.script.Answers.{Answers}
use Rattle.usb_xfer.specs.declared.script.Kind.{Kind}
use Rattle.usb_scene.specs.declared.scene.Scene.{Scene}
use Rattle.usb_scene.specs.declared.scene.SceneDevice.{SceneDevice}
use Rattle.usb_scene.specs.declared.scene.SceneUrb.{SceneUrb}
use Rattle.usb_scene.specs.declared.scene.SceneThread.{SceneThread}
use Rattle.usb_scene.specs.declared.scene.Call.{Call}
use Rattle.usb_scene.specs.declared.scene.Target.{Target}
use Rattle.usb_scene.specs.declared.scene.Target.TheVariants as target
use Rattle.usb_statement.specs.declared.statement.Statement.{Statement}
use Rattle.usb_statement.specs.declared.statement.Statement.TheVariants as say
use Rattle.usb_statement.specs.declared.options.UrbOption.{UrbOption}
use Rattle.usb_statement.specs.declared.keyword.DeviceBytes.{DeviceBytes}
use Rattle.usb_statement.specs.declared.keyword.DeviceBytes.TheVariants.{Desc, Config, Id}
use Rattle.usb_statement.specs.declared.keyword.UrbCall.{UrbCall}
use Rattle.usb_statement.specs.declared.keyword.UrbCall.TheVariants as on
use Rattle.usb_statement.specs.declared.keyword.BareCall.{BareCall}
use Rattle.usb_statement.specs.declared.keyword.BareCall.TheVariants as bare
use Rattle.usb_statement.specs.declared.interface_call.InterfaceCall.{InterfaceCall}
use Rattle.usb_statement.specs.declared.interface_call.InterfaceCall.TheVariants as made
use Rattle.usb_scene.specs.WellFormed.{replies_of}
use Rattle.usb_scene.specs.Rules.{SoFar, device_number, urb_target, interface_target, is_short, len_in, again_in}

-- a scene of version 1 with nothing in it
abbrev pub empty_scene : Scene
empty_scene = record { version = 1; devices = []; urbs = []; anchors = []; threads = [] }

-- f of the last item
abbrev pub on_last : {X : Type 0} → (X → X) → List X → List X
on_last f [] = []
on_last f (x ∷ []) = f x ∷ []
on_last f (x ∷ y ∷ xs) = x ∷ on_last f (y ∷ xs)

-- a device without lines of its own; a printer's port status says then that it is selected and has no error (printer class 1.1, §4.2.2)
abbrev pub bare_device : List ℕ → Kind → SceneDevice
bare_device name kind =
    record { name = name; script = record { kind = kind; ends = []; desc = None; config = None; answers = []; id = None; port = 24 } }

-- an endpoint of the device whose lines are being read
abbrev pub end_said : Scene → ℕ → EndKind → ℕ → ℕ → Shape
end_said scene address kind size interval =
    record { device = length scene.devices - 1; address = address; kind = kind; max = size; interval = interval }

abbrev pub with_end : Shape → SceneDevice → SceneDevice
with_end shape device = record device { script = record device.script { ends = device.script.ends ++ shape ∷ [] } }

-- the bytes that a line gives a device
abbrev pub with_bytes : DeviceBytes → List ℕ → SceneDevice → SceneDevice
with_bytes Desc bytes device = record device { script = record device.script { desc = Some bytes } }
with_bytes Config bytes device = record device { script = record device.script { config = Some bytes } }
with_bytes Id bytes device = record device { script = record device.script { id = Some bytes } }

-- a printer's port status
abbrev pub with_port : ℕ → SceneDevice → SceneDevice
with_port status device = record device { script = record device.script { port = status } }

-- two lists of answers of one address, joined
abbrev pub together : Answers → Answers → Answers
together first next = record first { items = first.items ++ next.items }

-- answers after others, in one list with the last where they are of one address
abbrev pub joined : Answers → List Answers → List Answers
joined said [] = said ∷ []
joined said (last ∷ []) = if last.address == said.address then together last said ∷ [] else last ∷ said ∷ []
joined said (first ∷ next ∷ others) = first ∷ joined said (next ∷ others)

abbrev pub with_answers : Answers → SceneDevice → SceneDevice
with_answers said device = record device { script = record device.script { answers = joined said device.script.answers } }

abbrev pub urb_said : Scene → List ℕ → List ℕ → ℕ → List UrbOption → SceneUrb
urb_said scene name device address options = record {
  name = name;
  device = unwrap_or (device_number scene device) 0;
  address = address;
  len = len_in options;
  again = again_in options;
  short = list_any is_short options;
}

-- a call with one target and no numbers
abbrev pub plain_call : ℕ → ℕ → Target → Option (List ℕ) → Option (List ℕ) → Call
plain_call line code target setup bytes =
    record { line = line; code = code; target = target; second = None; numbers = 0 ∷ 0 ∷ 0 ∷ 0 ∷ []; setup = setup; bytes = bytes }

-- the calls' numbers in the table of calls
abbrev pub urb_call_code : UrbCall → ℕ
urb_call_code on.Unlink = 2
urb_call_code on.Kill = 3
urb_call_code on.Poison = 4
urb_call_code on.Unpoison = 5
urb_call_code on.Block = 6
urb_call_code on.Unblock = 7

abbrev pub bare_call_code : BareCall → ℕ
bare_call_code bare.Serve = 8
bare_call_code bare.Down = 21
bare_call_code bare.Up = 22

abbrev pub interface_call_code : InterfaceCall → ℕ
interface_call_code (made.Led lights) = 23
interface_call_code (made.Write bytes) = 24
interface_call_code (made.Coding rate stop parity bits) = 25
interface_call_code (made.Control lines) = 26
interface_call_code (made.SendBreak ms) = 27
interface_call_code (made.Print bytes) = 28
interface_call_code made.Status = 29
interface_call_code made.SoftReset = 30

-- the bytes that a call on an interface carries, if it has any
abbrev pub carried_bytes : InterfaceCall → Option (List ℕ)
carried_bytes (made.Led lights) = Some (lights ∷ [])
carried_bytes (made.Write bytes) = Some bytes
carried_bytes (made.Coding rate stop parity bits) = None
carried_bytes (made.Control lines) = Some (lines ∷ [])
carried_bytes (made.SendBreak ms) = None
carried_bytes (made.Print bytes) = Some bytes
carried_bytes made.Status = None
carried_bytes made.SoftReset = None

-- its numbers in their order, then zeros
abbrev pub carried_numbers : InterfaceCall → List ℕ
carried_numbers (made.Coding rate stop parity bits) = rate ∷ stop ∷ parity ∷ bits ∷ []
carried_numbers (made.SendBreak ms) = ms ∷ 0 ∷ 0 ∷ 0 ∷ []
carried_numbers _ = 0 ∷ 0 ∷ 0 ∷ 0 ∷ []

-- a call on an interface
abbrev pub interface_call : ℕ → Target → InterfaceCall → Call
interface_call line target call = record {
  line = line;
  code = interface_call_code call;
  target = target;
  second = None;
  numbers = carried_numbers call;
  setup = None;
  bytes = carried_bytes call;
}

abbrev pub with_call : Call → SceneThread → SceneThread
with_call call thread = record thread { calls = thread.calls ++ call ∷ [] }

-- a call more in the script that is being read
abbrev pub scene_calls : Scene → Call → Scene
scene_calls scene call = record scene { threads = on_last (with_call call) scene.threads }

-- a change of the device whose lines are being read
abbrev pub last_changed : (SceneDevice → SceneDevice) → Scene → Scene
last_changed change scene = record scene { devices = on_last change scene.devices }

-- the scene with what a line declares, if it declares something
abbrev pub scene_declares : Scene → Statement → Scene
scene_declares scene (say.Device name kind) = record scene { devices = scene.devices ++ bare_device name kind ∷ [] }
scene_declares scene (say.Ep address kind size interval) = last_changed (with_end (end_said scene address kind size interval)) scene
scene_declares scene (say.Bytes which bytes) = last_changed (with_bytes which bytes) scene
scene_declares scene (say.Port status) = last_changed (with_port status) scene
scene_declares scene (say.Answer address items) = last_changed (with_answers (record { address = address; items = items })) scene
scene_declares scene (say.Urb name device address options) =
    record scene { urbs = scene.urbs ++ urb_said scene name device address options ∷ [] }
scene_declares scene (say.Thread name) = record scene { threads = scene.threads ++ record { name = name; calls = [] } ∷ [] }
scene_declares scene _ = scene

-- the scene with what a line adds to it
abbrev pub scene_with : Scene → ℕ → Statement → Scene
scene_with scene line (say.Submit urb setup bytes) = scene_calls scene (plain_call line 1 (urb_target scene urb) setup bytes)
scene_with scene line (say.OnUrb call urb) = scene_calls scene (plain_call line (urb_call_code call) (urb_target scene urb) None None)
scene_with scene line (say.Alone call) = scene_calls scene (plain_call line (bare_call_code call) target.Nothing None None)
scene_with scene line (say.OnInterface call device interface) =
    scene_calls scene (interface_call line (interface_target scene device interface) call)
scene_with scene line statement = scene_declares scene statement

-- whether the device whose lines are being read has its `port` line, after a line
abbrev pub port_with : Bool → Statement → Bool
port_with has_port (say.Device name kind) = false
port_with has_port (say.Port status) = true
port_with has_port _ = has_port

-- what is read so far after one line more
abbrev pub grown_by : SoFar → ℕ → Statement → SoFar
grown_by so_far line statement =
    record { scene = scene_with so_far.scene line statement; has_port = port_with so_far.has_port statement }

-- nothing but the header was read
abbrev pub nothing_said : SoFar
nothing_said = record { scene = empty_scene; has_port = false }

-- how many answers and calls a line adds
abbrev pub replies_said : Statement → ℕ
replies_said (say.Answer address items) = replies_of items
replies_said _ = 0

abbrev pub calls_said : Statement → ℕ
calls_said (say.Submit urb setup bytes) = 1
calls_said (say.OnUrb call urb) = 1
calls_said (say.Alone call) = 1
calls_said (say.OnInterface call device interface) = 1
calls_said _ = 0
