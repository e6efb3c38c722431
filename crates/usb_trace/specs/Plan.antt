-- What the run of a scene is made on: the machine of its host with the passes, the script of each endpoint, what its own
-- URBs submit, and what its calls do.
use Rattle.std.specs.Prelude.{ℕ, ◌+◌, Bool, false, if◌then◌else◌, codes, List, [], ◌∷◌, ◌++◌, length, map, count_by, slice_get, slice_index_or, find, replicate, Option, Some, None, option_map, option_and_then}
use Rattle.std.specs.Option.{option_map_or}
use Rattle.std.specs.Str.{bytes_eq}
use Rattle.usb_types.specs.declared.errno.Errno.{Errno}
use Rattle.usb_types.specs.declared.urb.UrbId.{UrbId}
use Rattle.usb_types.specs.declared.urb.Role.TheVariants.{Ctl}
use Rattle.usb_machine.specs.declared.entry.TheConstants.{SERVER, HUB}
use Rattle.usb_machine.specs.declared.transfer.Transfer.{Transfer}
use Rattle.usb_machine.specs.Shapes.{shape_fault}
use Rattle.usb_machine.specs.History.{Machine}
use Rattle.usb_device.specs.Items.{Script, last_at, script_at}
use Rattle.usb_bind.specs.declared.bound.Bound.{Bound}
use Rattle.usb_bind.specs.Board.{BoardValue, is_binding_of, urb_of_role}
use Rattle.usb_class.specs.Roles.{role_in, kept_size, has_number}
use Rattle.usb_class.specs.InterfaceOps.{urb_for, setup_for, payload_for, window_for}
use Rattle.usb_class.specs.Origin.{Origin}
use Rattle.usb_class.specs.Questions.{question_by}
use Rattle.usb_class.specs.Handler.{is_ctl}
use Rattle.usb_scene.specs.declared.scene.Scene.{Scene}
use Rattle.usb_scene.specs.declared.scene.SceneDevice.{SceneDevice}
use Rattle.usb_scene.specs.declared.scene.SceneUrb.{SceneUrb}
use Rattle.usb_scene.specs.declared.scene.SceneThread.{SceneThread}
use Rattle.usb_scene.specs.declared.scene.Call.{Call}
use Rattle.usb_scene.specs.declared.scene.Target.{Target}
use Rattle.usb_scene.specs.declared.scene.Target.TheVariants as target
use Rattle.usb_scene.specs.declared.operation.Operation.{Operation}
use Rattle.usb_scene.specs.declared.operation.Operation.TheVariants as op
use Rattle.usb_scene.specs.Operation.{operation_of}
use Rattle.usb_prepare.specs.Below.{below}
use Rattle.usb_prepare.specs.Ends.{shape_at}
use Rattle.usb_prepare.specs.Prepared.{probes_of, bindings_of, ids_of}
use Rattle.usb_prepare.specs.Layout.{layout_of, home, role_urb}
use Rattle.usb_class.specs.declared.owner.Owner.{Owner}
use Rattle.usb_trace.specs.declared.rows.HostCall.{HostCall}
use Rattle.usb_trace.specs.declared.rows.HostCall.TheVariants as host_call

-- the thread with this name has the hub's pass
abbrev pub is_hub : SceneThread → Bool
is_hub thread = bytes_eq thread.name (codes "hub")

abbrev pub pass_by : ℕ → Option SceneThread → ℕ
pass_by i None = 2 + i
pass_by i (Some thread) = if is_hub thread then HUB else 2 + i

-- the pass of thread i: the hub's, which is the host's own for all devices, for the thread `hub`, and else one of its own
abbrev pub pass_of : Scene → ℕ → ℕ
pass_of s i = pass_by i (slice_get s.threads i)

-- main's pass, which closes what is left, stands after those of the threads
abbrev pub main_pass : Scene → ℕ
main_pass s = 2 + length s.threads

-- the passes are the server's, the hub's, one for each thread, main's, and two in which no call of a scene has an entry: there
-- is room for the anchors, and for handlers in a pass of their own. Here the server's pass runs the handlers
abbrev pub machine_of : Scene → Machine
machine_of s = record { layout = layout_of s; passes = 2 + (length s.threads + 3); bottom = SERVER }

-- the pass in which completion handlers run
abbrev pub handlers_pass : Scene → ℕ
handlers_pass s = (machine_of s).bottom

abbrev pub script_in : ℕ → Option SceneDevice → Script
script_in address None = record { items = []; last = last_at address }
script_in address (Some device) = script_at device.script address

-- the script of an endpoint: what its device says of its address
abbrev pub script_of : Scene → ℕ → Script
script_of s e = let shape = shape_at s e in script_in shape.address (slice_get s.devices shape.device)

abbrev pub len_in : Option SceneUrb → ℕ
len_in None = 0
len_in (Some u) = u.len

abbrev pub short_in : Option SceneUrb → Bool
short_in None = false
short_in (Some u) = u.short

abbrev pub again_in : Option SceneUrb → ℕ
again_in None = 0
again_in (Some u) = u.again

-- how often the handler of URB u submits its transfer again, by the scene: what a driver does with its own the scene does not say
abbrev pub again_of : Scene → ℕ → ℕ
again_of s u = again_in (slice_get s.urbs u)

-- the first of these bindings of a board that has URB u, by its place, with what it has it for
abbrev pub owner_from : BoardValue → ℕ → List Bound → ℕ → Option Owner
owner_from board k [] u = None
owner_from board k (b ∷ bindings) u =
    option_map_or (λ role. Some (record { place = k; driver = b.driver; role = role; size = kept_size board b role; ctl = urb_of_role b Ctl })) (role_in u b) (owner_from board (k + 1) bindings u)

-- the driver that has URB u; the scene's own URBs have none
unfoldable pub owner_of : Scene → ℕ → Option Owner
owner_of s u = owner_from (probes_of s).board 0 (bindings_of s) u

-- whether transfers of URB u have numbers of the drivers' own
abbrev pub is_numbered_by : Option Owner → Bool
is_numbered_by o = option_map_or (λ (o : Owner). has_number o.driver o.role) o false

abbrev pub is_numbered : Scene → ℕ → Bool
is_numbered s u = is_numbered_by (owner_of s u)

-- these numbers rise from two millions on, in the order of the URBs
abbrev pub number_of : Scene → ℕ → ℕ
number_of s u = 2000000 + count_by (is_numbered s) (below u)

-- the number of the URB's own transfer, where there is one
abbrev pub number_in : Scene → Option UrbId → ℕ
number_in s None = 0
number_in s (Some urb) = number_of s urb.0

-- what the core of a binding begins with: its question is asked with the URB for control transfers
abbrev pub origin_by : Scene → ℕ → Option Bound → Origin
origin_by s k None = record { number = 0; interface = 0; id = [] }
origin_by s k (Some b) = record { number = number_in s (urb_of_role b Ctl); interface = b.interface; id = slice_index_or (ids_of s) k [] }

unfoldable pub origin_of : Scene → ℕ → Origin
origin_of s k = origin_by s k (slice_get (bindings_of s) k)

-- a question of a driver: the URB that it is asked with, and the transfer
pub record DriverQuestion : Type 0 where
  pub urb : ℕ
  pub transfer : Transfer

abbrev pub question_with : Option UrbId → Option Transfer → Option DriverQuestion
question_with (Some urb) (Some t) = Some (record { urb = urb.0; transfer = t })
question_with _ _ = None

-- the question of the driver that has an URB, if it has one. After the URB that it is asked with it asks none
abbrev pub owner_question : Scene → Option Owner → Option DriverQuestion
owner_question s None = None
owner_question s (Some o) = if is_ctl o.role then None else question_with o.ctl (question_by o.driver (origin_of s o.place))

unfoldable pub question_at : Scene → ℕ → Option DriverQuestion
question_at s u = owner_question s (owner_of s u)

-- so many bytes to be read
abbrev pub reading : ℕ → ℕ → Transfer
reading number size =
    record { setup = None; buf = replicate size 0; from = 0; len = size; short_not_ok = false; actual = 0; number = number }

-- the read that a driver keeps with URB u, if it does
abbrev pub read_by : Option Owner → ℕ → Option Transfer
read_by o number = option_map (reading number) (option_and_then (λ (o : Owner). o.size) o)

abbrev pub read_of : Scene → ℕ → Option Transfer
read_of s u = read_by (owner_of s u) (number_of s u)

-- the data of a submit, and else `len` zero bytes
abbrev pub buffer_of : ℕ → Option (List ℕ) → List ℕ
buffer_of len None = replicate len 0
buffer_of len (Some bytes) = bytes

-- what an operation sends to an interface: a setup packet, bytes where the call says these, and how many of so many are its window
abbrev pub interface_setup : ℕ → Operation → Option (List ℕ)
interface_setup interface (op.Interface asked) = setup_for asked interface
interface_setup interface _ = None

abbrev pub interface_payload : Option (List ℕ) → Operation → Option (List ℕ)
interface_payload said (op.Interface asked) = payload_for asked said
interface_payload said _ = said

abbrev pub interface_window : ℕ → Operation → ℕ
interface_window n (op.Interface asked) = window_for asked n
interface_window n _ = n

-- the setup packet that a call sends: the one that it has for an interface, or else the one that it says
abbrev pub setup_by : Target → Call → Option (List ℕ)
setup_by (target.Interface device interface) c = interface_setup interface (operation_of c)
setup_by _ c = c.setup

-- and the bytes
abbrev pub payload_by : Target → Call → Option (List ℕ)
payload_by (target.Interface device interface) c = interface_payload c.bytes (operation_of c)
payload_by _ c = c.bytes

-- and how many of them are its window
abbrev pub window_by : Target → Call → ℕ → ℕ
window_by (target.Interface device interface) c n = interface_window n (operation_of c)
window_by _ c n = n

-- the transfer that a submit of URB u sends. Its number is the line's
abbrev pub fresh : Scene → ℕ → Call → Transfer
fresh s u c = let urb = slice_get s.urbs u in let buf = buffer_of (len_in urb) (payload_by c.target c) in
    record { setup = setup_by c.target c; buf = buf; from = 0; len = window_by c.target c (length buf); short_not_ok = short_in urb; actual = 0; number = c.line }

-- the fault of its shape, if a submit has one
abbrev pub submit_fault : Scene → ℕ → Call → Option Errno
submit_fault s u c = shape_fault (shape_at s (home s u)) (fresh s u c)

-- what an operation does to an URB
abbrev pub host_call_on : Operation → ℕ → HostCall
host_call_on op.Submit u = host_call.Submit u
host_call_on op.Unlink u = host_call.Unlink u
host_call_on op.Kill u = host_call.Kill u
host_call_on op.Poison u = host_call.Poison u
host_call_on op.Unpoison u = host_call.Unpoison u
host_call_on op.Block u = host_call.Block u
host_call_on op.Unblock u = host_call.Unblock u
host_call_on _ u = host_call.Other

-- and what it does on nothing in particular
abbrev pub host_call_alone : Operation → HostCall
host_call_alone op.Serve = host_call.Serve
host_call_alone op.Down = host_call.Down
host_call_alone op.Up = host_call.Up
host_call_alone _ = host_call.Other

-- what it does to an URB of a driver, where there is one
abbrev pub host_call_on_any : Operation → Option ℕ → HostCall
host_call_on_any asked None = host_call.Absent
host_call_on_any asked (Some u) = host_call_on asked u

-- what it does on an interface: it submits an URB of the driver, where there is one
abbrev pub host_call_called : Option ℕ → HostCall
host_call_called None = host_call.Absent
host_call_called (Some u) = host_call.Submit u

-- the URB of a binding that an operation on its interface submits
abbrev pub called_of : Operation → Bound → Option UrbId
called_of (op.Interface asked) b = urb_for asked b
called_of _ b = None

-- the URB that a call on an interface submits
abbrev pub called_urb : Scene → Operation → ℕ → ℕ → Option ℕ
called_urb s asked device interface =
    option_map (λ (u : UrbId). u.0) (option_and_then (called_of asked) (find (is_binding_of device interface) (bindings_of s)))

abbrev pub host_call_by : Scene → Operation → Target → HostCall
host_call_by s asked target.Nothing = host_call_alone asked
host_call_by s asked (target.Urb u) = host_call_on asked u
host_call_by s asked (target.Role device interface role) = host_call_on_any asked (role_urb s device interface role)
host_call_by s asked (target.Interface device interface) = host_call_called (called_urb s asked device interface)
host_call_by s asked (target.Anchor a) = host_call.Other
host_call_by s asked (target.Device d) = host_call.Other

abbrev pub host_call_of : Scene → Call → HostCall
host_call_of s c = host_call_by s (operation_of c) c.target

-- the calls of these threads in line order, each with its thread's number, of which the first is i
abbrev pub calls_from : ℕ → List SceneThread → List (ℕ × Call)
calls_from i [] = []
calls_from i (thread ∷ threads) = map (λ call. (i, call)) thread.calls ++ calls_from (i + 1) threads

-- the calls of a scene in line order, since scripts stand one after another
abbrev pub calls_of : Scene → List (ℕ × Call)
calls_of s = calls_from 0 s.threads
