-- What preparing a scene gives: what each device is found to be, what it heard, the bindings, and the home of each URB.
use Rattle.usb_types.specs.Limits.{most_urbs}
use Rattle.std.specs.Prelude.{ℕ, zero, suc, ◌+◌, if◌then◌else◌, List, [], ◌∷◌, ◌++◌, fold, map, replicate, Option, Some, None, Result, Ok, Err}
use Rattle.usb_machine.specs.History.{or_zero}
use Rattle.usb_desc.specs.declared.tree.Alt.{Alt}
use Rattle.usb_ctrl.specs.declared.setup.Setup.{Setup}
use Rattle.usb_ctrl.specs.declared.enumerator.Attached.{Attached}
use Rattle.usb_ctrl.specs.declared.fault.EnumFault.{EnumFault}
use Rattle.usb_ctrl.specs.declared.stage.Stage.{Stage}
use Rattle.usb_ctrl.specs.Requests.{asks}
use Rattle.usb_xfer.specs.declared.script.DeviceScript.{DeviceScript}
use Rattle.usb_device.specs.Device.{Call}
use Rattle.usb_bind.specs.declared.row.Driver.{Driver}
use Rattle.usb_bind.specs.declared.bound.Bound.{Bound}
use Rattle.usb_bind.specs.declared.fault.ProbeFault.TheVariants as lacks
use Rattle.usb_bind.specs.Interfaces.{interfaces_of}
use Rattle.usb_bind.specs.Pool.{Homes, taken as taken_from}
use Rattle.usb_bind.specs.Board.{BoardValue, holder_of}
use Rattle.usb_scene.specs.WellFormed.{is_raw}
use Rattle.usb_scene.specs.declared.scene.Scene.{Scene}
use Rattle.usb_scene.specs.declared.scene.SceneDevice.{SceneDevice}
use Rattle.usb_prepare.specs.declared.found.Probe.{Probe}
use Rattle.usb_prepare.specs.declared.found.Probe.TheVariants as probe
use Rattle.usb_prepare.specs.declared.found.Taken.{Taken}
use Rattle.usb_prepare.specs.declared.found.Taken.TheVariants as taken
use Rattle.usb_prepare.specs.declared.found.InterfaceFound.{InterfaceFound}
use Rattle.usb_prepare.specs.declared.found.Found.{Found}
use Rattle.usb_prepare.specs.declared.found.Found.TheVariants as found
use Rattle.usb_prepare.specs.Enumerated.{after, enumerated, attached_in}
use Rattle.usb_prepare.specs.Probing.{asking, Probing, probed_all}
use Rattle.usb_prepare.specs.Ends.{address_of, attached_as, firsts_of, home_at}

abbrev pub request_in : Option Setup → List Call
request_in None = []
request_in (Some setup) = asking setup ∷ []

abbrev pub request_at : ℕ → Result Stage EnumFault → List Call
request_at address (Ok stage) = request_in (asks address stage)
request_at address (Err fault) = []

-- the first n requests of an enumeration, as far as it comes
abbrev pub requests_heard : DeviceScript → ℕ → ℕ → List Call
requests_heard script address zero = []
requests_heard script address (suc n) = requests_heard script address n ++ request_at address (after script address n)

-- what a device heard when it was enumerated; a raw one nothing
abbrev pub enumeration_of : ℕ → SceneDevice → List Call
enumeration_of d device = if is_raw device.script.kind then [] else requests_heard device.script (address_of d) 6

-- how far the probes are: the board and the pool; of each device so far what it heard and how its probes went; and the id that
-- each binding of the board was given
pub record Probes : Type 0 where
  pub board : BoardValue
  pub pool : Homes
  pub heard : List (List Call)
  pub probes : List (List Probe)
  pub ids : List (List ℕ)

abbrev pub with_device : Probes → Probing → Probes
with_device w p = record { board = p.board; pool = p.pool; heard = w.heard ++ p.calls ∷ []; probes = w.probes ++ p.probes ∷ []; ids = p.ids }

abbrev pub probing_from : Probes → List Call → Probing
probing_from w calls = record { board = w.board; pool = w.pool; calls = calls; probes = []; ids = w.ids }

-- the interfaces of a device that is enumerated are probed
abbrev pub probed_device : ℕ → DeviceScript → Option Attached → Probing → Probing
probed_device d script None p = p
probed_device d script (Some a) p = probed_all script d a.config p

-- the devices one after another, of which the first has this number
abbrev pub probed_from : ℕ → List SceneDevice → Probes → Probes
probed_from d [] w = w
probed_from d (device ∷ devices) w =
    probed_from (d + 1) devices (with_device w (probed_device d device.script (attached_as d device) (probing_from w (enumeration_of d device))))

abbrev pub attached_from : ℕ → List SceneDevice → List (Option Attached)
attached_from d [] = []
attached_from d (device ∷ devices) = attached_as d device ∷ attached_from (d + 1) devices

-- the board before the first probe
abbrev pub board_of : Scene → BoardValue
board_of s = record { devices = attached_from 0 s.devices; firsts = firsts_of s; bindings = [] }

-- a host has `most_urbs` URBs, and those of the scene take the first numbers
abbrev pub pool_of : Scene → Homes
pool_of s = fold taken_from (replicate most_urbs None) (map (λ u. or_zero (home_at s u)) s.urbs)

-- all interfaces of all devices are probed
unfoldable pub probes_of : Scene → Probes
probes_of s = probed_from 0 s.devices (record { board = board_of s; pool = pool_of s; heard = []; probes = []; ids = [] })

-- the bindings, in the order in which they were made
abbrev pub bindings_of : Scene → List Bound
bindings_of s = (probes_of s).board.bindings

-- the id that each of them was given when its interface was probed; none but a printer's driver asks for one
abbrev pub ids_of : Scene → List (List ℕ)
ids_of s = (probes_of s).ids

-- who has an interface at the end: a driver, or why none
abbrev pub taken_by : Option Driver → Probe → Taken
taken_by (Some driver) went = taken.By driver
taken_by None (probe.Refused (lacks.OtherBusy driver)) = taken.Busy
taken_by None (probe.Refused (lacks.Full need spare)) = taken.Full
taken_by None probe.Cancelled = taken.Failed
taken_by None _ = taken.Nobody

abbrev pub face_of : BoardValue → ℕ → Alt → Probe → InterfaceFound
face_of board d alt went = record {
  number = alt.number;
  class = alt.class;
  subclass = alt.subclass;
  protocol = alt.protocol;
  taken = taken_by (holder_of board d alt.number) went;
}

abbrev pub faces_of : BoardValue → ℕ → List Alt → List Probe → List InterfaceFound
faces_of board d (alt ∷ alts) (went ∷ probes) = face_of board d alt went ∷ faces_of board d alts probes
faces_of board d _ _ = []

abbrev pub found_attached : BoardValue → ℕ → List Probe → Option Attached → Found
found_attached board d probes None = found.Raw
found_attached board d probes (Some a) =
    found.Attached a.device.vendor a.device.product (faces_of board d (interfaces_of a.config) probes)

abbrev pub found_enumerated : BoardValue → ℕ → List Probe → Result Stage EnumFault → Found
found_enumerated board d probes (Ok stage) = found_attached board d probes (attached_in (address_of d) (Ok stage))
found_enumerated board d probes (Err fault) = found.Fault fault

-- what a device is found to be
abbrev pub found_as : BoardValue → ℕ → SceneDevice → List Probe → Found
found_as board d device probes =
    if is_raw device.script.kind then found.Raw else found_enumerated board d probes (enumerated device.script (address_of d))

abbrev pub found_from : BoardValue → ℕ → List SceneDevice → List (List Probe) → List Found
found_from board d (device ∷ devices) (probes ∷ others) = found_as board d device probes ∷ found_from board (d + 1) devices others
found_from board d _ _ = []

-- what each device of the scene is found to be
unfoldable pub found_of : Scene → List Found
found_of s = found_from (probes_of s).board 0 s.devices (probes_of s).probes
