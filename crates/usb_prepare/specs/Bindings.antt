-- What the code of the probes keeps.
use Rattle.std.specs.Prelude.{ℕ, ◌≡◌, ◌≤◌, ◌+◌, if◌then◌else◌, List, [], ◌∷◌, ◌++◌, length, map, take, slice_get, Option, Some, None, Result, Ok, Err}
use Rattle.std.specs.Option.{option_map_or}
use Rattle.usb_desc.specs.declared.tree.Alt.{Alt}
use Rattle.usb_ctrl.specs.declared.enumerator.Attached.{Attached}
use Rattle.usb_xfer.specs.declared.script.DeviceScript.{DeviceScript}
use Rattle.usb_device.specs.declared.scripted.Scripted.{Scripted}
use Rattle.usb_device.specs.Device.{Call, Stands}
use Rattle.usb_bind.specs.Interfaces.{interfaces_of}
use Rattle.usb_bind.specs.Profile.{profile_rows}
use Rattle.usb_bind.specs.Probe.{probed, pool_after}
use Rattle.usb_ctrl.specs.declared.fault.EnumFault.{EnumFault}
use Rattle.usb_bind.specs.Board.{BoardValue, attached_at}
use Rattle.usb_prepare.specs.declared.found.Found.{Found}
use Rattle.usb_prepare.specs.declared.found.Found.TheVariants as found
use Rattle.usb_scene.specs.WellFormed.{is_raw}
use Rattle.usb_scene.specs.declared.scene.Scene.{Scene}
use Rattle.usb_scene.specs.declared.scene.SceneDevice.{SceneDevice}
use Rattle.usb_prepare.specs.declared.preparing.Opened.{Opened}
use Rattle.usb_prepare.specs.declared.beginning.EnumeratedDevice.{EnumeratedDevice}
use Rattle.usb_prepare.specs.declared.beginning.EnumeratedDevices.{EnumeratedDevices}
use Rattle.usb_prepare.specs.Enumerated.{enumerated, fault_in}
use Rattle.usb_prepare.specs.Ends.{address_of, attached_as, shapes_of}
use Rattle.usb_prepare.specs.Prepared.{enumeration_of, attached_from, board_of, pool_of, Probes, probed_from, found_attached}
use Rattle.usb_prepare.specs.declared.found.Probe.{Probe}
use Rattle.usb_prepare.specs.declared.probing.Bindings.{Bindings}
use Rattle.usb_prepare.specs.Probing.{Probing, probed_by, FitsRoom}

-- the numbers of a device's interfaces
abbrev pub numbers_of : Option Attached → List ℕ
numbers_of attached = option_map_or (λ (a : Attached). map (λ (alt : Alt). alt.number) (interfaces_of a.config)) attached []

-- the bindings, the device and the list of probes are as far as this
pub record IsProbing (p : Probing) (script : DeviceScript) (bindings : Bindings) (device : Scripted) (probes : List Probe) : Type 0 where
  pub board : bindings.board ≡ p.board
  pub pool : bindings.pool ≡ p.pool
  pub heard : Stands device script p.calls
  pub went : probes ≡ p.probes
  pub told : bindings.ids ≡ p.ids

-- one interface was probed, and this is how it went
abbrev pub HasProbed : Bindings → Scripted → ℕ → ℕ → Probe → Bindings → Scripted → Type 0
HasProbed old device number interface went new asked = (script : DeviceScript) (p : Probing) (probes : List Probe) → IsProbing p script old device probes → FitsRoom script
    → IsProbing (probed_by script p (pool_after p.board p.pool profile_rows number interface) (probed p.board p.pool profile_rows number interface)) script new asked (probes ++ went ∷ [])

-- what a device is found to be, by the fault of its enumeration, if it has one
abbrev pub found_by : BoardValue → ℕ → List Probe → Option EnumFault → Found
found_by board d probes (Some fault) = found.Fault fault
found_by board d probes None = found_attached board d probes (attached_at board d)

-- why a device was not enumerated, if it was not
abbrev pub fault_as : ℕ → SceneDevice → Option EnumFault
fault_as d device = if is_raw device.script.kind then None else fault_in (enumerated device.script (address_of d))

abbrev pub faults_from : ℕ → List SceneDevice → List (Option EnumFault)
faults_from d [] = []
faults_from d (device ∷ devices) = fault_as d device ∷ faults_from (d + 1) devices

-- a device that was enumerated with this result
abbrev pub one_of : Scripted → Result Attached EnumFault → EnumeratedDevice
one_of device (Ok a) = record { device = device; attached = Some a; fault = None }
one_of device (Err fault) = record { device = device; attached = None; fault = Some fault }

-- a device is made and enumerated
pub record IsEnumerated (d : ℕ) (device : SceneDevice) (one : EnumeratedDevice) : Type 0 where
  pub heard : Stands one.device device.script (enumeration_of d device)
  pub attached : one.attached ≡ attached_as d device
  pub fault : one.fault ≡ fault_as d device

-- each of these devices heard these calls
pub record HaveHeard (devices : List SceneDevice) (heard : List (List Call)) (all : List Scripted) : Type 0 where
  pub count : length all ≡ length devices
  pub same : length heard ≡ length devices
  pub each : (d : ℕ) (device : SceneDevice) (calls : List Call) (one : Scripted) → slice_get devices d ≡ Some device → slice_get heard d ≡ Some calls → slice_get all d ≡ Some one → Stands one device.script calls

abbrev pub enumerations_from : ℕ → List SceneDevice → List (List Call)
enumerations_from d [] = []
enumerations_from d (device ∷ devices) = enumeration_of d device ∷ enumerations_from (d + 1) devices

-- these devices are made and enumerated
pub record AreEnumerated (devices : List SceneDevice) (begun : EnumeratedDevices) : Type 0 where
  pub heard : HaveHeard devices (enumerations_from 0 devices) begun.devices.items
  pub attached : begun.attached ≡ attached_from 0 devices
  pub faults : begun.faults ≡ faults_from 0 devices

-- before the first probe
abbrev pub probes_before : Scene → Probes
probes_before s = record { board = board_of s; pool = pool_of s; heard = []; probes = []; ids = [] }

-- the first k devices of the scene are probed, and the others are enumerated
abbrev pub front_probed : Scene → ℕ → Probes
front_probed s k = probed_from 0 (take k s.devices) (probes_before s)

pub record AreProbed (s : Scene) (k : ℕ) (bindings : Bindings) (all : List Scripted) (probes : List (List Probe)) : Type 0 where
  pub board : bindings.board ≡ (front_probed s k).board
  pub pool : bindings.pool ≡ (front_probed s k).pool
  pub went : probes ≡ (front_probed s k).probes
  pub told : bindings.ids ≡ (front_probed s k).ids
  pub count : length all ≡ length s.devices
  pub asked : (d : ℕ) (device : SceneDevice) (calls : List Call) (one : Scripted) → slice_get s.devices d ≡ Some device → slice_get (front_probed s k).heard d ≡ Some calls → slice_get all d ≡ Some one → Stands one device.script calls
  pub later : (d : ℕ) (device : SceneDevice) (one : Scripted) → k ≤ d → slice_get s.devices d ≡ Some device → slice_get all d ≡ Some one → Stands one device.script (enumeration_of d device)

-- a device more is at the end
pub record AddsDevice (old : EnumeratedDevices) (one : EnumeratedDevice) (new : EnumeratedDevices) : Type 0 where
  pub devices : new.devices.items ≡ old.devices.items ++ one.device ∷ []
  pub attached : new.attached ≡ old.attached ++ one.attached ∷ []
  pub faults : new.faults ≡ old.faults ++ one.fault ∷ []

-- the board and the pool before the first probe, and the endpoints of the host
pub record IsOpened (s : Scene) (o : Opened) : Type 0 where
  pub board : o.bindings.board ≡ board_of s
  pub pool : o.bindings.pool ≡ pool_of s
  pub ids : o.bindings.ids ≡ []
  pub shapes : o.shapes ≡ shapes_of s
