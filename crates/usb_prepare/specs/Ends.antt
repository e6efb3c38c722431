-- The endpoints that a host has of a scene's devices.
use Rattle.std.specs.Prelude.{ℕ, ◌+◌, Bool, false, ◌&&◌, ◌==◌, if◌then◌else◌, List, [], ◌∷◌, ◌++◌, length, map, take, position, slice_get, Option, Some, None}
use Rattle.usb_machine.specs.declared.layout.EndKind.TheVariants.{Control}
use Rattle.usb_machine.specs.declared.layout.Shape.{Shape}
use Rattle.usb_ctrl.specs.declared.enumerator.Attached.{Attached}
use Rattle.usb_bind.specs.Interfaces.{host_ends, shape_of_end}
use Rattle.usb_scene.specs.declared.scene.Scene.{Scene}
use Rattle.usb_scene.specs.declared.scene.SceneDevice.{SceneDevice}
use Rattle.usb_scene.specs.declared.scene.SceneUrb.{SceneUrb}
use Rattle.usb_scene.specs.WellFormed.{is_raw}
use Rattle.usb_prepare.specs.Below.{below}
use Rattle.usb_prepare.specs.Enumerated.{attached_of}

-- devices have the addresses 1, 2 and so on, in scene order
abbrev pub address_of : ℕ → ℕ
address_of d = d + 1

-- the device with this number, where it is enumerated; a raw one never is
unfoldable pub attached_as : ℕ → SceneDevice → Option Attached
attached_as d device = if is_raw device.script.kind then None else attached_of device.script (address_of d)

-- the control endpoint 00, which each device has (USB 2.0 §5.5), with this packet size
abbrev pub control_of : ℕ → ℕ → Shape
control_of device size = record { device = device; address = 0; kind = Control; max = size; interval = 0 }

abbrev pub control_end : ℕ → Shape
control_end device = control_of device 64

-- its packet size is the descriptor's, and 64 where there is none
abbrev pub control_size : Option Attached → ℕ
control_size None = 64
control_size (Some a) = a.device.max0

-- a device that is enumerated has the endpoints of its configuration; a raw one has those that the scene gives, and a
-- device that failed has none
abbrev pub other_ends : ℕ → List Shape → Option Attached → List Shape
other_ends d given None = given
other_ends d given (Some a) = map (shape_of_end d) (host_ends a.config)

-- the endpoints of a device, 00 first
unfoldable pub device_ends : ℕ → SceneDevice → List Shape
device_ends d device = control_of d (control_size (attached_as d device)) ∷ other_ends d device.script.ends (attached_as d device)

-- the endpoints of these devices, of which the first has this number
abbrev pub shapes_from : ℕ → List SceneDevice → List Shape
shapes_from d [] = []
shapes_from d (device ∷ devices) = device_ends d device ++ shapes_from (d + 1) devices

-- endpoints are numbered over the devices in scene order
unfoldable pub shapes_of : Scene → List Shape
shapes_of s = shapes_from 0 s.devices

-- how many endpoints there are
abbrev pub ends_of : Scene → ℕ
ends_of s = length (shapes_of s)

-- the number of a device's endpoint 00
abbrev pub first_end : List SceneDevice → ℕ → ℕ
first_end devices d = length (shapes_from 0 (take d devices))

abbrev pub firsts_of : Scene → List ℕ
firsts_of s = map (first_end s.devices) (below (length s.devices))

abbrev pub is_at : ℕ → ℕ → Shape → Bool
is_at device address shape = (shape.device == device) && (shape.address == address)

-- the number of the endpoint of one of the scene's own URBs
abbrev pub home_at : Scene → SceneUrb → Option ℕ
home_at s u = position (is_at u.device u.address) (shapes_of s)

abbrev pub or_control : Option Shape → Shape
or_control None = control_end 0
or_control (Some shape) = shape

-- the shape of an endpoint
abbrev pub shape_at : Scene → ℕ → Shape
shape_at s e = or_control (slice_get (shapes_of s) e)

abbrev pub raw_in : Option SceneDevice → Bool
raw_in None = false
raw_in (Some device) = is_raw device.script.kind

-- whether the device with this number is raw
abbrev pub is_raw_at : Scene → ℕ → Bool
is_raw_at s d = raw_in (slice_get s.devices d)
