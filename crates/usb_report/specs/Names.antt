-- The names of devices and URBs in a report.
use Rattle.std.specs.Prelude.{ℕ, List, [], ◌∷◌, slice_get}
use Rattle.std.specs.Option.{option_map_or}
use Rattle.usb_types.specs.declared.urb.Role.{Role}
use Rattle.usb_statement.specs.declared.urb_name.UrbName.TheVariants.{Driver}
use Rattle.usb_statement.specs.Printed.{urb_text}
use Rattle.usb_bind.specs.declared.bound.Bound.{Bound}
use Rattle.usb_class.specs.Roles.{role_in}
use Rattle.usb_scene.specs.declared.scene.Scene.{Scene}
use Rattle.usb_scene.specs.declared.scene.SceneDevice.{SceneDevice}
use Rattle.usb_scene.specs.declared.scene.SceneUrb.{SceneUrb}

-- the name of device d
abbrev pub device_name : Scene → ℕ → List ℕ
device_name s d = option_map_or (λ (device : SceneDevice). device.name) (slice_get s.devices d) []

-- the name of a driver's URB, as a line of a scene says it: DEVICE.NUM.ROLE
abbrev pub role_name : Scene → ℕ → ℕ → Role → List ℕ
role_name s device interface role = urb_text (Driver (device_name s device) interface role)

-- the name of a driver's URB, after the first binding that has it
abbrev pub bound_name : Scene → ℕ → List Bound → List ℕ
bound_name s u [] = []
bound_name s u (b ∷ bindings) = option_map_or (role_name s b.device b.interface) (role_in u b) (bound_name s u bindings)

-- the name of one of the scene's own URBs, which have the first numbers, or another text
abbrev pub own_name_or : List ℕ → Scene → ℕ → List ℕ
own_name_or other s u = option_map_or (λ (urb : SceneUrb). urb.name) (slice_get s.urbs u) other

-- the name of URB u
unfoldable pub urb_name : Scene → List Bound → ℕ → List ℕ
urb_name s bindings u = own_name_or (bound_name s u bindings) s u
