-- The home of each URB of a scene: those that the scene names, and after them those of the drivers.
use Rattle.std.specs.Prelude.{ℕ, List, length, slice_index_or, find, Option, None, option_and_then, option_map}
use Rattle.usb_types.specs.declared.urb.Role.{Role}
use Rattle.usb_types.specs.declared.urb.UrbId.{UrbId}
use Rattle.usb_machine.specs.declared.layout.Layout.{Layout}
use Rattle.usb_machine.specs.History.{or_zero}
use Rattle.usb_bind.specs.declared.bound.Bound.{Bound}
use Rattle.usb_bind.specs.Pool.{up_to_last}
use Rattle.usb_bind.specs.Board.{is_binding_of, urb_of_role}
use Rattle.usb_scene.specs.declared.scene.Scene.{Scene}
use Rattle.usb_prepare.specs.Ends.{shapes_of}
use Rattle.usb_prepare.specs.Prepared.{probes_of, bindings_of}

-- the home of each URB: the scene's own URBs come first
unfoldable pub homes_of : Scene → List (Option ℕ)
homes_of s = up_to_last (probes_of s).pool

abbrev pub layout_of : Scene → Layout
layout_of s = record { homes = homes_of s; shapes = shapes_of s }

-- how many URBs there are
abbrev pub urb_count : Scene → ℕ
urb_count s = length (homes_of s)

-- the number of an URB's home endpoint
abbrev pub home : Scene → ℕ → ℕ
home s u = or_zero (slice_index_or (homes_of s) u None)

-- the URB of a role that the binding of an interface has
abbrev pub urb_in : List Bound → ℕ → ℕ → Role → Option ℕ
urb_in bindings device interface role =
    option_map (λ (u : UrbId). u.0) (option_and_then (λ b. urb_of_role b role) (find (is_binding_of device interface) bindings))

-- the number of the URB of this role that a driver has at an interface of a device, where one has
unfoldable pub role_urb : Scene → ℕ → ℕ → Role → Option ℕ
role_urb s device interface role = urb_in (bindings_of s) device interface role
