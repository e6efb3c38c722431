-- What calls do by their numbers in the table of calls alone, as one reads them there.
use Rattle.std.specs.Prelude.{ℕ, ◌==◌, ◌||◌, if◌then◌else◌, find, Option, Some, None, option_map, option_and_then}
use Rattle.usb_types.specs.declared.urb.UrbId.{UrbId}
use Rattle.usb_types.specs.declared.urb.Role.{Role}
use Rattle.usb_types.specs.declared.urb.Role.TheVariants.{Write, Ctl}
use Rattle.usb_bind.specs.declared.row.Driver.{Driver}
use Rattle.usb_bind.specs.declared.row.Driver.TheVariants.{Keyboard, Acm, Printer}
use Rattle.usb_bind.specs.declared.bound.Bound.{Bound}
use Rattle.usb_bind.specs.Board.{is_binding_of, urb_of_role}
use Rattle.usb_scene.specs.declared.scene.Scene.{Scene}
use Rattle.usb_scene.specs.declared.scene.Target.{Target}
use Rattle.usb_scene.specs.declared.scene.Target.TheVariants as target
use Rattle.usb_prepare.specs.Prepared.{bindings_of}
use Rattle.usb_prepare.specs.Layout.{role_urb}
use Rattle.usb_trace.specs.declared.rows.HostCall.{HostCall}
use Rattle.usb_trace.specs.declared.rows.HostCall.TheVariants as host_call
use Rattle.usb_trace.specs.Plan.{host_call_called}

-- on an URB the numbers 1 to 7
abbrev pub numbered_on : ℕ → ℕ → HostCall
numbered_on code u =
    if code == 1 then host_call.Submit u
    else if code == 2 then host_call.Unlink u
    else if code == 3 then host_call.Kill u
    else if code == 4 then host_call.Poison u
    else if code == 5 then host_call.Unpoison u
    else if code == 6 then host_call.Block u
    else if code == 7 then host_call.Unblock u
    else host_call.Other

-- on nothing in particular 8, 21 and 22
abbrev pub numbered_alone : ℕ → HostCall
numbered_alone code = if code == 8 then host_call.Serve else if code == 21 then host_call.Down else if code == 22 then host_call.Up else host_call.Other

-- on an URB of a driver, where there is one
abbrev pub numbered_on_any : ℕ → Option ℕ → HostCall
numbered_on_any code None = host_call.Absent
numbered_on_any code (Some u) = numbered_on code u

-- on an interface 23 for a keyboard, 24 to 27 for a serial port, and 28 to 30 for a printer: the purpose of the URB that is submitted
abbrev pub numbered_role : ℕ → Driver → Option Role
numbered_role code Keyboard = if code == 23 then Some Ctl else None
numbered_role code Acm = if code == 24 then Some Write else if code == 25 || code == 26 || code == 27 then Some Ctl else None
numbered_role code Printer = if code == 28 then Some Write else if code == 29 || code == 30 then Some Ctl else None

abbrev pub numbered_urb : ℕ → Bound → Option UrbId
numbered_urb code b = option_and_then (urb_of_role b) (numbered_role code b.driver)

-- what a call with this number does
abbrev pub host_call_numbered : Scene → ℕ → Target → HostCall
host_call_numbered s code target.Nothing = numbered_alone code
host_call_numbered s code (target.Urb u) = numbered_on code u
host_call_numbered s code (target.Role device interface role) = numbered_on_any code (role_urb s device interface role)
host_call_numbered s code (target.Interface device interface) =
    host_call_called (option_map (λ (u : UrbId). u.0) (option_and_then (numbered_urb code) (find (is_binding_of device interface) (bindings_of s))))
host_call_numbered s code (target.Anchor a) = host_call.Other
host_call_numbered s code (target.Device d) = host_call.Other
