-- What a call does is what its number in the table of calls says.
use Rattle.std.proofs.Common.{ℕ, ◌≡◌, cond, Option, Some, None, refl, sym, ap, ◌∙◌}
use Rattle.std.specs.Prelude.{◌||◌, find, option_map, option_and_then}
use Rattle.usb_types.specs.declared.urb.UrbId.{UrbId}
use Rattle.usb_types.specs.declared.urb.Role.{Role}
use Rattle.usb_types.specs.declared.urb.Role.TheVariants.{Write, Ctl}
use Rattle.usb_bind.specs.declared.row.Driver.{Driver}
use Rattle.usb_bind.specs.declared.row.Driver.TheVariants.{Keyboard, Acm, Printer}
use Rattle.usb_bind.specs.declared.bound.Bound.{Bound}
use Rattle.usb_bind.specs.Board.{is_binding_of, urb_of_role}
use Rattle.usb_class.specs.InterfaceOps.{role_for}
use Rattle.usb_scene.specs.declared.scene.Scene.{Scene}
use Rattle.usb_scene.specs.declared.scene.Call.{Call}
use Rattle.usb_scene.specs.declared.scene.Target.{Target}
use Rattle.usb_scene.specs.declared.scene.Target.TheVariants as target
use Rattle.usb_scene.specs.declared.operation.Operation.{Operation}
use Rattle.usb_scene.specs.declared.operation.Operation.TheVariants as op
use Rattle.usb_scene.specs.declared.operation.InterfaceOp.{InterfaceOp}
use Rattle.usb_scene.specs.declared.operation.InterfaceOp.TheVariants as on
use Rattle.usb_scene.specs.Operation.{operation_of, number_of, interface_number}
use Rattle.usb_scene.proofs.Operations.{number_kept, Decoded, decoded}
use Rattle.usb_prepare.specs.Prepared.{bindings_of}
use Rattle.usb_prepare.specs.Layout.{role_urb}
use Rattle.usb_trace.specs.declared.rows.HostCall.{HostCall}
use Rattle.usb_trace.specs.declared.rows.HostCall.TheVariants as host_call
use Rattle.usb_trace.specs.Plan.{host_call_on, host_call_alone, host_call_on_any, host_call_called, called_of, host_call_by, host_call_of}
use Rattle.usb_trace.specs.ByNumber.{numbered_on, numbered_alone, numbered_on_any, numbered_role, numbered_urb, host_call_numbered}

on_by_number : (o : Operation) → Decoded o → (u : ℕ) → host_call_on o u ≡ numbered_on (number_of o) u
on_by_number op.Submit is u = refl
on_by_number op.Unlink is u = refl
on_by_number op.Kill is u = refl
on_by_number op.Poison is u = refl
on_by_number op.Unpoison is u = refl
on_by_number op.Block is u = refl
on_by_number op.Unblock is u = refl
on_by_number op.Serve is u = refl
on_by_number op.Down is u = refl
on_by_number op.Up is u = refl
on_by_number (op.Interface (on.Led lights)) is u = refl
on_by_number (op.Interface on.Write) is u = refl
on_by_number (op.Interface (on.Coding rate stop parity bits)) is u = refl
on_by_number (op.Interface (on.Control lines)) is u = refl
on_by_number (op.Interface (on.SendBreak ms)) is u = refl
on_by_number (op.Interface on.Print) is u = refl
on_by_number (op.Interface on.Status) is u = refl
on_by_number (op.Interface on.SoftReset) is u = refl
on_by_number (op.Unbuilt code) is u = sym (λ i. cond (is.submit i) (host_call.Submit u) (cond (is.unlink i) (host_call.Unlink u) (cond (is.kill i) (host_call.Kill u)
    (cond (is.poison i) (host_call.Poison u) (cond (is.unpoison i) (host_call.Unpoison u) (cond (is.block i) (host_call.Block u) (cond (is.unblock i) (host_call.Unblock u) host_call.Other)))))))

alone_by_number : (o : Operation) → Decoded o → host_call_alone o ≡ numbered_alone (number_of o)
alone_by_number op.Submit is = refl
alone_by_number op.Unlink is = refl
alone_by_number op.Kill is = refl
alone_by_number op.Poison is = refl
alone_by_number op.Unpoison is = refl
alone_by_number op.Block is = refl
alone_by_number op.Unblock is = refl
alone_by_number op.Serve is = refl
alone_by_number op.Down is = refl
alone_by_number op.Up is = refl
alone_by_number (op.Interface (on.Led lights)) is = refl
alone_by_number (op.Interface on.Write) is = refl
alone_by_number (op.Interface (on.Coding rate stop parity bits)) is = refl
alone_by_number (op.Interface (on.Control lines)) is = refl
alone_by_number (op.Interface (on.SendBreak ms)) is = refl
alone_by_number (op.Interface on.Print) is = refl
alone_by_number (op.Interface on.Status) is = refl
alone_by_number (op.Interface on.SoftReset) is = refl
alone_by_number (op.Unbuilt code) is = sym (λ i. cond (is.serve i) host_call.Serve (cond (is.down i) host_call.Down (cond (is.up i) host_call.Up host_call.Other)))

-- the purpose of the URB that an operation on an interface submits
abbrev purpose_of : Operation → Driver → Option Role
purpose_of (op.Interface asked) driver = role_for asked driver
purpose_of _ driver = None

role_by_number : (o : Operation) → Decoded o → (driver : Driver) → purpose_of o driver ≡ numbered_role (number_of o) driver
role_by_number (op.Unbuilt code) is Keyboard = sym (λ i. cond (is.led i) (Some Ctl) None)
role_by_number (op.Unbuilt code) is Acm = sym (λ i. cond (is.write i) (Some Write) (cond (is.coding i || is.control i || is.send_break i) (Some Ctl) None))
role_by_number (op.Unbuilt code) is Printer = sym (λ i. cond (is.print i) (Some Write) (cond (is.status i || is.soft_reset i) (Some Ctl) None))
role_by_number op.Submit is Keyboard = refl
role_by_number op.Submit is Acm = refl
role_by_number op.Submit is Printer = refl
role_by_number op.Unlink is Keyboard = refl
role_by_number op.Unlink is Acm = refl
role_by_number op.Unlink is Printer = refl
role_by_number op.Kill is Keyboard = refl
role_by_number op.Kill is Acm = refl
role_by_number op.Kill is Printer = refl
role_by_number op.Poison is Keyboard = refl
role_by_number op.Poison is Acm = refl
role_by_number op.Poison is Printer = refl
role_by_number op.Unpoison is Keyboard = refl
role_by_number op.Unpoison is Acm = refl
role_by_number op.Unpoison is Printer = refl
role_by_number op.Block is Keyboard = refl
role_by_number op.Block is Acm = refl
role_by_number op.Block is Printer = refl
role_by_number op.Unblock is Keyboard = refl
role_by_number op.Unblock is Acm = refl
role_by_number op.Unblock is Printer = refl
role_by_number op.Serve is Keyboard = refl
role_by_number op.Serve is Acm = refl
role_by_number op.Serve is Printer = refl
role_by_number op.Down is Keyboard = refl
role_by_number op.Down is Acm = refl
role_by_number op.Down is Printer = refl
role_by_number op.Up is Keyboard = refl
role_by_number op.Up is Acm = refl
role_by_number op.Up is Printer = refl
role_by_number (op.Interface asked) is driver = on_interface asked driver
  where
    on_interface : (asked : InterfaceOp) (driver : Driver) → role_for asked driver ≡ numbered_role (interface_number asked) driver
    on_interface (on.Led lights) Keyboard = refl
    on_interface (on.Led lights) Acm = refl
    on_interface (on.Led lights) Printer = refl
    on_interface on.Write Keyboard = refl
    on_interface on.Write Acm = refl
    on_interface on.Write Printer = refl
    on_interface (on.Coding rate stop parity bits) Keyboard = refl
    on_interface (on.Coding rate stop parity bits) Acm = refl
    on_interface (on.Coding rate stop parity bits) Printer = refl
    on_interface (on.Control lines) Keyboard = refl
    on_interface (on.Control lines) Acm = refl
    on_interface (on.Control lines) Printer = refl
    on_interface (on.SendBreak ms) Keyboard = refl
    on_interface (on.SendBreak ms) Acm = refl
    on_interface (on.SendBreak ms) Printer = refl
    on_interface on.Print Keyboard = refl
    on_interface on.Print Acm = refl
    on_interface on.Print Printer = refl
    on_interface on.Status Keyboard = refl
    on_interface on.Status Acm = refl
    on_interface on.Status Printer = refl
    on_interface on.SoftReset Keyboard = refl
    on_interface on.SoftReset Acm = refl
    on_interface on.SoftReset Printer = refl

-- the URB is that of the purpose
called_is : (o : Operation) (b : Bound) → called_of o b ≡ option_and_then (urb_of_role b) (purpose_of o b.driver)
called_is (op.Interface asked) b = refl
called_is op.Submit b = refl
called_is op.Unlink b = refl
called_is op.Kill b = refl
called_is op.Poison b = refl
called_is op.Unpoison b = refl
called_is op.Block b = refl
called_is op.Unblock b = refl
called_is op.Serve b = refl
called_is op.Down b = refl
called_is op.Up b = refl
called_is (op.Unbuilt code) b = refl

called_by_number : (o : Operation) → Decoded o → (b : Bound) → called_of o b ≡ numbered_urb (number_of o) b
called_by_number o is b = called_is o b ∙ ap (option_and_then (urb_of_role b)) (role_by_number o is b.driver)

any_by_number : (o : Operation) → Decoded o → (u : Option ℕ) → host_call_on_any o u ≡ numbered_on_any (number_of o) u
any_by_number o is None = refl
any_by_number o is (Some u) = on_by_number o is u

found_by_number : (o : Operation) → Decoded o → (b : Option Bound) → option_and_then (called_of o) b ≡ option_and_then (numbered_urb (number_of o)) b
found_by_number o is None = refl
found_by_number o is (Some b) = called_by_number o is b

target_by_number : (s : Scene) (o : Operation) → Decoded o → (t : Target) → host_call_by s o t ≡ host_call_numbered s (number_of o) t
target_by_number s o is target.Nothing = alone_by_number o is
target_by_number s o is (target.Urb u) = on_by_number o is u
target_by_number s o is (target.Role d i r) = any_by_number o is (role_urb s d i r)
target_by_number s o is (target.Interface d i) =
    ap (λ found. host_call_called (option_map (λ (u : UrbId). u.0) found)) (found_by_number o is (find (is_binding_of d i) (bindings_of s)))
target_by_number s o is (target.Anchor a) = refl
target_by_number s o is (target.Device d) = refl

pub by_number : (s : Scene) (c : Call) → host_call_of s c ≡ host_call_numbered s c.code c.target
by_number s c = target_by_number s (operation_of c) (decoded c) c.target ∙ ap (λ n. host_call_numbered s n c.target) (number_kept c)
