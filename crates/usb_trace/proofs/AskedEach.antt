-- What holds of no entries, and of a submit, holds of what a handler asks.
use Rattle.std.proofs.Common.{◌≡◌, Option, Some, None, List, [], refl}
use Rattle.usb_types.specs.declared.errno.Code.{Code}
use Rattle.usb_types.specs.declared.errno.Errno.{Errno}
use Rattle.usb_machine.specs.declared.entry.TheConstants.{SERVER}
use Rattle.usb_machine.specs.declared.entry.Entry.{Entry}
use Rattle.usb_machine.specs.Shapes.{shape_fault}
use Rattle.usb_machine.specs.Calls.{submit_entries}
use Rattle.usb_scene.specs.declared.scene.Scene.{Scene}
use Rattle.usb_prepare.specs.Ends.{shape_at}
use Rattle.usb_prepare.specs.Layout.{home}
use Rattle.usb_trace.specs.Plan.{DriverQuestion}
use Rattle.usb_trace.specs.Run.{submit_of, asked_entries}

module _ (s : Scene) where
  abbrev shape_of : DriverQuestion → Option Errno
  shape_of a = shape_fault (shape_at s (home s a.urb)) a.transfer

  pub asked_each : (P : List Entry → Type 0) (asking : Option DriverQuestion) (c : Code) → P []
      → ((a : DriverQuestion) → asking ≡ Some a → shape_of a ≡ None → P (submit_entries SERVER a.urb a.transfer c)) → P (asked_entries s asking c)
  asked_each P None c nothing some = nothing
  asked_each P (Some a) c nothing some = go (shape_of a) refl
    where
      go : (fault : Option Errno) → shape_of a ≡ fault → P (submit_of fault SERVER a.urb a.transfer c)
      go None is = some a refl is
      go (Some e) is = nothing
