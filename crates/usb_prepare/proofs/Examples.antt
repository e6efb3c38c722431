-- Examples that the checker computes: what a keyboard and a raw device are found to be, and the id of a printer.
use Rattle.std.proofs.Common.{◌≡◌, ℕ, List, [], ◌∷◌, Some, None, refl}
use Rattle.usb_types.specs.declared.urb.Role.TheVariants.{In}
use Rattle.usb_xfer.specs.declared.script.Item.{Item}
use Rattle.usb_xfer.specs.declared.script.What.TheVariants.{Nak}
use Rattle.usb_xfer.specs.declared.script.Kind.{Kind}
use Rattle.usb_xfer.specs.declared.script.Kind.TheVariants.{Raw, Keyboard, Printer}
use Rattle.usb_bind.specs.declared.row.Driver.TheVariants as driver
use Rattle.usb_device.specs.Rules.{first_state}
use Rattle.usb_scene.specs.declared.scene.Scene.{Scene}
use Rattle.usb_scene.specs.declared.scene.SceneDevice.{SceneDevice}
use Rattle.usb_prepare.specs.declared.found.InterfaceFound.{InterfaceFound}
use Rattle.usb_prepare.specs.declared.found.Found.TheVariants as found
use Rattle.usb_prepare.specs.declared.found.Taken.{Taken}
use Rattle.usb_prepare.specs.declared.found.Taken.TheVariants as taken
use Rattle.usb_prepare.specs.Enumerated.{enumerated}
use Rattle.usb_prepare.specs.Ends.{attached_as, device_ends, shapes_of}
use Rattle.usb_prepare.specs.Prepared.{probes_of, found_of, ids_of}
use Rattle.usb_prepare.specs.Layout.{role_urb}

-- a device with the descriptors of a boot keyboard; at 00 it does this first
abbrev device : Kind → List Item → SceneDevice
device kind items = record {
  name = [];
  script = record {
    kind = kind;
    ends = [];
    desc = None;
    config = Some (9 ∷ 2 ∷ 34 ∷ 0 ∷ 1 ∷ 1 ∷ 0 ∷ 160 ∷ 50 ∷ 9 ∷ 4 ∷ 0 ∷ 0 ∷ 1 ∷ 3 ∷ 1 ∷ 1 ∷ 0 ∷ 9 ∷ 33 ∷ 17 ∷ 1 ∷ 0 ∷ 1 ∷ 34 ∷ 63 ∷ 0 ∷ 7 ∷ 5 ∷ 129 ∷ 3 ∷ 8 ∷ 0 ∷ 10 ∷ []);
    answers = record { address = 0; items = items } ∷ [];
    id = None;
    port = 24;
  };
}

abbrev scene : List SceneDevice → Scene
scene devices = record { version = 1; devices = devices; urbs = []; anchors = []; threads = [] }

abbrev boot_face : Taken → InterfaceFound
boot_face t = record { number = 0; class = 3; subclass = 1; protocol = 1; taken = t }

a_keyboard_is_bound : found_of (scene (device Keyboard [] ∷ [])) ≡ found.Attached 0x1209 0x0001 (boot_face (taken.By driver.Keyboard) ∷ []) ∷ []
unfolding found_of probes_of enumerated attached_as device_ends shapes_of first_state
a_keyboard_is_bound = refl

its_urb_is_the_first : role_urb (scene (device Raw [] ∷ device Keyboard [] ∷ [])) 1 0 In ≡ Some 0
unfolding role_urb probes_of enumerated attached_as device_ends shapes_of first_state
its_urb_is_the_first = refl

a_raw_device_is_not_asked : found_of (scene (device Raw [] ∷ [])) ≡ found.Raw ∷ []
unfolding found_of probes_of attached_as device_ends shapes_of
a_raw_device_is_not_asked = refl

-- a printer with this id; at 00 it does this first
abbrev printer : List ℕ → List Item → SceneDevice
printer id items = record {
  name = [];
  script = record {
    kind = Printer;
    ends = [];
    desc = None;
    config = Some (9 ∷ 2 ∷ 32 ∷ 0 ∷ 1 ∷ 1 ∷ 0 ∷ 192 ∷ 0 ∷ 9 ∷ 4 ∷ 0 ∷ 0 ∷ 2 ∷ 7 ∷ 1 ∷ 2 ∷ 0 ∷ 7 ∷ 5 ∷ 1 ∷ 2 ∷ 64 ∷ 0 ∷ 0 ∷ 7 ∷ 5 ∷ 130 ∷ 2 ∷ 64 ∷ 0 ∷ 0 ∷ []);
    answers = record { address = 0; items = items } ∷ [];
    id = Some id;
    port = 24;
  };
}

abbrev id : List ℕ
id = 0x00 ∷ 0x08 ∷ 0x4D ∷ 0x46 ∷ 0x47 ∷ 0x3A ∷ 0x41 ∷ 0x3B ∷ []

a_printer_tells_its_id : ids_of (scene (device Keyboard [] ∷ printer id [] ∷ [])) ≡ [] ∷ id ∷ []
unfolding probes_of enumerated attached_as device_ends shapes_of first_state
a_printer_tells_its_id = refl

a_cancelled_probe_tells_nothing : ids_of (scene (printer id (record { times = 1; what = Nak } ∷ []) ∷ [])) ≡ []
unfolding probes_of enumerated attached_as device_ends shapes_of first_state
a_cancelled_probe_tells_nothing = refl
