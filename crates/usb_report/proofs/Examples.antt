-- Examples that the checker computes: a modem and a keyboard in a report.
use Rattle.std.proofs.Common.{◌≡◌, ℕ, false, List, [], ◌∷◌, Some, None, refl}
use Rattle.std.specs.Prelude.{codes}
use Rattle.std.specs.Fmt.{digits}
use Rattle.usb_types.specs.declared.errno.Errno.TheVariants.{EPIPE, ENOENT}
use Rattle.usb_types.specs.declared.errno.Code.TheVariants.{Zero, Fault}
use Rattle.usb_types.specs.declared.urb.Role.TheVariants.{Read0}
use Rattle.usb_types.specs.Rows.{class_table, request_table, usage_table}
use Rattle.usb_desc.specs.declared.fault.DescFault.TheVariants.{Short, TotalLength}
use Rattle.usb_ctrl.specs.declared.fault.EnumFault.TheVariants as enum
use Rattle.usb_bind.specs.declared.row.Driver.TheVariants as driver
use Rattle.usb_bind.specs.declared.bound.Bound.{Bound}
use Rattle.usb_hid.specs.declared.event.Event.TheVariants.{Down, Up, Led}
use Rattle.usb_class.specs.declared.class_core.Told.TheVariants.{Keys, Serial}
use Rattle.usb_scene.specs.declared.scene.Scene.{Scene}
use Rattle.usb_scene.specs.declared.scene.SceneDevice.{SceneDevice}
use Rattle.usb_scene.specs.declared.scene.Target.TheVariants as on
use Rattle.usb_scene.specs.declared.operation.Operation.TheVariants.{Kill}
use Rattle.usb_prepare.specs.declared.found.Taken.TheVariants as taken
use Rattle.usb_prepare.specs.declared.found.InterfaceFound.{InterfaceFound}
use Rattle.usb_prepare.specs.declared.found.Found.{Found}
use Rattle.usb_prepare.specs.declared.found.Found.TheVariants as found
use Rattle.usb_line.specs.declared.line.LineOutcome.{LineOutcome}
use Rattle.usb_line.specs.declared.made.CallAnswer.TheVariants as told
use Rattle.usb_line.specs.declared.made.Outcome.TheVariants as outcome
use Rattle.usb_report.specs.Names.{urb_name}
use Rattle.usb_report.specs.Listing.{class_text, fault_text, list_text}
use Rattle.usb_report.specs.Telling.{drivers_section}
use Rattle.usb_report.specs.Report.{text_of}

-- devices with names of their own
module _ (any : SceneDevice) where
  abbrev device : List ℕ → SceneDevice
  device name = record any { name = name }

  -- a raw device, a modem, and a keyboard without a configuration; one URB, and one thread
  abbrev scene : Scene
  scene = record {
    version = 1;
    devices = device (codes "d") ∷ device (codes "m") ∷ device (codes "k") ∷ [];
    urbs = record { name = codes "a"; device = 0; address = 129; len = 8; again = 0; short = false } ∷ [];
    anchors = [];
    threads = record { name = codes "t"; calls = [] } ∷ [];
  }

  abbrev modem : Bound
  modem = record { driver = driver.Acm; device = 1; interface = 0; other = Some 1; urbs = Some (record { 0 = 1 }) ∷ Some (record { 0 = 2 }) ∷ Some (record { 0 = 3 }) ∷ Some (record { 0 = 4 }) ∷ Some (record { 0 = 5 }) ∷ [] }

  -- the scene's own URBs come first, and a driver's URB has the name that a line of the scene has for it
  own_urb : urb_name scene (modem ∷ []) 0 ≡ codes "a"
  unfolding digits urb_name
  own_urb = refl

  drivers_urb : urb_name scene (modem ∷ []) 2 ≡ codes "m.0.read0"
  unfolding digits urb_name
  drivers_urb = refl

  no_urb : urb_name scene (modem ∷ []) 6 ≡ []
  unfolding digits urb_name
  no_urb = refl

  -- a descriptor's fault with its numbers
  total_length : fault_text (enum.Descriptor (TotalLength 34 33)) ≡ codes "TotalLength 34 33"
  unfolding digits
  total_length = refl

  no_bytes : fault_text (enum.Descriptor (Short 0)) ≡ codes "Short 0"
  unfolding digits
  no_bytes = refl

  abbrev face : ℕ → ℕ → ℕ → ℕ → InterfaceFound
  face number class subclass protocol =
      record { number = number; class = class; subclass = subclass; protocol = protocol; taken = taken.By driver.Acm }

  abbrev all_found : List Found
  all_found =
      found.Raw
      ∷ found.Attached 0x1209 0x0001 (face 0 2 2 1 ∷ face 1 10 0 0 ∷ [])
      ∷ found.Fault (enum.Status 6 EPIPE)
      ∷ []

  -- a raw device has no line
  listed : list_text scene all_found
      ≡ codes "device m 1209:0001\ninterface 0 comm 02/02/01 cdc_acm\ninterface 1 cdcdata 0A/00/00 cdc_acm\ndevice k fault Status GET_DESCRIPTOR -EPIPE\n"
  unfolding digits class_text class_table request_table
  listed = refl

  -- the sections in their order
  abbrev outcome_of_one : LineOutcome
  outcome_of_one = record {
    found = found.Raw ∷ [];
    board = record { devices = []; firsts = []; bindings = modem ∷ [] };
    made = record { thread = 0; line = 7; operation = Kill; target = on.Role 1 0 Read0; answer = told.Buffer None } ∷ [];
    given = record { urb = 0; status = Fault ENOENT; actual = 2; outcome = outcome.Again Zero; bytes = 0x0A ∷ 0xFF ∷ [] } ∷ [];
    told = Serial [] 0 ∷ [];
    ends = [];
  }

  reported : text_of scene outcome_of_one ≡ codes "thread t\n7 kill m.0.read0 none\ngiven\na -ENOENT 2 again 0 0AFF\ndriver m 0 cdc_acm\n"
  unfolding digits urb_name
  reported = refl

  -- a keyboard's driver reports its keys, of which one has no name, and its lights
  abbrev keyboard : Bound
  keyboard = record { driver = driver.Keyboard; device = 2; interface = 0; other = None; urbs = Some (record { 0 = 6 }) ∷ Some (record { 0 = 7 }) ∷ [] }

  typed : drivers_section scene (modem ∷ keyboard ∷ []) (Serial [] 0 ∷ Keys (Down 0x0B ∷ Up 0x0B ∷ Down 0x01 ∷ Led 2 ∷ []) ∷ [])
      ≡ codes "driver m 0 cdc_acm\ndriver k 0 usbkbd\ndown 0B h\nup 0B h\ndown 01 -\nled 02\n"
  unfolding digits usage_table
  typed = refl
