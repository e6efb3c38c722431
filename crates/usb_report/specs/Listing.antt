-- The list of what a scene's devices are found to be, and of the drivers that have their interfaces.
use Rattle.std.specs.Prelude.{ℕ, ◌/◌, ◌%◌, List, [], ◌∷◌, ◌++◌, codes, decimal, unwrap_or}
use Rattle.std.specs.List.{flat_map}
use Rattle.usb_types.specs.declared.errno.Code.TheVariants.{Fault}
use Rattle.usb_types.specs.Codes.{code_text}
use Rattle.usb_types.specs.Table.{name_at}
use Rattle.usb_types.specs.Rows.{class_table, request_table}
use Rattle.usb_text.specs.Print.{hex_pair, line}
use Rattle.usb_desc.specs.declared.fault.DescFault.{DescFault}
use Rattle.usb_desc.specs.declared.fault.DescFault.TheVariants as desc
use Rattle.usb_ctrl.specs.declared.fault.EnumFault.{EnumFault}
use Rattle.usb_ctrl.specs.declared.fault.EnumFault.TheVariants as enum
use Rattle.usb_bind.specs.declared.row.Driver.{Driver}
use Rattle.usb_bind.specs.declared.row.Driver.TheVariants as driver
use Rattle.usb_bind.specs.declared.bound.Bound.{Bound}
use Rattle.usb_scene.specs.declared.scene.Scene.{Scene}
use Rattle.usb_prepare.specs.declared.found.Taken.{Taken}
use Rattle.usb_prepare.specs.declared.found.Taken.TheVariants as taken
use Rattle.usb_prepare.specs.declared.found.InterfaceFound.{InterfaceFound}
use Rattle.usb_prepare.specs.declared.found.Found.{Found}
use Rattle.usb_prepare.specs.declared.found.Found.TheVariants as found
use Rattle.usb_report.specs.Numbered.{numbered}
use Rattle.usb_report.specs.Names.{device_name}

-- a number of two bytes as four digits, the high byte first
abbrev pub quad : ℕ → List ℕ
quad n = hex_pair (n / 256) ++ hex_pair (n % 256)

-- the name of a descriptor's fault with its numbers
abbrev pub desc_text : DescFault → List ℕ
desc_text (desc.Short at) = codes "Short " ++ decimal at
desc_text (desc.BadLength at) = codes "BadLength " ++ decimal at
desc_text (desc.BadType at) = codes "BadType " ++ decimal at
desc_text (desc.TotalLength said found) = codes "TotalLength " ++ decimal said ++ (codes " " ++ decimal found)
desc_text (desc.EndpointWithoutInterface at) = codes "EndpointWithoutInterface " ++ decimal at
desc_text (desc.TwiceEndpoint at) = codes "TwiceEndpoint " ++ decimal at
desc_text (desc.Limit at) = codes "Limit " ++ decimal at
desc_text desc.Memory = codes "Memory"

-- the name of a standard request
abbrev pub request_name : ℕ → List ℕ
request_name request = unwrap_or (name_at request_table request) (codes "-")

-- why an enumeration ended
abbrev pub fault_text : EnumFault → List ℕ
fault_text (enum.Status request errno) = codes "Status " ++ request_name request ++ codes " " ++ code_text (Fault errno)
fault_text (enum.Descriptor fault) = desc_text fault
fault_text (enum.Changed old new) = codes "Changed"
fault_text enum.Memory = codes "Memory"

-- the kernel's names of the drivers
abbrev pub driver_name : Driver → List ℕ
driver_name driver.Keyboard = codes "usbkbd"
driver_name driver.Acm = codes "cdc_acm"
driver_name driver.Printer = codes "usblp"

abbrev pub taken_text : Taken → List ℕ
taken_text (taken.By driver) = driver_name driver
taken_text taken.Full = codes "full"
taken_text taken.Busy = codes "busy"
taken_text taken.Failed = codes "fail"
taken_text taken.Nobody = codes "none"

abbrev pub class_name : ℕ → List ℕ
class_name class = unwrap_or (name_at class_table class) (codes "-")

-- class, subclass and protocol: CC/SS/PP
unfoldable pub class_text : InterfaceFound → List ℕ
class_text face = hex_pair face.class ++ codes "/" ++ hex_pair face.subclass ++ codes "/" ++ hex_pair face.protocol

-- interface N CLASSNAME CC/SS/PP DRIVER
abbrev pub face_text : InterfaceFound → List ℕ
face_text face = line (codes "interface" ∷ decimal face.number ∷ class_name face.class ∷ class_text face ∷ taken_text face.taken ∷ [])

-- device NAME VVVV:PPPP with the lines of its interfaces, or device NAME fault FAULT; a raw device has no line
abbrev pub found_text : List ℕ → Found → List ℕ
found_text name found.Raw = []
found_text name (found.Attached vendor product faces) =
    line (codes "device" ∷ name ∷ (quad vendor ++ codes ":" ++ quad product) ∷ []) ++ flat_map face_text faces
found_text name (found.Fault fault) = line (codes "device" ∷ name ∷ codes "fault" ∷ fault_text fault ∷ [])

-- the lines of all devices, in scene order
abbrev pub list_text : Scene → List Found → List ℕ
list_text s found = numbered (λ d one. found_text (device_name s d) one) 0 found

-- driver DEVICE INTERFACE DRIVER
abbrev pub bound_text : Scene → Bound → List ℕ
bound_text s b = line (codes "driver" ∷ device_name s b.device ∷ decimal b.interface ∷ driver_name b.driver ∷ [])
