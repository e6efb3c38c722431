-- The words of lines: what a device is given, the calls, the kinds of devices and the types of endpoints.
use Rattle.std.specs.Prelude.{ℕ, List, [], ◌∷◌, Option, codes, find}
use Rattle.std.specs.Str.{bytes_eq}
use Rattle.usb_machine.specs.declared.layout.EndKind.{EndKind}
use Rattle.usb_machine.specs.declared.layout.EndKind.TheVariants.{Control, Bulk, Interrupt, Iso}
use Rattle.usb_xfer.specs.declared.script.Kind.{Kind}
use Rattle.usb_xfer.specs.declared.script.Kind.TheVariants.{Raw, Keyboard, Acm, Printer}
use Rattle.usb_statement.specs.declared.keyword.DeviceBytes.{DeviceBytes}
use Rattle.usb_statement.specs.declared.keyword.DeviceBytes.TheVariants.{Desc, Config, Id}
use Rattle.usb_statement.specs.declared.keyword.UrbCall.{UrbCall}
use Rattle.usb_statement.specs.declared.keyword.UrbCall.TheVariants.{Unlink, Kill, Poison, Unpoison, Block, Unblock}
use Rattle.usb_statement.specs.declared.keyword.BareCall.{BareCall}
use Rattle.usb_statement.specs.declared.keyword.BareCall.TheVariants.{Serve, Down, Up}
use Rattle.usb_statement.specs.declared.keyword.InterfaceWord.{InterfaceWord}
use Rattle.usb_statement.specs.declared.keyword.InterfaceWord.TheVariants as called

-- the first of these whose word this is
abbrev pub named : {X : Type 0} → (X → List ℕ) → List X → List ℕ → Option X
named word xs text = find (λ x. bytes_eq text (word x)) xs

-- bytes that a line gives its device
abbrev pub device_bytes_text : DeviceBytes → List ℕ
device_bytes_text Desc = codes "desc"
device_bytes_text Config = codes "config"
device_bytes_text Id = codes "id"

-- a call on an URB alone
abbrev pub urb_call_text : UrbCall → List ℕ
urb_call_text Unlink = codes "unlink"
urb_call_text Kill = codes "kill"
urb_call_text Poison = codes "poison"
urb_call_text Unpoison = codes "unpoison"
urb_call_text Block = codes "block"
urb_call_text Unblock = codes "unblock"

-- a call on nothing
abbrev pub bare_call_text : BareCall → List ℕ
bare_call_text Serve = codes "serve"
bare_call_text Down = codes "down"
bare_call_text Up = codes "up"

-- a call on an interface that a driver has
abbrev pub interface_word_text : InterfaceWord → List ℕ
interface_word_text called.Led = codes "led"
interface_word_text called.Write = codes "write"
interface_word_text called.Coding = codes "coding"
interface_word_text called.Control = codes "control"
interface_word_text called.SendBreak = codes "sendbreak"
interface_word_text called.Print = codes "print"
interface_word_text called.Status = codes "status"
interface_word_text called.SoftReset = codes "softreset"

-- KIND
abbrev pub device_kind_text : Kind → List ℕ
device_kind_text Raw = codes "raw"
device_kind_text Keyboard = codes "keyboard"
device_kind_text Acm = codes "acm"
device_kind_text Printer = codes "printer"

-- TYPE; the endpoint 00 has no line
abbrev pub kind_text : EndKind → List ℕ
kind_text Control = codes "-"
kind_text Bulk = codes "bulk"
kind_text Interrupt = codes "int"
kind_text Iso = codes "iso"
