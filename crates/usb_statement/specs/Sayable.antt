-- What holds of every statement that is read from a line.
use Rattle.usb_types.specs.Limits.{most_kept, most_packet, most_times}
use Rattle.std.specs.Prelude.{ℕ, ◌≡◌, ◌<◌, ◌≤◌, ◌^◌, ◌==◌, Bool, true, false, List, length, Option, Some, None}
use Rattle.std.specs.List.{All}
use Rattle.usb_machine.specs.declared.layout.EndKind.{EndKind}
use Rattle.usb_machine.specs.declared.layout.EndKind.TheVariants.{Control, Bulk, Interrupt, Iso}
use Rattle.usb_text.specs.Kinds.{is_name, is_address}
use Rattle.usb_text.specs.Written.{AreBytes}
use Rattle.usb_xfer.specs.declared.script.What.{What}
use Rattle.usb_xfer.specs.declared.script.What.TheVariants.{Packet}
use Rattle.usb_xfer.specs.declared.script.Item.{Item}
use Rattle.usb_statement.specs.InterfaceCalls.{is_data_bits}
use Rattle.usb_statement.specs.Items.{are_items_of}
use Rattle.usb_statement.specs.Statements.{is_empty}
use Rattle.usb_statement.specs.declared.options.UrbOption.{UrbOption}
use Rattle.usb_statement.specs.declared.options.UrbOption.TheVariants.{Len, Again, Short}
use Rattle.usb_statement.specs.declared.urb_name.UrbName.{UrbName}
use Rattle.usb_statement.specs.declared.urb_name.UrbName.TheVariants.{Scripted, Driver}
use Rattle.usb_statement.specs.declared.interface_call.InterfaceCall.{InterfaceCall}
use Rattle.usb_statement.specs.declared.interface_call.InterfaceCall.TheVariants as made
use Rattle.usb_statement.specs.declared.statement.Statement.{Statement}
use Rattle.usb_statement.specs.declared.statement.Statement.TheVariants as say

-- a number of at most nine digits
abbrev pub IsNumber : ℕ → Type 0
IsNumber n = n < 10 ^ 9

-- the address of an endpoint other than 00
pub record IsEndAddress (address : ℕ) : Type 0 where
  pub valid : is_address address ≡ true
  pub some : (address == 0) ≡ false

-- every kind of endpoint but that of 00
abbrev pub is_end_kind : EndKind → Bool
is_end_kind Control = false
is_end_kind Bulk = true
is_end_kind Interrupt = true
is_end_kind Iso = true

-- bytes of a packet, at most 1,024
abbrev pub IsPacket : What → Type 0
IsPacket (Packet bytes) = AreBytes bytes × (length bytes ≤ most_packet)
IsPacket _ = Unit {0}

pub record IsSayableItem (item : Item) : Type 0 where
  pub some : 1 ≤ item.times
  pub most : item.times ≤ most_times
  pub packet : IsPacket item.what

abbrev pub IsSayableOption : UrbOption → Type 0
IsSayableOption (Len n) = IsNumber n
IsSayableOption (Again n) = IsNumber n
IsSayableOption Short = Unit {0}

abbrev pub IsUrbName : UrbName → Type 0
IsUrbName (Scripted name) = is_name name ≡ true
IsUrbName (Driver device number role) = (is_name device ≡ true) × IsNumber number

-- a setup packet has eight bytes
abbrev pub IsSetup : Option (List ℕ) → Type 0
IsSetup None = Unit {0}
IsSetup (Some bytes) = AreBytes bytes × (length bytes ≡ 8)

-- bytes of DATA.., of which no more is kept than one above the most that any line may have
abbrev pub IsKept : List ℕ → Type 0
IsKept bytes = AreBytes bytes × (length bytes ≤ most_kept)

-- bytes to send
abbrev pub IsSent : Option (List ℕ) → Type 0
IsSent None = Unit {0}
IsSent (Some bytes) = IsKept bytes

pub record IsEpLine (address : ℕ) (kind : EndKind) (size interval : ℕ) : Type 0 where
  pub address_of_end : IsEndAddress address
  pub kind_of_end : is_end_kind kind ≡ true
  pub size_number : IsNumber size
  pub interval_number : IsNumber interval

pub record IsAnswerLine (address : ℕ) (items : List Item) : Type 0 where
  pub valid : is_address address ≡ true
  pub some : is_empty items ≡ false
  pub each : All IsSayableItem items
  pub fit : are_items_of address items ≡ true

pub record IsUrbLine (name device : List ℕ) (address : ℕ) (options : List UrbOption) : Type 0 where
  pub named : is_name name ≡ true
  pub on_device : is_name device ≡ true
  pub valid : is_address address ≡ true
  pub each : All IsSayableOption options

-- a line coding
pub record IsCodingLine (rate stop parity bits : ℕ) : Type 0 where
  pub rate_number : IsNumber rate
  pub stop_number : IsNumber stop
  pub parity_number : IsNumber parity
  pub bits_number : IsNumber bits
  pub bits_of_data : is_data_bits bits ≡ true

-- what a call on an interface carries
abbrev pub IsCarried : InterfaceCall → Type 0
IsCarried (made.Led lights) = lights < 256
IsCarried (made.Write bytes) = IsKept bytes
IsCarried (made.Coding rate stop parity bits) = IsCodingLine rate stop parity bits
IsCarried (made.Control lines) = lines < 256
IsCarried (made.SendBreak ms) = IsNumber ms
IsCarried (made.Print bytes) = IsKept bytes
IsCarried made.Status = Unit {0}
IsCarried made.SoftReset = Unit {0}

pub record IsInterfaceLine (call : InterfaceCall) (device : List ℕ) (interface : ℕ) : Type 0 where
  pub on_device : is_name device ≡ true
  pub numbered : IsNumber interface
  pub carried : IsCarried call

-- what holds of a statement that is read from a line
abbrev pub IsSayable : Statement → Type 0
IsSayable (say.Device name kind) = is_name name ≡ true
IsSayable (say.Ep address kind size interval) = IsEpLine address kind size interval
IsSayable (say.Bytes which bytes) = IsKept bytes
IsSayable (say.Port status) = status < 256
IsSayable (say.Answer address items) = IsAnswerLine address items
IsSayable (say.Urb name device address options) = IsUrbLine name device address options
IsSayable (say.Thread name) = is_name name ≡ true
IsSayable (say.Submit urb setup bytes) = IsUrbName urb × IsSetup setup × IsSent bytes
IsSayable (say.OnUrb call urb) = IsUrbName urb
IsSayable (say.Alone call) = Unit {0}
IsSayable (say.OnInterface call device interface) = IsInterfaceLine call device interface
