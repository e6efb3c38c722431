-- What a call asks for. The text of a scene says it by a word, and a call keeps the word's number in the table of calls.
use Rattle.std.specs.Prelude.{ℕ, ◌%◌, ◌==◌, Bool, true, false, if◌then◌else◌, codes, List, [], ◌∷◌, slice_index, Option, Some, unwrap_or}
use Rattle.usb_types.specs.Table.{name_at}
use Rattle.usb_types.specs.Rows.{call_table}
use Rattle.usb_statement.specs.declared.keyword.UrbCall.{UrbCall}
use Rattle.usb_statement.specs.declared.keyword.UrbCall.TheVariants as on
use Rattle.usb_statement.specs.declared.keyword.BareCall.{BareCall}
use Rattle.usb_statement.specs.declared.keyword.BareCall.TheVariants as bare
use Rattle.usb_statement.specs.declared.interface_call.InterfaceCall.{InterfaceCall}
use Rattle.usb_statement.specs.declared.interface_call.InterfaceCall.TheVariants as made
use Rattle.usb_scene.specs.declared.scene.Call.{Call}
use Rattle.usb_scene.specs.declared.operation.Operation.{Operation}
use Rattle.usb_scene.specs.declared.operation.Operation.TheVariants.{Submit, Unlink, Kill, Poison, Unpoison, Block, Unblock, Serve, Down, Up, Interface, Unbuilt}
use Rattle.usb_scene.specs.declared.operation.InterfaceOp.{InterfaceOp}
use Rattle.usb_scene.specs.declared.operation.InterfaceOp.TheVariants as op

-- the one byte that a call says: of several the first, and 0 where it says none
abbrev pub byte_in : Option (List ℕ) → ℕ
byte_in (Some (b ∷ bytes)) = b
byte_in bytes = 0

-- The operation on an interface. The numbers of a line coding but its rate are bytes (PSTN 1.2 §6.3.11), and the time of a
-- break is two bytes (PSTN 1.2 §6.3.13): of greater numbers, which no text of a scene says, the low bytes count
abbrev pub interface_operation : ℕ → List ℕ → Option (List ℕ) → Operation
interface_operation code numbers bytes =
    if code == 23 then Interface (op.Led (byte_in bytes))
    else if code == 24 then Interface op.Write
    else if code == 25 then Interface (op.Coding (slice_index numbers 0) (slice_index numbers 1 % 256) (slice_index numbers 2 % 256) (slice_index numbers 3 % 256))
    else if code == 26 then Interface (op.Control (byte_in bytes))
    else if code == 27 then Interface (op.SendBreak (slice_index numbers 0 % 65536))
    else if code == 28 then Interface op.Print
    else if code == 29 then Interface op.Status
    else if code == 30 then Interface op.SoftReset
    else Unbuilt code

-- the operation, by the number, the numbers and the bytes of a call
abbrev pub operation_by : ℕ → List ℕ → Option (List ℕ) → Operation
operation_by code numbers bytes =
    if code == 1 then Submit
    else if code == 2 then Unlink
    else if code == 3 then Kill
    else if code == 4 then Poison
    else if code == 5 then Unpoison
    else if code == 6 then Block
    else if code == 7 then Unblock
    else if code == 8 then Serve
    else if code == 21 then Down
    else if code == 22 then Up
    else interface_operation code numbers bytes

abbrev pub operation_of : Call → Operation
operation_of c = operation_by c.code c.numbers c.bytes

-- the number of an operation in the table of calls
abbrev pub interface_number : InterfaceOp → ℕ
interface_number (op.Led lights) = 23
interface_number op.Write = 24
interface_number (op.Coding rate stop parity bits) = 25
interface_number (op.Control lines) = 26
interface_number (op.SendBreak ms) = 27
interface_number op.Print = 28
interface_number op.Status = 29
interface_number op.SoftReset = 30

abbrev pub number_of : Operation → ℕ
number_of Submit = 1
number_of Unlink = 2
number_of Kill = 3
number_of Poison = 4
number_of Unpoison = 5
number_of Block = 6
number_of Unblock = 7
number_of Serve = 8
number_of Down = 21
number_of Up = 22
number_of (Interface asked) = interface_number asked
number_of (Unbuilt code) = code

-- the word of an operation
abbrev pub interface_text : InterfaceOp → List ℕ
interface_text (op.Led lights) = codes "led"
interface_text op.Write = codes "write"
interface_text (op.Coding rate stop parity bits) = codes "coding"
interface_text (op.Control lines) = codes "control"
interface_text (op.SendBreak ms) = codes "sendbreak"
interface_text op.Print = codes "print"
interface_text op.Status = codes "status"
interface_text op.SoftReset = codes "softreset"

-- a number that no call has, has no word
abbrev pub operation_text : Operation → List ℕ
operation_text Submit = codes "submit"
operation_text Unlink = codes "unlink"
operation_text Kill = codes "kill"
operation_text Poison = codes "poison"
operation_text Unpoison = codes "unpoison"
operation_text Block = codes "block"
operation_text Unblock = codes "unblock"
operation_text Serve = codes "serve"
operation_text Down = codes "down"
operation_text Up = codes "up"
operation_text (Interface asked) = interface_text asked
operation_text (Unbuilt code) = unwrap_or (name_at call_table code) []

abbrev pub is_built : Operation → Bool
is_built (Unbuilt code) = false
is_built _ = true

-- What lines ask for.

abbrev pub urb_operation : UrbCall → Operation
urb_operation on.Unlink = Unlink
urb_operation on.Kill = Kill
urb_operation on.Poison = Poison
urb_operation on.Unpoison = Unpoison
urb_operation on.Block = Block
urb_operation on.Unblock = Unblock

abbrev pub bare_operation : BareCall → Operation
bare_operation bare.Serve = Serve
bare_operation bare.Down = Down
bare_operation bare.Up = Up

abbrev pub interface_op : InterfaceCall → InterfaceOp
interface_op (made.Led lights) = op.Led lights
interface_op (made.Write bytes) = op.Write
interface_op (made.Coding rate stop parity bits) = op.Coding rate stop parity bits
interface_op (made.Control lines) = op.Control lines
interface_op (made.SendBreak ms) = op.SendBreak ms
interface_op (made.Print bytes) = op.Print
interface_op made.Status = op.Status
interface_op made.SoftReset = op.SoftReset
