-- The numbers of the calls that are built, in the table of calls.
use Rattle.std.proofs.Common.{◌≡◌, refl}
use Rattle.std.specs.Prelude.{codes, unwrap_or}
use Rattle.usb_types.specs.Table.{code_at}
use Rattle.usb_types.specs.Rows.{call_table}
use Rattle.usb_statement.specs.Words.{urb_call_text, bare_call_text, interface_word_text}
use Rattle.usb_statement.specs.InterfaceCalls.{interface_word}
use Rattle.usb_statement.specs.declared.keyword.UrbCall.{UrbCall}
use Rattle.usb_statement.specs.declared.keyword.UrbCall.TheVariants as on
use Rattle.usb_statement.specs.declared.keyword.BareCall.{BareCall}
use Rattle.usb_statement.specs.declared.keyword.BareCall.TheVariants as bare
use Rattle.usb_statement.specs.declared.interface_call.InterfaceCall.{InterfaceCall}
use Rattle.usb_statement.specs.declared.interface_call.InterfaceCall.TheVariants as made
use Rattle.usb_scene.specs.Growth.{urb_call_code, bare_call_code, interface_call_code}

pub submit_number : unwrap_or (code_at call_table (codes "submit")) 0 ≡ 1
unfolding call_table
submit_number = refl

pub urb_call_number : (call : UrbCall) → unwrap_or (code_at call_table (urb_call_text call)) 0 ≡ urb_call_code call
unfolding call_table
urb_call_number on.Unlink = refl
urb_call_number on.Kill = refl
urb_call_number on.Poison = refl
urb_call_number on.Unpoison = refl
urb_call_number on.Block = refl
urb_call_number on.Unblock = refl

pub bare_call_number : (call : BareCall) → unwrap_or (code_at call_table (bare_call_text call)) 0 ≡ bare_call_code call
unfolding call_table
bare_call_number bare.Serve = refl
bare_call_number bare.Down = refl
bare_call_number bare.Up = refl

pub interface_call_number : (call : InterfaceCall) → unwrap_or (code_at call_table (interface_word_text (interface_word call))) 0 ≡ interface_call_code call
unfolding call_table
interface_call_number (made.Led lights) = refl
interface_call_number (made.Write bytes) = refl
interface_call_number (made.Coding rate stop parity bits) = refl
interface_call_number (made.Control lines) = refl
interface_call_number (made.SendBreak ms) = refl
interface_call_number (made.Print bytes) = refl
interface_call_number made.Status = refl
interface_call_number made.SoftReset = refl
