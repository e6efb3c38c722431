-- A call on an interface that a driver has, as it is read from a line.
use Rattle.std.specs.Prelude.{ℕ, ◌==◌, ◌&&◌, ◌||◌, nat_le, if◌then◌else◌, Bool, List, [], ◌∷◌, Option, Some, None}
use Rattle.std.specs.Option.{option_map}
use Rattle.usb_text.specs.Kinds.{number_of, byte_of}
use Rattle.usb_statement.specs.Chain.{◌>>=◌}
use Rattle.usb_statement.specs.Kept.{some_data}
use Rattle.usb_statement.specs.declared.keyword.InterfaceWord.{InterfaceWord}
use Rattle.usb_statement.specs.declared.keyword.InterfaceWord.TheVariants as called
use Rattle.usb_statement.specs.declared.interface_call.InterfaceCall.{InterfaceCall}
use Rattle.usb_statement.specs.declared.interface_call.InterfaceCall.TheVariants as made

-- the word of a call
abbrev pub interface_word : InterfaceCall → InterfaceWord
interface_word (made.Led lights) = called.Led
interface_word (made.Write bytes) = called.Write
interface_word (made.Coding rate stop parity bits) = called.Coding
interface_word (made.Control lines) = called.Control
interface_word (made.SendBreak ms) = called.SendBreak
interface_word (made.Print bytes) = called.Print
interface_word made.Status = called.Status
interface_word made.SoftReset = called.SoftReset

-- the numbers of data bits that a line coding has (PSTN 1.2 §6.3.11)
abbrev pub is_data_bits : ℕ → Bool
is_data_bits n = nat_le 5 n && nat_le n 8 || n == 16

-- BITS
abbrev pub data_bits_of : List ℕ → Option ℕ
data_bits_of text = do
  bits ← number_of text
  if is_data_bits bits then Some bits else None

-- the call that a word makes with the words after the interface's number
abbrev pub interface_call_of : InterfaceWord → List (List ℕ) → Option InterfaceCall
interface_call_of called.Led (lights ∷ []) = option_map (λ lights. made.Led lights) (byte_of lights)
interface_call_of called.Write texts = option_map (λ bytes. made.Write bytes) (some_data texts)
interface_call_of called.Coding (rate ∷ stop ∷ parity ∷ bits ∷ []) = do
  rate ← number_of rate
  stop ← number_of stop
  parity ← number_of parity
  bits ← data_bits_of bits
  Some (made.Coding rate stop parity bits)
interface_call_of called.Control (lines ∷ []) = option_map (λ lines. made.Control lines) (byte_of lines)
interface_call_of called.SendBreak (ms ∷ []) = option_map (λ ms. made.SendBreak ms) (number_of ms)
interface_call_of called.Print texts = option_map (λ bytes. made.Print bytes) (some_data texts)
interface_call_of called.Status [] = Some made.Status
interface_call_of called.SoftReset [] = Some made.SoftReset
interface_call_of _ _ = None
