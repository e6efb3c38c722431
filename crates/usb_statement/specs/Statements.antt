-- The statement that is read from a line by itself: a row of the grammar for each first word.
use Rattle.std.specs.Prelude.{ℕ, ◌==◌, ◌&&◌, if◌then◌else◌, List, [], ◌∷◌, Option, Some, None, codes, Bool, true, false, not}
use Rattle.std.specs.Option.{option_map}
use Rattle.std.specs.Str.{bytes_eq}
use Rattle.usb_machine.specs.declared.layout.EndKind.{EndKind}
use Rattle.usb_machine.specs.declared.layout.EndKind.TheVariants.{Bulk, Interrupt, Iso}
use Rattle.usb_text.specs.Kinds.{number_of, byte_of, address_of}
use Rattle.usb_xfer.specs.declared.script.Item.{Item}
use Rattle.usb_xfer.specs.declared.script.Kind.{Kind}
use Rattle.usb_xfer.specs.declared.script.Kind.TheVariants.{Raw, Keyboard, Acm, Printer}
use Rattle.usb_statement.specs.Chain.{◌>>=◌}
use Rattle.usb_statement.specs.InterfaceCalls.{interface_word, interface_call_of}
use Rattle.usb_statement.specs.Items.{items_of, are_items_of}
use Rattle.usb_statement.specs.Kept.{kept_data}
use Rattle.usb_statement.specs.Options.{options_of}
use Rattle.usb_statement.specs.Setups.{setup_first, behind_setup}
use Rattle.usb_statement.specs.UrbNames.{name_of, urb_name_of}
use Rattle.usb_statement.specs.Words.{named, device_bytes_text, urb_call_text, bare_call_text, interface_word_text, device_kind_text, kind_text}
use Rattle.usb_statement.specs.declared.statement.Statement.{Statement}
use Rattle.usb_statement.specs.declared.statement.Statement.TheVariants as say
use Rattle.usb_statement.specs.declared.keyword.Keyword.{Keyword}
use Rattle.usb_statement.specs.declared.keyword.Keyword.TheVariants as word
use Rattle.usb_statement.specs.declared.keyword.DeviceBytes.{DeviceBytes}
use Rattle.usb_statement.specs.declared.keyword.DeviceBytes.TheVariants.{Desc, Config, Id}
use Rattle.usb_statement.specs.declared.keyword.UrbCall.{UrbCall}
use Rattle.usb_statement.specs.declared.keyword.UrbCall.TheVariants.{Unlink, Kill, Poison, Unpoison, Block, Unblock}
use Rattle.usb_statement.specs.declared.keyword.BareCall.{BareCall}
use Rattle.usb_statement.specs.declared.keyword.BareCall.TheVariants.{Serve, Down, Up}
use Rattle.usb_statement.specs.declared.keyword.InterfaceWord.{InterfaceWord}
use Rattle.usb_statement.specs.declared.keyword.InterfaceWord.TheVariants as called

-- bytes that a line gives its device
abbrev pub device_bytes_of : List ℕ → Option DeviceBytes
device_bytes_of = named device_bytes_text (Desc ∷ Config ∷ Id ∷ [])

-- a call on an URB alone
abbrev pub urb_call_of : List ℕ → Option UrbCall
urb_call_of = named urb_call_text (Unlink ∷ Kill ∷ Poison ∷ Unpoison ∷ Block ∷ Unblock ∷ [])

-- a call on nothing
abbrev pub bare_call_of : List ℕ → Option BareCall
bare_call_of = named bare_call_text (Serve ∷ Down ∷ Up ∷ [])

-- a call on an interface that a driver has
abbrev pub interface_word_of : List ℕ → Option InterfaceWord
interface_word_of = named interface_word_text
    (called.Led ∷ called.Write ∷ called.Coding ∷ called.Control ∷ called.SendBreak ∷ called.Print ∷ called.Status ∷ called.SoftReset ∷ [])

-- the word of a device's bytes or of a call
abbrev pub later_keyword : Option DeviceBytes → Option UrbCall → Option BareCall → Option InterfaceWord → Option Keyword
later_keyword (Some which) on bare driven = Some (word.Bytes which)
later_keyword None (Some call) bare driven = Some (word.OnUrb call)
later_keyword None None (Some call) driven = Some (word.Alone call)
later_keyword None None None (Some which) = Some (word.OnInterface which)
later_keyword None None None None = None

-- the first word
abbrev pub keyword_of : List ℕ → Option Keyword
keyword_of text =
    if bytes_eq text (codes "device") then Some word.Device
    else if bytes_eq text (codes "ep") then Some word.Ep
    else if bytes_eq text (codes "port") then Some word.Port
    else if bytes_eq text (codes "answer") then Some word.Answer
    else if bytes_eq text (codes "urb") then Some word.Urb
    else if bytes_eq text (codes "thread") then Some word.Thread
    else if bytes_eq text (codes "submit") then Some word.Submit
    else later_keyword (device_bytes_of text) (urb_call_of text) (bare_call_of text) (interface_word_of text)

abbrev pub is_empty : {X : Type 0} → List X → Bool
is_empty [] = true
is_empty (x ∷ xs) = false

-- KIND
abbrev pub device_kind_of : List ℕ → Option Kind
device_kind_of = named device_kind_text (Raw ∷ Keyboard ∷ Acm ∷ Printer ∷ [])

-- the address of an endpoint other than 00
abbrev pub end_of : List ℕ → Option ℕ
end_of text = do
  address ← address_of text
  if address == 0 then None else Some address

-- TYPE
abbrev pub kind_of : List ℕ → Option EndKind
kind_of = named kind_text (Bulk ∷ Interrupt ∷ Iso ∷ [])

-- what a submit sends, if anything
abbrev pub sent_of : List (List ℕ) → Option (Option (List ℕ))
sent_of [] = Some None
sent_of (text ∷ texts) = option_map (λ bytes. Some bytes) (kept_data (text ∷ texts))

-- some items that the endpoint at this address can give
abbrev pub answer_with : ℕ → List Item → Option Statement
answer_with address items = if not (is_empty items) && are_items_of address items then Some (say.Answer address items) else None

-- the statement that is read from a line, by its first word and the words after it
abbrev pub statement_of : Keyword → List (List ℕ) → Option Statement
statement_of word.Device (name ∷ kind ∷ []) = do
  name ← name_of name
  kind ← device_kind_of kind
  Some (say.Device name kind)
statement_of word.Ep (address ∷ kind ∷ size ∷ interval ∷ []) = do
  address ← end_of address
  kind ← kind_of kind
  size ← number_of size
  interval ← number_of interval
  Some (say.Ep address kind size interval)
statement_of (word.Bytes which) (text ∷ texts) = option_map (λ bytes. say.Bytes which bytes) (kept_data (text ∷ texts))
statement_of word.Port (status ∷ []) = option_map (λ status. say.Port status) (byte_of status)
statement_of word.Answer (address ∷ items) = do
  address ← address_of address
  items ← items_of items
  answer_with address items
statement_of word.Urb (name ∷ device ∷ address ∷ options) = do
  name ← name_of name
  device ← name_of device
  address ← address_of address
  options ← options_of options
  Some (say.Urb name device address options)
statement_of word.Thread (name ∷ []) = option_map (λ name. say.Thread name) (name_of name)
statement_of word.Submit (urb ∷ texts) = do
  urb ← urb_name_of urb
  bytes ← sent_of (behind_setup texts)
  Some (say.Submit urb (setup_first texts) bytes)
statement_of (word.OnUrb call) (urb ∷ []) = option_map (λ urb. say.OnUrb call urb) (urb_name_of urb)
statement_of (word.Alone call) [] = Some (say.Alone call)
statement_of (word.OnInterface which) (device ∷ interface ∷ texts) = do
  device ← name_of device
  interface ← number_of interface
  call ← interface_call_of which texts
  Some (say.OnInterface call device interface)
statement_of _ _ = None

-- the first word of the line of this statement
abbrev pub keyword_said : Statement → Keyword
keyword_said (say.Device name kind) = word.Device
keyword_said (say.Ep address kind size interval) = word.Ep
keyword_said (say.Bytes which bytes) = word.Bytes which
keyword_said (say.Port status) = word.Port
keyword_said (say.Answer address items) = word.Answer
keyword_said (say.Urb name device address options) = word.Urb
keyword_said (say.Thread name) = word.Thread
keyword_said (say.Submit urb setup bytes) = word.Submit
keyword_said (say.OnUrb call urb) = word.OnUrb call
keyword_said (say.Alone call) = word.Alone call
keyword_said (say.OnInterface call device interface) = word.OnInterface (interface_word call)
