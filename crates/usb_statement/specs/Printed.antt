-- The line of a statement.
use Rattle.std.specs.Prelude.{ℕ, List, [], ◌∷◌, ◌++◌, map, Option, Some, None, codes, decimal}
use Rattle.std.specs.List.{flat_map}
use Rattle.usb_types.specs.declared.urb.Role.{Role}
use Rattle.usb_types.specs.declared.urb.Role.TheVariants as role
use Rattle.usb_text.specs.Print.{hex_pair, hex_text}
use Rattle.usb_text.specs.Written.{packet_text}
use Rattle.usb_xfer.specs.declared.script.What.{What}
use Rattle.usb_xfer.specs.declared.script.What.TheVariants.{Ack, Nak, Stall, Error, Packet}
use Rattle.usb_xfer.specs.declared.script.Item.{Item}
use Rattle.usb_statement.specs.Statements.{keyword_said}
use Rattle.usb_statement.specs.Words.{device_bytes_text, urb_call_text, bare_call_text, interface_word_text, device_kind_text, kind_text}
use Rattle.usb_statement.specs.declared.options.UrbOption.{UrbOption}
use Rattle.usb_statement.specs.declared.options.UrbOption.TheVariants.{Len, Again, Short}
use Rattle.usb_statement.specs.declared.urb_name.UrbName.{UrbName}
use Rattle.usb_statement.specs.declared.urb_name.UrbName.TheVariants.{Scripted, Driver}
use Rattle.usb_statement.specs.declared.statement.Statement.{Statement}
use Rattle.usb_statement.specs.declared.statement.Statement.TheVariants as say
use Rattle.usb_statement.specs.declared.keyword.Keyword.{Keyword}
use Rattle.usb_statement.specs.declared.keyword.Keyword.TheVariants as word
use Rattle.usb_statement.specs.declared.interface_call.InterfaceCall.{InterfaceCall}
use Rattle.usb_statement.specs.declared.interface_call.InterfaceCall.TheVariants as made

-- the first word
abbrev pub keyword_text : Keyword → List ℕ
keyword_text word.Device = codes "device"
keyword_text word.Ep = codes "ep"
keyword_text (word.Bytes which) = device_bytes_text which
keyword_text word.Port = codes "port"
keyword_text word.Answer = codes "answer"
keyword_text word.Urb = codes "urb"
keyword_text word.Thread = codes "thread"
keyword_text word.Submit = codes "submit"
keyword_text (word.OnUrb call) = urb_call_text call
keyword_text (word.Alone call) = bare_call_text call
keyword_text (word.OnInterface which) = interface_word_text which

abbrev pub role_text : Role → List ℕ
role_text role.In = codes "in"
role_text role.Ctl = codes "ctl"
role_text role.Note = codes "note"
role_text role.Read0 = codes "read0"
role_text role.Read1 = codes "read1"
role_text role.Write = codes "write"

abbrev pub what_text : What → List ℕ
what_text Ack = codes "ack"
what_text Nak = codes "nak"
what_text Stall = codes "stall"
what_text Error = codes "error"
what_text (Packet bytes) = packet_text bytes

-- ITEM with its count
abbrev pub item_text : Item → List ℕ
item_text item = decimal item.times ++ 42 ∷ what_text item.what

abbrev pub option_words : UrbOption → List (List ℕ)
option_words (Len n) = codes "len" ∷ decimal n ∷ []
option_words (Again n) = codes "again" ∷ decimal n ∷ []
option_words Short = codes "short" ∷ []

-- URB
abbrev pub urb_text : UrbName → List ℕ
urb_text (Scripted name) = name
urb_text (Driver device number role) = device ++ 46 ∷ (decimal number ++ 46 ∷ role_text role)

-- the word of a setup packet, if there is one
abbrev pub setup_words : Option (List ℕ) → List (List ℕ)
setup_words None = []
setup_words (Some bytes) = (codes "setup:" ++ flat_map hex_pair bytes) ∷ []

-- the word of what is sent, if anything is
abbrev pub sent_words : Option (List ℕ) → List (List ℕ)
sent_words None = []
sent_words (Some bytes) = hex_text bytes ∷ []

-- the words of what a call on an interface carries
abbrev pub carried_words : InterfaceCall → List (List ℕ)
carried_words (made.Led lights) = hex_pair lights ∷ []
carried_words (made.Write bytes) = hex_text bytes ∷ []
carried_words (made.Coding rate stop parity bits) = decimal rate ∷ decimal stop ∷ decimal parity ∷ decimal bits ∷ []
carried_words (made.Control lines) = hex_pair lines ∷ []
carried_words (made.SendBreak ms) = decimal ms ∷ []
carried_words (made.Print bytes) = hex_text bytes ∷ []
carried_words made.Status = []
carried_words made.SoftReset = []

-- the words after the first one
abbrev pub words_said : Statement → List (List ℕ)
words_said (say.Device name kind) = name ∷ device_kind_text kind ∷ []
words_said (say.Ep address kind size interval) = hex_pair address ∷ kind_text kind ∷ decimal size ∷ decimal interval ∷ []
words_said (say.Bytes which bytes) = hex_text bytes ∷ []
words_said (say.Port status) = hex_pair status ∷ []
words_said (say.Answer address items) = hex_pair address ∷ map item_text items
words_said (say.Urb name device address options) = name ∷ device ∷ hex_pair address ∷ flat_map option_words options
words_said (say.Thread name) = name ∷ []
words_said (say.Submit urb setup bytes) = urb_text urb ∷ (setup_words setup ++ sent_words bytes)
words_said (say.OnUrb call urb) = urb_text urb ∷ []
words_said (say.Alone call) = []
words_said (say.OnInterface call device interface) = device ∷ decimal interface ∷ carried_words call

-- all words of the line
abbrev pub line_said : Statement → List (List ℕ)
line_said statement = keyword_text (keyword_said statement) ∷ words_said statement
