-- Examples that the checker computes.
use Rattle.std.proofs.Common.{◌≡◌, [], ◌∷◌, Some, None, refl}
use Rattle.std.specs.Prelude.{codes}
use Rattle.hex.specs.Hex.{decode_pairs}
use Rattle.usb_types.specs.declared.urb.Role.TheVariants as role
use Rattle.usb_xfer.specs.declared.script.Kind.TheVariants.{Keyboard}
use Rattle.usb_statement.specs.Statements.{keyword_of, statement_of}
use Rattle.usb_statement.specs.Printed.{words_said}
use Rattle.usb_statement.specs.declared.urb_name.UrbName.TheVariants.{Driver}
use Rattle.usb_statement.specs.declared.statement.Statement.TheVariants as say
use Rattle.usb_statement.specs.declared.keyword.Keyword.TheVariants as word
use Rattle.usb_statement.specs.declared.keyword.DeviceBytes.TheVariants.{Desc, Config, Id}
use Rattle.usb_statement.specs.declared.keyword.UrbCall.TheVariants.{Kill}
use Rattle.usb_statement.specs.declared.keyword.InterfaceWord.TheVariants as called
use Rattle.usb_statement.specs.declared.interface_call.InterfaceCall.TheVariants as made

a_keyboard : statement_of word.Device (codes "k" ∷ codes "keyboard" ∷ []) ≡ Some (say.Device (codes "k") Keyboard)
a_keyboard = refl

no_mouse : statement_of word.Device (codes "k" ∷ codes "mouse" ∷ []) ≡ None
no_mouse = refl

an_id : keyword_of (codes "id") ≡ Some (word.Bytes Id)
an_id = refl

joined_words : statement_of (word.Bytes Desc) (codes "1201" ∷ codes "-" ∷ codes "fill:2:0a" ∷ []) ≡ Some (say.Bytes Desc (18 ∷ 1 ∷ 10 ∷ 10 ∷ []))
unfolding decode_pairs
joined_words = refl

no_words : statement_of (word.Bytes Config) [] ≡ None
no_words = refl

a_port : statement_of word.Port (codes "1F" ∷ []) ≡ Some (say.Port 31)
unfolding decode_pairs
a_port = refl

a_read : statement_of (word.OnUrb Kill) (codes "k.007.in" ∷ []) ≡ Some (say.OnUrb Kill (Driver (codes "k") 7 role.In))
a_read = refl

lights : statement_of (word.OnInterface called.Led) (codes "k" ∷ codes "300" ∷ codes "1f" ∷ []) ≡ Some (say.OnInterface (made.Led 31) (codes "k") 300)
unfolding decode_pairs
lights = refl

one_digit_is_no_byte : statement_of (word.OnInterface called.Led) (codes "k" ∷ codes "0" ∷ codes "2" ∷ []) ≡ None
unfolding decode_pairs
one_digit_is_no_byte = refl

some_bytes : statement_of (word.OnInterface called.Write) (codes "m" ∷ codes "0" ∷ codes "4142" ∷ codes "-" ∷ codes "fill:2:0d" ∷ []) ≡ Some (say.OnInterface (made.Write (65 ∷ 66 ∷ 13 ∷ 13 ∷ [])) (codes "m") 0)
unfolding decode_pairs
some_bytes = refl

no_data : statement_of (word.OnInterface called.Write) (codes "m" ∷ codes "0" ∷ []) ≡ None
no_data = refl

a_coding : statement_of (word.OnInterface called.Coding) (codes "m" ∷ codes "0" ∷ codes "9600" ∷ codes "0" ∷ codes "2" ∷ codes "08" ∷ []) ≡ Some (say.OnInterface (made.Coding 9600 0 2 8) (codes "m") 0)
a_coding = refl

nine_bits : statement_of (word.OnInterface called.Coding) (codes "m" ∷ codes "0" ∷ codes "9600" ∷ codes "0" ∷ codes "2" ∷ codes "9" ∷ []) ≡ None
nine_bits = refl

three_stop_bits : statement_of (word.OnInterface called.Coding) (codes "m" ∷ codes "0" ∷ codes "9600" ∷ codes "3" ∷ codes "2" ∷ codes "16" ∷ []) ≡ Some (say.OnInterface (made.Coding 9600 3 2 16) (codes "m") 0)
three_stop_bits = refl

a_pause : statement_of (word.OnInterface called.SendBreak) (codes "m" ∷ codes "0" ∷ codes "65536" ∷ []) ≡ Some (say.OnInterface (made.SendBreak 65536) (codes "m") 0)
a_pause = refl

a_question : statement_of (word.OnInterface called.Status) (codes "p" ∷ codes "0" ∷ []) ≡ Some (say.OnInterface made.Status (codes "p") 0)
a_question = refl

no_more_words : statement_of (word.OnInterface called.SoftReset) (codes "p" ∷ codes "0" ∷ codes "0" ∷ []) ≡ None
no_more_words = refl

a_port_is_printed : words_said (say.Port 31) ≡ codes "1F" ∷ []
a_port_is_printed = refl
