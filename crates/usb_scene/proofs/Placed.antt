-- A line's statement is of the row of its first word.
use Rattle.std.proofs.Common.{◌≡◌, ℕ, true, List, [], ◌∷◌, Option, Some, None, refl, sym, ap, ◌∙◌}
use Rattle.std.specs.Prelude.{not, ◌&&◌}
use Rattle.std.specs.Option.{option_map}
use Rattle.std.proofs.lemmas.Option.{option_and_then_some, same_Some}
use Rattle.usb_text.specs.Kinds.{number_of, byte_of, address_of}
use Rattle.usb_text.proofs.Known.{some_if}
use Rattle.usb_scene.specs.declared.scene.Scene.{Scene}
use Rattle.usb_statement.specs.declared.statement.Statement.{Statement}
use Rattle.usb_statement.specs.declared.statement.Statement.TheVariants as say
use Rattle.usb_statement.specs.declared.keyword.Keyword.{Keyword}
use Rattle.usb_statement.specs.declared.keyword.Keyword.TheVariants as word
use Rattle.usb_statement.specs.declared.keyword.InterfaceWord.{InterfaceWord}
use Rattle.usb_statement.specs.declared.keyword.InterfaceWord.TheVariants as called
use Rattle.usb_statement.specs.declared.interface_call.InterfaceCall.{InterfaceCall}
use Rattle.usb_statement.specs.declared.interface_call.InterfaceCall.TheVariants as made
use Rattle.usb_statement.specs.InterfaceCalls.{interface_word, data_bits_of, interface_call_of}
use Rattle.usb_statement.specs.Items.{items_of, are_items_of}
use Rattle.usb_statement.specs.Kept.{kept_data, some_data}
use Rattle.usb_statement.specs.Options.{options_of}
use Rattle.usb_statement.specs.Setups.{setup_first, behind_setup}
use Rattle.usb_statement.specs.UrbNames.{name_of, urb_name_of}
use Rattle.usb_statement.specs.Statements.{is_empty, device_kind_of, end_of, kind_of, sent_of, statement_of, keyword_said}
use Rattle.usb_scene.specs.Rules.{may_stand}

map_some : {X Y : Type 0} (f : X → Y) (o : Option X) (y : Y) → option_map f o ≡ Some y → (x : X) × (o ≡ Some x) × (f x ≡ y)
map_some f None y h = cc
map_some f (Some x) y h = (x, refl, cc)

-- equal statements have the same first word
said_as : (k : Keyword) (x said : Statement) → x ≡ said → keyword_said x ≡ k → keyword_said said ≡ k
said_as k x said e h = ap keyword_said (sym e) ∙ h

-- a call on an interface is of its word
word_said : (which : InterfaceWord) (texts : List (List ℕ)) (call : InterfaceCall) → interface_call_of which texts ≡ Some call → interface_word call ≡ which
word_said called.Led (text ∷ []) call h =
    let p = map_some (λ b. made.Led b) (byte_of text) call h in ap interface_word (sym p.2)
word_said called.Write texts call h =
    let p = map_some (λ b. made.Write b) (some_data texts) call h in ap interface_word (sym p.2)
word_said called.Coding (r ∷ s ∷ p ∷ b ∷ []) call h =
    option_and_then_some _ (number_of r) call h (λ rate e g.
    option_and_then_some _ (number_of s) call g (λ stop e2 g2.
    option_and_then_some _ (number_of p) call g2 (λ parity e3 g3.
    option_and_then_some _ (data_bits_of b) call g3 (λ bits e4 g4.
    ap interface_word (sym (same_Some (made.Coding rate stop parity bits) call g4))))))
word_said called.Control (text ∷ []) call h =
    let p = map_some (λ b. made.Control b) (byte_of text) call h in ap interface_word (sym p.2)
word_said called.SendBreak (text ∷ []) call h =
    let p = map_some (λ n. made.SendBreak n) (number_of text) call h in ap interface_word (sym p.2)
word_said called.Print texts call h =
    let p = map_some (λ b. made.Print b) (some_data texts) call h in ap interface_word (sym p.2)
word_said called.Status [] call h = ap interface_word (sym (same_Some made.Status call h))
word_said called.SoftReset [] call h = ap interface_word (sym (same_Some made.SoftReset call h))
word_said _ _ call h = cc

pub first_said : (k : Keyword) (texts : List (List ℕ)) (said : Statement) → statement_of k texts ≡ Some said → keyword_said said ≡ k
first_said word.Device (name ∷ kind ∷ []) said h =
    option_and_then_some _ (name_of name) said h (λ n e g.
    option_and_then_some _ (device_kind_of kind) said g (λ k f i. said_as word.Device (say.Device n k) said (cc) refl))
first_said word.Ep (address ∷ kind ∷ size ∷ interval ∷ []) said h =
    option_and_then_some _ (end_of address) said h (λ a e g.
    option_and_then_some _ (kind_of kind) said g (λ k f i.
    option_and_then_some _ (number_of size) said i (λ s j l.
    option_and_then_some _ (number_of interval) said l (λ n m o. said_as word.Ep (say.Ep a k s n) said (cc) refl))))
first_said (word.Bytes which) (text ∷ texts) said h =
    let p = map_some (λ bytes. say.Bytes which bytes) (kept_data (text ∷ texts)) said h in said_as (word.Bytes which) (say.Bytes which p.0) said p.2 refl
first_said word.Port (status ∷ []) said h =
    let p = map_some (λ b. say.Port b) (byte_of status) said h in said_as word.Port (say.Port p.0) said p.2 refl
first_said word.Answer (address ∷ items) said h =
    option_and_then_some _ (address_of address) said h (λ a e g.
    option_and_then_some _ (items_of items) said g (λ its f k.
    said_as word.Answer (say.Answer a its) said (some_if (not (is_empty its) && are_items_of a its) (say.Answer a its) said k).1 refl))
first_said word.Urb (name ∷ device ∷ address ∷ options) said h =
    option_and_then_some _ (name_of name) said h (λ n e g.
    option_and_then_some _ (name_of device) said g (λ d f k.
    option_and_then_some _ (address_of address) said k (λ a i l.
    option_and_then_some _ (options_of options) said l (λ os j m. said_as word.Urb (say.Urb n d a os) said (cc) refl))))
first_said word.Thread (name ∷ []) said h =
    let p = map_some (λ n. say.Thread n) (name_of name) said h in said_as word.Thread (say.Thread p.0) said p.2 refl
first_said word.Submit (urb ∷ texts) said h =
    option_and_then_some _ (urb_name_of urb) said h (λ u e g.
    option_and_then_some _ (sent_of (behind_setup texts)) said g (λ b f k. said_as word.Submit (say.Submit u (setup_first texts) b) said (cc) refl))
first_said (word.OnUrb call) (urb ∷ []) said h =
    let p = map_some (λ u. say.OnUrb call u) (urb_name_of urb) said h in said_as (word.OnUrb call) (say.OnUrb call p.0) said p.2 refl
first_said (word.Alone call) [] said h = said_as (word.Alone call) (say.Alone call) said (cc) refl
first_said (word.OnInterface which) (device ∷ interface ∷ texts) said h =
    option_and_then_some _ (name_of device) said h (λ d e g.
    option_and_then_some _ (number_of interface) said g (λ i f k.
    option_and_then_some _ (interface_call_of which texts) said k (λ c l m.
    said_as (word.OnInterface which) (say.OnInterface c d i) said (cc) (ap (λ w. word.OnInterface w) (word_said which texts c l)))))
first_said _ _ said h = cc

-- a line's statement may stand where its first word may
pub place_said : (scene : Scene) (k : Keyword) (texts : List (List ℕ)) (said : Statement) → may_stand scene k ≡ true → statement_of k texts ≡ Some said
    → may_stand scene (keyword_said said) ≡ true
place_said scene k texts said h e = ap (may_stand scene) (first_said k texts said e) ∙ h
