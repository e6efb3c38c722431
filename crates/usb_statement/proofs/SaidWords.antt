-- What holds of what is read from a word.
use Rattle.std.proofs.Common.{◌≡◌, ℕ, ◌<◌, ◌≤◌, Bool, true, false, cond, eqb, List, [], ◌∷◌, ◌++◌, length, take, Option, Some, None, refl, arith, subst, lit≤}
use Rattle.std.specs.Prelude.{nat_le, ◌&&◌, codes, option_and_then}
use Rattle.std.specs.Option.{option_map}
use Rattle.std.specs.List.{All}
use Rattle.std.specs.Str.{bytes_eq}
use Rattle.std.proofs.lemmas.Bool.{and_parts, leb-true}
use Rattle.std.proofs.lemmas.Option.{option_and_then_some, same_Some}
use Rattle.std.proofs.lemmas.List.{length-take}
use Rattle.std.proofs.lemmas.List.Elements.{All-nil, All-cons, All-append, All-take}
use Rattle.usb_machine.specs.declared.layout.EndKind.{EndKind}
use Rattle.usb_machine.specs.declared.layout.EndKind.TheVariants.{Bulk, Interrupt, Iso}
use Rattle.usb_text.specs.Kinds.{number_of, is_name, is_address, address_of, byte_of}
use Rattle.usb_text.specs.Bytes.{cut, payload_of, data_of}
use Rattle.usb_text.specs.Written.{AreBytes}
use Rattle.usb_text.proofs.Known.{some_if, some_unless}
use Rattle.usb_text.proofs.KnownBytes.{small_number, data_are_bytes, short_payload}
use Rattle.usb_xfer.specs.declared.script.What.{What}
use Rattle.usb_xfer.specs.declared.script.What.TheVariants.{Ack, Nak, Stall, Error, Packet}
use Rattle.usb_xfer.specs.declared.script.Item.{Item}
use Rattle.usb_statement.specs.Items.{what_of, times_of, item_parts, item_of, items_of}
use Rattle.usb_statement.specs.Kept.{joined_data, kept_data}
use Rattle.usb_statement.specs.Options.{number_option, options_of}
use Rattle.usb_statement.specs.UrbNames.{name_of, role_of, role_parts, driver_parts, urb_name_of}
use Rattle.usb_statement.specs.Statements.{end_of, kind_of, sent_of}
use Rattle.usb_statement.specs.Sayable.{IsNumber, IsEndAddress, is_end_kind, IsPacket, IsSayableItem, IsSayableOption, IsUrbName, IsKept, IsSent}
use Rattle.usb_statement.specs.declared.options.UrbOption.{UrbOption}
use Rattle.usb_statement.specs.declared.options.UrbOption.TheVariants.{Len, Again, Short}
use Rattle.usb_statement.specs.declared.urb_name.UrbName.{UrbName}
use Rattle.usb_statement.specs.declared.urb_name.UrbName.TheVariants.{Scripted, Driver}

-- what is mapped to a value
pub option_map_some : {A B P : Type 0} (f : A → B) (o : Option A) (y : B) → option_map f o ≡ Some y → ((x : A) → o ≡ Some x → f x ≡ y → P) → P
option_map_some f None y h k = cc
option_map_some f (Some x) y h k = k x refl (same_Some (f x) y h)

pub said_name : (text name : List ℕ) → name_of text ≡ Some name → is_name name ≡ true
said_name text name h = let p = some_if (is_name text) text name h in subst (λ x. is_name x ≡ true) p.1 p.0

pub said_address : (text : List ℕ) (address : ℕ) → address_of text ≡ Some address → is_address address ≡ true
said_address text address h =
    option_and_then_some _ (byte_of text) address h (λ b e g.
    let p = some_if (is_address b) b address g in
    subst (λ x. is_address x ≡ true) p.1 p.0)

pub said_end : (text : List ℕ) (address : ℕ) → end_of text ≡ Some address → IsEndAddress address
said_end text address h =
    option_and_then_some _ (address_of text) address h (λ a e g.
    let q = some_unless (eqb a 0) a address g in
    subst IsEndAddress q.1 (record { valid = said_address text a e; some = q.0 }))

kind_cases : (b i s : Bool) (kind : EndKind) → cond b (Some Bulk) (cond i (Some Interrupt) (cond s (Some Iso) None)) ≡ Some kind → is_end_kind kind ≡ true
kind_cases true i s kind h = subst (λ k. is_end_kind k ≡ true) (same_Some Bulk kind h) refl
kind_cases false true s kind h = subst (λ k. is_end_kind k ≡ true) (same_Some Interrupt kind h) refl
kind_cases false false true kind h = subst (λ k. is_end_kind k ≡ true) (same_Some Iso kind h) refl
kind_cases false false false kind h = cc

pub said_kind : (text : List ℕ) (kind : EndKind) → kind_of text ≡ Some kind → is_end_kind kind ≡ true
said_kind text kind h = kind_cases (bytes_eq text (codes "bulk")) (bytes_eq text (codes "int")) (bytes_eq text (codes "iso")) kind h

what_cases : (a n s e : Bool) (text : List ℕ) (what : What) →
    cond a (Some Ack) (cond n (Some Nak) (cond s (Some Stall) (cond e (Some Error) (option_map (λ bytes. Packet bytes) (payload_of text))))) ≡ Some what → IsPacket what
what_cases true n s e text what h = subst IsPacket (same_Some Ack what h) tt
what_cases false true s e text what h = subst IsPacket (same_Some Nak what h) tt
what_cases false false true e text what h = subst IsPacket (same_Some Stall what h) tt
what_cases false false false true text what h = subst IsPacket (same_Some Error what h) tt
what_cases false false false false text what h =
    option_map_some (λ bytes. Packet bytes) (payload_of text) what h (λ bytes e g. subst IsPacket g (short_payload text bytes e))

said_what : (text : List ℕ) (what : What) → what_of text ≡ Some what → IsPacket what
said_what text what h =
    what_cases (bytes_eq text (codes "ack")) (bytes_eq text (codes "nak")) (bytes_eq text (codes "stall")) (bytes_eq text (codes "error")) text what h

said_times : (text : List ℕ) (n : ℕ) → times_of text ≡ Some n → (1 ≤ n) × (n ≤ 4096)
said_times text n h =
    option_and_then_some _ (number_of text) n h (λ m e g.
    let p = some_if (nat_le 1 m && nat_le m 4096) m n g in
    let q = and_parts (nat_le 1 m) (nat_le m 4096) p.0 in
    subst (λ x. (1 ≤ x) × (x ≤ 4096)) p.1 (leb-true 1 m q.0, leb-true m 4096 q.1))

said_parts : (parts : Option (List ℕ × List ℕ)) (text : List ℕ) (item : Item) → item_parts text parts ≡ Some item → IsSayableItem item
said_parts None text item h =
    option_map_some _ (what_of text) item h (λ what e g. subst IsSayableItem g (record { some = lit≤ tt; most = lit≤ tt; packet = said_what text what e }))
said_parts (Some parts) text item h =
    option_and_then_some _ (times_of parts.0) item h (λ times e g.
    option_and_then_some _ (what_of parts.1) item g (λ what e2 g2.
    let t = said_times parts.0 times e in
    subst IsSayableItem (same_Some _ item g2) (record { some = t.0; most = t.1; packet = said_what parts.1 what e2 })))

pub said_items : (texts : List (List ℕ)) (items : List Item) → items_of texts ≡ Some items → All IsSayableItem items
said_items [] items h = subst (λ x. All IsSayableItem x) (same_Some [] items h) (All-nil IsSayableItem)
said_items (text ∷ texts) items h =
    option_and_then_some _ (item_of text) items h (λ item e g.
    option_and_then_some _ (items_of texts) items g (λ others e2 g2.
    subst (λ x. All IsSayableItem x) (same_Some (item ∷ others) items g2)
    (All-cons IsSayableItem item others (said_parts (cut 42 text) text item e) (said_items texts others e2))))

number_cases : (l a : Bool) (n : ℕ) (option : UrbOption) → IsNumber n → cond l (Some (Len n)) (cond a (Some (Again n)) None) ≡ Some option → IsSayableOption option
number_cases true a n option f h = subst IsSayableOption (same_Some (Len n) option h) f
number_cases false true n option f h = subst IsSayableOption (same_Some (Again n) option h) f
number_cases false false n option f h = cc

said_number : (number : Option ℕ) (text : List ℕ) (option : UrbOption) → ((n : ℕ) → number ≡ Some n → IsNumber n) → number_option text number ≡ Some option
    → IsSayableOption option
said_number None text option f h = cc
said_number (Some n) text option f h = number_cases (bytes_eq text (codes "len")) (bytes_eq text (codes "again")) n option (f n refl) h

options_step : (t : Bool) (text next : List ℕ) (texts : List (List ℕ)) (options : List UrbOption)
    → ((os : List UrbOption) → options_of (next ∷ texts) ≡ Some os → All IsSayableOption os)
    → ((os : List UrbOption) → options_of texts ≡ Some os → All IsSayableOption os)
    → cond t (option_and_then (λ others. Some (Short ∷ others)) (options_of (next ∷ texts)))
    (option_and_then (λ option. option_and_then (λ others. Some (option ∷ others)) (options_of texts)) (number_option text (number_of next))) ≡ Some options
    → All IsSayableOption options
options_step true text next texts options f g h =
    option_and_then_some _ (options_of (next ∷ texts)) options h (λ others e k.
    subst (λ x. All IsSayableOption x) (same_Some (Short ∷ others) options k) (All-cons IsSayableOption Short others tt (f others e)))
options_step false text next texts options f g h =
    option_and_then_some _ (number_option text (number_of next)) options h (λ option e k.
    option_and_then_some _ (options_of texts) options k (λ others e2 k2.
    subst (λ x. All IsSayableOption x) (same_Some (option ∷ others) options k2)
    (All-cons IsSayableOption option others (said_number (number_of next) text option (small_number next) e) (g others e2))))

pub said_options : (texts : List (List ℕ)) (options : List UrbOption) → options_of texts ≡ Some options → All IsSayableOption options
said_options [] options h = subst (λ x. All IsSayableOption x) (same_Some [] options h) (All-nil IsSayableOption)
said_options (text ∷ []) options h =
    let p = some_if (bytes_eq text (codes "short")) (Short ∷ []) options h in
    subst (λ x. All IsSayableOption x) p.1 (All-cons IsSayableOption Short [] tt (All-nil IsSayableOption))
said_options (text ∷ next ∷ texts) options h =
    options_step (bytes_eq text (codes "short")) text next texts options (λ os e. said_options (next ∷ texts) os e) (λ os e. said_options texts os e) h

said_role : (parts : Option (List ℕ × List ℕ)) (device : List ℕ) (urb : UrbName) → role_parts device parts ≡ Some urb → IsUrbName urb
said_role None device urb h = cc
said_role (Some parts) device urb h =
    option_and_then_some _ (name_of device) urb h (λ name e g.
    option_and_then_some _ (number_of parts.0) urb g (λ number e2 g2.
    option_and_then_some _ (role_of parts.1) urb g2 (λ role e3 g3.
    subst IsUrbName (same_Some (Driver name number role) urb g3) (said_name device name e, small_number parts.0 number e2))))

said_driver : (parts : Option (List ℕ × List ℕ)) (urb : UrbName) → driver_parts parts ≡ Some urb → IsUrbName urb
said_driver None urb h = cc
said_driver (Some parts) urb h = said_role (cut 46 parts.1) parts.0 urb h

urb_cases : (t : Bool) (text : List ℕ) (urb : UrbName) → is_name text ≡ t → cond t (Some (Scripted text)) (driver_parts (cut 46 text)) ≡ Some urb → IsUrbName urb
urb_cases true text urb e h = subst IsUrbName (same_Some (Scripted text) urb h) e
urb_cases false text urb e h = said_driver (cut 46 text) urb h

pub said_urb : (text : List ℕ) (urb : UrbName) → urb_name_of text ≡ Some urb → IsUrbName urb
said_urb text urb h = urb_cases (is_name text) text urb refl h

said_data : (texts : List (List ℕ)) (bytes : List ℕ) → joined_data texts ≡ Some bytes → AreBytes bytes
said_data [] bytes h = subst AreBytes (same_Some [] bytes h) (All-nil (λ b. b < 256))
said_data (text ∷ texts) bytes h =
    option_and_then_some _ (data_of text) bytes h (λ front e g.
    option_and_then_some _ (joined_data texts) bytes g (λ others e2 g2.
    subst AreBytes (same_Some (front ++ others) bytes g2) (All-append (λ b. b < 256) front others (data_are_bytes text front e) (said_data texts others e2))))

pub said_kept : (texts : List (List ℕ)) (bytes : List ℕ) → kept_data texts ≡ Some bytes → IsKept bytes
said_kept texts bytes h =
    option_map_some _ (joined_data texts) bytes h (λ all e g.
    let short : length (take 65536 all) ≤ 65536 = omega (arith, length-take 65536 all) in
    subst IsKept g (All-take (λ b. b < 256) 65536 all (said_data texts all e), short))

pub said_sent : (texts : List (List ℕ)) (sent : Option (List ℕ)) → sent_of texts ≡ Some sent → IsSent sent
said_sent [] sent h = subst IsSent (same_Some None sent h) tt
said_sent (text ∷ texts) sent h =
    option_map_some _ (kept_data (text ∷ texts)) sent h (λ bytes e g. subst IsSent g (said_kept (text ∷ texts) bytes e))
