-- Words that are printed are read again.
use Rattle.std.proofs.Common.{◌≡◌, ℕ, ◌<◌, ◌≤◌, ◌^◌, true, false, cond, eqb, List, [], ◌∷◌, ◌++◌, length, take, map, Option, Some, None, refl, ap, ◌∙◌, arith, lit<, append-nil}
use Rattle.std.specs.Prelude.{nat_le, ◌&&◌, codes, option_and_then, slice_index}
use Rattle.std.specs.Fmt as fmt
use Rattle.std.specs.Option.{option_map}
use Rattle.std.specs.List.{All, list_all, flat_map}
use Rattle.std.specs.Char.{is_ascii_digit, is_ascii_lowercase}
use Rattle.std.proofs.lemmas.Bool.{and_parts, and_from, and_right, le-leb}
use Rattle.std.proofs.lemmas.Fmt.{digits_decimal}
use Rattle.std.proofs.lemmas.List.{take_all}
use Rattle.std.proofs.lemmas.List.Folds.{list_all-append}
use Rattle.std.proofs.lemmas.List.Elements.{All-head, All-tail}
use Rattle.usb_types.specs.declared.urb.Role.{Role}
use Rattle.usb_types.specs.declared.urb.Role.TheVariants as role
use Rattle.usb_machine.specs.declared.layout.EndKind.{EndKind}
use Rattle.usb_machine.specs.declared.layout.EndKind.TheVariants.{Control, Bulk, Interrupt, Iso}
use Rattle.usb_text.specs.Kinds.{number_of, is_name, is_name_byte}
use Rattle.usb_text.specs.Bytes.{cut}
use Rattle.usb_text.specs.Print.{hex_pair, hex_text}
use Rattle.usb_text.proofs.Back.{own, number_of-decimal, address_of-hex_pair}
use Rattle.usb_text.proofs.BackBytes.{data_of-hex_text, payload_of-packet_text}
use Rattle.usb_text.proofs.Cuts.{cut-append, digits_lack, names_lack}
use Rattle.usb_xfer.specs.declared.script.What.{What}
use Rattle.usb_xfer.specs.declared.script.What.TheVariants.{Ack, Nak, Stall, Error, Packet}
use Rattle.usb_xfer.specs.declared.script.Item.{Item}
use Rattle.usb_xfer.specs.declared.script.Kind.{Kind}
use Rattle.usb_xfer.specs.declared.script.Kind.TheVariants.{Raw, Keyboard, Acm, Printer}
use Rattle.usb_statement.specs.Items.{what_of, times_of, item_parts, item_of, items_of}
use Rattle.usb_statement.specs.Kept.{kept_data}
use Rattle.usb_statement.specs.Options.{number_option, options_of}
use Rattle.usb_statement.specs.UrbNames.{name_of, role_of, role_parts, driver_parts, urb_name_of}
use Rattle.usb_statement.specs.Statements.{device_kind_of, end_of, kind_of, sent_of}
use Rattle.usb_statement.specs.Sayable.{IsEndAddress, is_end_kind, IsPacket, IsSayableItem, IsSayableOption, IsUrbName, IsKept, IsSent}
use Rattle.usb_statement.specs.Printed.{role_text, what_text, item_text, option_words, urb_text, sent_words}
use Rattle.usb_statement.specs.Words.{device_kind_text, kind_text}
use Rattle.usb_statement.specs.declared.options.UrbOption.{UrbOption}
use Rattle.usb_statement.specs.declared.options.UrbOption.TheVariants.{Len, Again, Short}
use Rattle.usb_statement.specs.declared.urb_name.UrbName.{UrbName}
use Rattle.usb_statement.specs.declared.urb_name.UrbName.TheVariants.{Scripted, Driver}

pub back_name : (name : List ℕ) → is_name name ≡ true → name_of name ≡ Some name
back_name name h = ap (λ t. cond t (Some name) None) h

pub back_device_kind : (kind : Kind) → device_kind_of (device_kind_text kind) ≡ Some kind
back_device_kind Raw = refl
back_device_kind Keyboard = refl
back_device_kind Acm = refl
back_device_kind Printer = refl

pub back_end : (address : ℕ) → IsEndAddress address → end_of (hex_pair address) ≡ Some address
back_end address h =
    ap (option_and_then (λ a. cond (eqb a 0) None (Some a))) (address_of-hex_pair address h.valid) ∙ ap (λ t. cond t None (Some address)) h.some

pub back_kind : (kind : EndKind) → is_end_kind kind ≡ true → kind_of (kind_text kind) ≡ Some kind
back_kind Control h = cc
back_kind Bulk h = refl
back_kind Interrupt h = refl
back_kind Iso h = refl

back_role : (r : Role) → role_of (role_text r) ≡ Some r
back_role role.In = refl
back_role role.Ctl = refl
back_role role.Note = refl
back_role role.Read0 = refl
back_role role.Read1 = refl
back_role role.Write = refl

back_what : (what : What) → IsPacket what → what_of (what_text what) ≡ Some what
back_what Ack h = refl
back_what Nak h = refl
back_what Stall h = refl
back_what Error h = refl
back_what (Packet bytes) h = ap (option_map (λ b. Packet b)) (payload_of-packet_text bytes h.0 h.1)

digits : (n : ℕ) → n < 10 ^ 9 → list_all is_ascii_digit (fmt.decimal n) ≡ true
digits n h = digits_decimal own n (omega arith)

back_times : (n : ℕ) → 1 ≤ n → n ≤ 4096 → times_of (fmt.decimal n) ≡ Some n
back_times n some most =
    ap (option_and_then (λ m. cond (nat_le 1 m && nat_le m 4096) (Some m) None)) (number_of-decimal n (omega arith))
    ∙ ap (λ t. cond t (Some n) None) (and_from (nat_le 1 n) (nat_le n 4096) (le-leb 1 n some) (le-leb n 4096 most))

back_item : (item : Item) → IsSayableItem item → item_of (item_text item) ≡ Some item
back_item item h =
    let most = h.most in
    let parts = cut-append 42 (fmt.decimal item.times) (what_text item.what) (digits_lack 42 (lit< tt) (fmt.decimal item.times) (digits item.times (omega arith))) in
    ap (item_parts (item_text item)) parts
    ∙ ap (λ o. option_and_then (λ times. option_and_then (λ what. let i : Item = record { times = times; what = what } in Some i) (what_of (what_text item.what))) o) (back_times item.times h.some h.most)
    ∙ ap (λ o. option_and_then (λ what. let i : Item = record { times = item.times; what = what } in Some i) o) (back_what item.what h.packet)

pub back_items : (items : List Item) → All IsSayableItem items → items_of (map item_text items) ≡ Some items
back_items [] h = refl
back_items (item ∷ items) h =
    ap (λ o. option_and_then (λ i. option_and_then (λ is. Some (i ∷ is)) (items_of (map item_text items))) o) (back_item item (All-head IsSayableItem item items h))
    ∙ ap (λ o. option_and_then (λ is. Some (item ∷ is)) o) (back_items items (All-tail IsSayableItem item items h))

-- `short` and the options after it
back_short : (texts : List (List ℕ)) → options_of (codes "short" ∷ texts) ≡ option_and_then (λ others. Some (Short ∷ others)) (options_of texts)
back_short [] = refl
back_short (text ∷ texts) = refl

back_option : (option : UrbOption) (texts : List (List ℕ)) → IsSayableOption option
    → options_of (option_words option ++ texts) ≡ option_and_then (λ others. Some (option ∷ others)) (options_of texts)
back_option (Len n) texts h =
    ap (λ o. option_and_then (λ option. option_and_then (λ others. Some (option ∷ others)) (options_of texts)) (number_option (codes "len") o)) (number_of-decimal n h)
back_option (Again n) texts h =
    ap (λ o. option_and_then (λ option. option_and_then (λ others. Some (option ∷ others)) (options_of texts)) (number_option (codes "again") o)) (number_of-decimal n h)
back_option Short texts h = back_short texts

pub back_options : (options : List UrbOption) → All IsSayableOption options → options_of (flat_map option_words options) ≡ Some options
back_options [] h = refl
back_options (option ∷ options) h =
    back_option option (flat_map option_words options) (All-head IsSayableOption option options h)
    ∙ ap (λ o. option_and_then (λ others. Some (option ∷ others)) o) (back_options options (All-tail IsSayableOption option options h))

-- a name is made of the bytes of a name
name_bytes : (name : List ℕ) → is_name name ≡ true → list_all is_name_byte name ≡ true
name_bytes name h =
    (and_parts (nat_le 1 (length name) && nat_le (length name) 16 && is_ascii_lowercase (slice_index name 0)) (list_all is_name_byte name) h).1

-- what has a dot is no name
no_name : (front rest : List ℕ) → is_name (front ++ 46 ∷ rest) ≡ false
no_name front rest =
    let text = front ++ 46 ∷ rest in
    and_right (nat_le 1 (length text) && nat_le (length text) 16 && is_ascii_lowercase (slice_index text 0)) (list_all is_name_byte text)
    (list_all-append is_name_byte front (46 ∷ rest) ∙ and_right (list_all is_name_byte front) (list_all is_name_byte (46 ∷ rest)) refl)

pub back_urb : (urb : UrbName) → IsUrbName urb → urb_name_of (urb_text urb) ≡ Some urb
back_urb (Scripted name) h = ap (λ t. cond t (Some (Scripted name)) (driver_parts (cut 46 name))) h
back_urb (Driver device number r) h =
    let behind = fmt.decimal number ++ 46 ∷ role_text r in
    ap (λ t. cond t (Some (Scripted (device ++ 46 ∷ behind))) (driver_parts (cut 46 (device ++ 46 ∷ behind)))) (no_name device behind)
    ∙ ap driver_parts (cut-append 46 device behind (names_lack 46 (lit< tt) device (name_bytes device h.0)))
    ∙ ap (role_parts device) (cut-append 46 (fmt.decimal number) (role_text r) (digits_lack 46 (lit< tt) (fmt.decimal number) (digits number h.1)))
    ∙ ap (λ o. option_and_then (λ d. option_and_then (λ n. option_and_then (λ role. Some (Driver d n role)) (role_of (role_text r))) (number_of (fmt.decimal number))) o) (back_name device h.0)
    ∙ ap (λ o. option_and_then (λ n. option_and_then (λ role. Some (Driver device n role)) (role_of (role_text r))) o) (number_of-decimal number h.1)
    ∙ ap (λ o. option_and_then (λ role. Some (Driver device number role)) o) (back_role r)

pub back_kept : (bytes : List ℕ) → IsKept bytes → kept_data (hex_text bytes ∷ []) ≡ Some bytes
back_kept bytes h =
    ap (λ o. option_map (λ b. take 65536 b) (option_and_then (λ b. Some (b ++ [])) o)) (data_of-hex_text bytes h.0)
    ∙ ap (λ b. Some (take 65536 b)) (append-nil bytes)
    ∙ ap Some (take_all 65536 bytes h.1)

pub back_sent : (sent : Option (List ℕ)) → IsSent sent → sent_of (sent_words sent) ≡ Some sent
back_sent None h = refl
back_sent (Some bytes) h = ap (option_map (λ b. Some b)) (back_kept bytes h)
