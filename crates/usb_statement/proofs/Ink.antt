-- What is printed is words of printable bytes.
use Rattle.std.proofs.Common.{◌≡◌, ℕ, ◌<◌, ◌≤◌, ◌^◌, ◌/◌, ◌%◌, Bool, true, false, eqb, inl, inr, List, [], ◌∷◌, ◌++◌, length, map, Option, Some, None, refl, sym, ◌∙◌, arith, subst, lit<, length-append}
use Rattle.std.specs.Prelude.{nat_le, ◌&&◌, ◌||◌, codes, slice_index}
use Rattle.std.specs.Fmt as fmt
use Rattle.std.specs.List.{All, list_all, flat_map}
use Rattle.std.specs.Char.{is_ascii_digit, is_ascii_lowercase}
use Rattle.std.proofs.lemmas.Bool.{and_parts, and_from, or_from, or_left, or_cases, le-leb, leb-true, eqb-true, ne_eqb, agree_below_at}
use Rattle.std.proofs.lemmas.Fmt.{digits_decimal, decimal_nonempty}
use Rattle.std.proofs.lemmas.List.Folds.{list_all-append}
use Rattle.std.proofs.lemmas.List.Elements.{All-head, All-tail}
use Rattle.usb_types.specs.declared.urb.Role.{Role}
use Rattle.usb_types.specs.declared.urb.Role.TheVariants as role
use Rattle.usb_machine.specs.declared.layout.EndKind.{EndKind}
use Rattle.usb_machine.specs.declared.layout.EndKind.TheVariants.{Control, Bulk, Interrupt, Iso}
use Rattle.usb_text.specs.Lines.{is_plain}
use Rattle.usb_text.specs.Words.{is_blank}
use Rattle.usb_text.specs.Kinds.{is_name, is_name_byte, is_address}
use Rattle.usb_text.specs.Print.{hex_pair, hex_text}
use Rattle.usb_text.specs.Written.{AreBytes, IsWord, HasNoBlank, AreWords, spaced}
use Rattle.usb_text.proofs.Back.{own}
use Rattle.usb_text.proofs.Known.{address_range}
use Rattle.usb_text.proofs.Cuts.{list_all-weaker}
use Rattle.usb_xfer.specs.declared.script.What.{What}
use Rattle.usb_xfer.specs.declared.script.What.TheVariants.{Ack, Nak, Stall, Error, Packet}
use Rattle.usb_xfer.specs.declared.script.Item.{Item}
use Rattle.usb_xfer.specs.declared.script.Kind.{Kind}
use Rattle.usb_xfer.specs.declared.script.Kind.TheVariants.{Raw, Keyboard, Acm, Printer}
use Rattle.usb_statement.specs.Statements.{keyword_said}
use Rattle.usb_statement.specs.Sayable.{IsSayable, IsPacket, IsSayableItem, IsSayableOption, IsUrbName, IsSetup, IsSent, IsCarried}
use Rattle.usb_statement.specs.Printed.{keyword_text, role_text, what_text, item_text, option_words, urb_text, setup_words, sent_words, carried_words, words_said, line_said}
use Rattle.usb_statement.specs.Words.{device_bytes_text, urb_call_text, bare_call_text, interface_word_text, device_kind_text, kind_text}
use Rattle.usb_statement.specs.declared.options.UrbOption.{UrbOption}
use Rattle.usb_statement.specs.declared.options.UrbOption.TheVariants.{Len, Again, Short}
use Rattle.usb_statement.specs.declared.urb_name.UrbName.{UrbName}
use Rattle.usb_statement.specs.declared.urb_name.UrbName.TheVariants.{Scripted, Driver}
use Rattle.usb_statement.specs.declared.statement.Statement.{Statement}
use Rattle.usb_statement.specs.declared.statement.Statement.TheVariants as say
use Rattle.usb_statement.specs.declared.keyword.Keyword.{Keyword}
use Rattle.usb_statement.specs.declared.keyword.Keyword.TheVariants as word
use Rattle.usb_statement.specs.declared.keyword.DeviceBytes.{DeviceBytes}
use Rattle.usb_statement.specs.declared.keyword.DeviceBytes.TheVariants.{Desc, Config, Id}
use Rattle.usb_statement.specs.declared.keyword.UrbCall.{UrbCall}
use Rattle.usb_statement.specs.declared.keyword.UrbCall.TheVariants.{Unlink, Kill, Poison, Unpoison, Block, Unblock}
use Rattle.usb_statement.specs.declared.keyword.BareCall.{BareCall}
use Rattle.usb_statement.specs.declared.keyword.BareCall.TheVariants.{Serve, Down, Up}
use Rattle.usb_statement.specs.declared.keyword.InterfaceWord.{InterfaceWord}
use Rattle.usb_statement.specs.declared.keyword.InterfaceWord.TheVariants as called
use Rattle.usb_statement.specs.declared.interface_call.InterfaceCall.{InterfaceCall}
use Rattle.usb_statement.specs.declared.interface_call.InterfaceCall.TheVariants as made

-- the bytes of which words are printed: from `*` on
abbrev is_ink : ℕ → Bool
is_ink b = nat_le 42 b && nat_le b 126

record IsInked (text : List ℕ) : Type 0 where
  some : 0 < length text
  ink : list_all is_ink text ≡ true

abbrev AreInked : List (List ℕ) → Type 0
AreInked [] = Unit {0}
AreInked (text ∷ texts) = IsInked text × AreInked texts

in_ink : (low high b : ℕ) → 42 ≤ low → high ≤ 126 → (nat_le low b && nat_le b high) ≡ true → is_ink b ≡ true
in_ink low high b l m h =
    let p = and_parts (nat_le low b) (nat_le b high) h in
    let from = leb-true low b p.0 in
    let to = leb-true b high p.1 in
    and_from (nat_le 42 b) (nat_le b 126) (le-leb 42 b (omega arith)) (le-leb b 126 (omega arith))

digit_is_ink : (b : ℕ) → is_ascii_digit b ≡ true → is_ink b ≡ true
digit_is_ink b h = in_ink 48 57 b (omega arith) (omega arith) h

name_byte_is_ink : (b : ℕ) → is_name_byte b ≡ true → is_ink b ≡ true
name_byte_is_ink b h =
    elim (or_cases (is_ascii_lowercase b || is_ascii_digit b) (eqb b 95) h) as (λ _. is_ink b ≡ true) [
      | inl x ↦ elim (or_cases (is_ascii_lowercase b) (is_ascii_digit b) x) as (λ _. is_ink b ≡ true) [
        | inl y ↦ in_ink 97 122 b (omega arith) (omega arith) y
        | inr y ↦ digit_is_ink b y
      ]
      | inr x ↦ subst (λ c. is_ink c ≡ true) (sym (eqb-true b 95 x)) refl
    ]

inked_name : (name : List ℕ) → is_name name ≡ true → IsInked name
inked_name name h =
    let bytes = and_parts (nat_le 1 (length name) && nat_le (length name) 16 && is_ascii_lowercase (slice_index name 0)) (list_all is_name_byte name) h in
    let sized = and_parts (nat_le 1 (length name) && nat_le (length name) 16) (is_ascii_lowercase (slice_index name 0)) bytes.0 in
    let some = leb-true 1 (length name) (and_parts (nat_le 1 (length name)) (nat_le (length name) 16) sized.0).0 in
    record { some = omega arith; ink = list_all-weaker is_name_byte is_ink name_byte_is_ink name bytes.1 }

inked_number : (n : ℕ) → n < 10 ^ 9 → IsInked (fmt.decimal n)
inked_number n h =
    let digits = digits_decimal own n (omega arith) in
    record { some = decimal_nonempty n (omega arith); ink = list_all-weaker is_ascii_digit is_ink digit_is_ink (fmt.decimal n) digits }

hex_digit_is_ink : (k : ℕ) → k < 16 → is_ink (slice_index (codes "0123456789ABCDEF") k) ≡ true
hex_digit_is_ink k h = agree_below_at (λ i. is_ink (slice_index (codes "0123456789ABCDEF") i)) (λ i. true) 16 k refl h

pair_is_ink : (b : ℕ) → b < 256 → list_all is_ink (hex_pair b) ≡ true
pair_is_ink b h =
    let high : b / 16 < 16 = omega arith in
    let low : b % 16 < 16 = omega arith in
    and_from _ (is_ink (slice_index (codes "0123456789ABCDEF") (b % 16)) && true) (hex_digit_is_ink (b / 16) high) (and_from _ true (hex_digit_is_ink (b % 16) low) refl)

joined_ink : (front back : List ℕ) → list_all is_ink front ≡ true → list_all is_ink back ≡ true → list_all is_ink (front ++ back) ≡ true
joined_ink front back f g = list_all-append is_ink front back ∙ and_from (list_all is_ink front) (list_all is_ink back) f g

pairs_are_ink : (bytes : List ℕ) → AreBytes bytes → list_all is_ink (flat_map hex_pair bytes) ≡ true
pairs_are_ink [] h = refl
pairs_are_ink (b ∷ bytes) h =
    joined_ink (hex_pair b) (flat_map hex_pair bytes) (pair_is_ink b (All-head (λ x. x < 256) b bytes h)) (pairs_are_ink bytes (All-tail (λ x. x < 256) b bytes h))

inked_address : (address : ℕ) → is_address address ≡ true → IsInked (hex_pair address)
inked_address address h =
    let small = address_range address h in
    record { some = omega arith; ink = pair_is_ink address (omega arith) }

inked_data : (bytes : List ℕ) → AreBytes bytes → IsInked (hex_text bytes)
inked_data [] h = record { some = lit< tt; ink = refl }
inked_data (b ∷ bytes) h = record { some = omega arith; ink = pairs_are_ink (b ∷ bytes) h }

inked_byte : (b : ℕ) → b < 256 → IsInked (hex_pair b)
inked_byte b h = record { some = omega arith; ink = pair_is_ink b h }

inked_device_kind : (kind : Kind) → IsInked (device_kind_text kind)
inked_device_kind Raw = record { some = lit< tt; ink = refl }
inked_device_kind Keyboard = record { some = lit< tt; ink = refl }
inked_device_kind Acm = record { some = lit< tt; ink = refl }
inked_device_kind Printer = record { some = lit< tt; ink = refl }

inked_kind : (kind : EndKind) → IsInked (kind_text kind)
inked_kind Control = record { some = lit< tt; ink = refl }
inked_kind Bulk = record { some = lit< tt; ink = refl }
inked_kind Interrupt = record { some = lit< tt; ink = refl }
inked_kind Iso = record { some = lit< tt; ink = refl }

role_is_ink : (r : Role) → list_all is_ink (role_text r) ≡ true
role_is_ink role.In = refl
role_is_ink role.Ctl = refl
role_is_ink role.Note = refl
role_is_ink role.Read0 = refl
role_is_ink role.Read1 = refl
role_is_ink role.Write = refl

what_is_ink : (what : What) → IsPacket what → list_all is_ink (what_text what) ≡ true
what_is_ink Ack h = refl
what_is_ink Nak h = refl
what_is_ink Stall h = refl
what_is_ink Error h = refl
what_is_ink (Packet bytes) h = pairs_are_ink bytes h.0

-- two texts with a byte between them
inked_between : (front back : List ℕ) (b : ℕ) → IsInked front → is_ink b ≡ true → list_all is_ink back ≡ true → IsInked (front ++ b ∷ back)
inked_between front back b f at g =
    let some = f.some in
    record { some = omega (arith, length-append front (b ∷ back)); ink = joined_ink front (b ∷ back) f.ink (and_from (is_ink b) (list_all is_ink back) at g) }

inked_item : (item : Item) → IsSayableItem item → IsInked (item_text item)
inked_item item h =
    let most = h.most in
    inked_between (fmt.decimal item.times) (what_text item.what) 42 (inked_number item.times (omega arith)) refl (what_is_ink item.what h.packet)

inked_items : (items : List Item) → All IsSayableItem items → AreInked (map item_text items)
inked_items [] h = tt
inked_items (item ∷ items) h = (inked_item item (All-head IsSayableItem item items h), inked_items items (All-tail IsSayableItem item items h))

inked_option : (option : UrbOption) (texts : List (List ℕ)) → IsSayableOption option → AreInked texts → AreInked (option_words option ++ texts)
inked_option (Len n) texts h g = (record { some = lit< tt; ink = refl }, (inked_number n h, g))
inked_option (Again n) texts h g = (record { some = lit< tt; ink = refl }, (inked_number n h, g))
inked_option Short texts h g = (record { some = lit< tt; ink = refl }, g)

inked_options : (options : List UrbOption) → All IsSayableOption options → AreInked (flat_map option_words options)
inked_options [] h = tt
inked_options (option ∷ options) h =
    inked_option option (flat_map option_words options) (All-head IsSayableOption option options h) (inked_options options (All-tail IsSayableOption option options h))

inked_urb : (urb : UrbName) → IsUrbName urb → IsInked (urb_text urb)
inked_urb (Scripted name) h = inked_name name h
inked_urb (Driver device number r) h =
    let behind = inked_between (fmt.decimal number) (role_text r) 46 (inked_number number h.1) refl (role_is_ink r) in
    inked_between device (fmt.decimal number ++ 46 ∷ role_text r) 46 (inked_name device h.0) refl behind.ink

inked_setup : (setup : Option (List ℕ)) (texts : List (List ℕ)) → IsSetup setup → AreInked texts → AreInked (setup_words setup ++ texts)
inked_setup None texts h g = g
inked_setup (Some bytes) texts h g = (record { some = omega arith; ink = joined_ink (codes "setup:") (flat_map hex_pair bytes) refl (pairs_are_ink bytes h.0) }, g)

inked_sent : (sent : Option (List ℕ)) → IsSent sent → AreInked (sent_words sent)
inked_sent None h = tt
inked_sent (Some bytes) h = (inked_data bytes h.0, tt)

inked_device_bytes : (which : DeviceBytes) → IsInked (device_bytes_text which)
inked_device_bytes Desc = record { some = lit< tt; ink = refl }
inked_device_bytes Config = record { some = lit< tt; ink = refl }
inked_device_bytes Id = record { some = lit< tt; ink = refl }

inked_on_urb : (call : UrbCall) → IsInked (urb_call_text call)
inked_on_urb Unlink = record { some = lit< tt; ink = refl }
inked_on_urb Kill = record { some = lit< tt; ink = refl }
inked_on_urb Poison = record { some = lit< tt; ink = refl }
inked_on_urb Unpoison = record { some = lit< tt; ink = refl }
inked_on_urb Block = record { some = lit< tt; ink = refl }
inked_on_urb Unblock = record { some = lit< tt; ink = refl }

inked_alone : (call : BareCall) → IsInked (bare_call_text call)
inked_alone Serve = record { some = lit< tt; ink = refl }
inked_alone Down = record { some = lit< tt; ink = refl }
inked_alone Up = record { some = lit< tt; ink = refl }

inked_on_interface : (which : InterfaceWord) → IsInked (interface_word_text which)
inked_on_interface called.Led = record { some = lit< tt; ink = refl }
inked_on_interface called.Write = record { some = lit< tt; ink = refl }
inked_on_interface called.Coding = record { some = lit< tt; ink = refl }
inked_on_interface called.Control = record { some = lit< tt; ink = refl }
inked_on_interface called.SendBreak = record { some = lit< tt; ink = refl }
inked_on_interface called.Print = record { some = lit< tt; ink = refl }
inked_on_interface called.Status = record { some = lit< tt; ink = refl }
inked_on_interface called.SoftReset = record { some = lit< tt; ink = refl }

inked_keyword : (keyword : Keyword) → IsInked (keyword_text keyword)
inked_keyword word.Device = record { some = lit< tt; ink = refl }
inked_keyword word.Ep = record { some = lit< tt; ink = refl }
inked_keyword (word.Bytes which) = inked_device_bytes which
inked_keyword word.Port = record { some = lit< tt; ink = refl }
inked_keyword word.Answer = record { some = lit< tt; ink = refl }
inked_keyword word.Urb = record { some = lit< tt; ink = refl }
inked_keyword word.Thread = record { some = lit< tt; ink = refl }
inked_keyword word.Submit = record { some = lit< tt; ink = refl }
inked_keyword (word.OnUrb call) = inked_on_urb call
inked_keyword (word.Alone call) = inked_alone call
inked_keyword (word.OnInterface which) = inked_on_interface which

inked_carried : (call : InterfaceCall) → IsCarried call → AreInked (carried_words call)
inked_carried (made.Led lights) h = (inked_byte lights h, tt)
inked_carried (made.Write bytes) h = (inked_data bytes h.0, tt)
inked_carried (made.Coding rate stop parity bits) h =
    (inked_number rate h.rate_number, (inked_number stop h.stop_number, (inked_number parity h.parity_number, (inked_number bits h.bits_number, tt))))
inked_carried (made.Control lines) h = (inked_byte lines h, tt)
inked_carried (made.SendBreak ms) h = (inked_number ms h, tt)
inked_carried (made.Print bytes) h = (inked_data bytes h.0, tt)
inked_carried made.Status h = tt
inked_carried made.SoftReset h = tt

inked_words : (st : Statement) → IsSayable st → AreInked (words_said st)
inked_words (say.Device name kind) h = (inked_name name h, (inked_device_kind kind, tt))
inked_words (say.Ep address kind size interval) h =
    (inked_address address h.address_of_end.valid, (inked_kind kind, (inked_number size h.size_number, (inked_number interval h.interval_number, tt))))
inked_words (say.Bytes which bytes) h = (inked_data bytes h.0, tt)
inked_words (say.Port status) h = (inked_byte status h, tt)
inked_words (say.Answer address items) h = (inked_address address h.valid, inked_items items h.each)
inked_words (say.Urb name device address options) h =
    (inked_name name h.named, (inked_name device h.on_device, (inked_address address h.valid, inked_options options h.each)))
inked_words (say.Thread name) h = (inked_name name h, tt)
inked_words (say.Submit urb setup bytes) h = (inked_urb urb h.0, inked_setup setup (sent_words bytes) h.1 (inked_sent bytes h.2))
inked_words (say.OnUrb call urb) h = (inked_urb urb h, tt)
inked_words (say.Alone call) h = tt
inked_words (say.OnInterface call device interface) h =
    (inked_name device h.on_device, (inked_number interface h.numbered, inked_carried call h.carried))

inked_line : (st : Statement) → IsSayable st → AreInked (line_said st)
inked_line st h = (inked_keyword (keyword_said st), inked_words st h)

ink_low : (b : ℕ) → is_ink b ≡ true → 42 ≤ b
ink_low b h = leb-true 42 b (and_parts (nat_le 42 b) (nat_le b 126) h).0

ink_is_no_blank : (b : ℕ) → is_ink b ≡ true → is_blank b ≡ false
unfolding is_blank
ink_is_no_blank b h =
    let low = ink_low b h in
    or_from (eqb b 32) (eqb b 9) (ne_eqb b 32 (λ e. omega arith)) (ne_eqb b 9 (λ e. omega arith))

ink_is_plain : (b : ℕ) → is_ink b ≡ true → is_plain b ≡ true
unfolding is_plain
ink_is_plain b h =
    let low = ink_low b h in
    let high = (and_parts (nat_le 42 b) (nat_le b 126) h).1 in
    or_left (nat_le 32 b && nat_le b 126) (eqb b 9) (and_from (nat_le 32 b) (nat_le b 126) (le-leb 32 b (omega arith)) high)

space_is_plain : is_plain 32 ≡ true
unfolding is_plain
space_is_plain = refl

ink_has_no_blank : (text : List ℕ) → list_all is_ink text ≡ true → HasNoBlank text
ink_has_no_blank [] h = tt
ink_has_no_blank (b ∷ text) h =
    let p = and_parts (is_ink b) (list_all is_ink text) h in
    (ink_is_no_blank b p.0, ink_has_no_blank text p.1)

inked_is_word : (text : List ℕ) → IsInked text → IsWord text
inked_is_word [] h = absurd (let some = h.some in omega arith)
inked_is_word (b ∷ text) h =
    let low = ink_low b (and_parts (is_ink b) (list_all is_ink text) h.ink).0 in
    record { some = h.some; inner = ink_has_no_blank (b ∷ text) h.ink; no_comment = ne_eqb b 35 (λ e. omega arith) }

inked_are_words : (texts : List (List ℕ)) → AreInked texts → AreWords texts
inked_are_words [] h = tt
inked_are_words (text ∷ texts) h = (inked_is_word text h.0, inked_are_words texts h.1)

plain_text : (text : List ℕ) → IsInked text → list_all is_plain text ≡ true
plain_text text h = list_all-weaker is_ink is_plain ink_is_plain text h.ink

inked_are_plain : (texts : List (List ℕ)) → AreInked texts → list_all is_plain (spaced texts) ≡ true
inked_are_plain [] h = refl
inked_are_plain (text ∷ []) h = plain_text text h.0
inked_are_plain (text ∷ next ∷ texts) h =
    list_all-append is_plain text (32 ∷ spaced (next ∷ texts))
    ∙ and_from (list_all is_plain text) (is_plain 32 && list_all is_plain (spaced (next ∷ texts))) (plain_text text h.0)
    (and_from (is_plain 32) (list_all is_plain (spaced (next ∷ texts))) space_is_plain (inked_are_plain (next ∷ texts) h.1))

-- a printed line is words
pub line_is_words : (st : Statement) → IsSayable st → AreWords (line_said st)
line_is_words st h = inked_are_words (line_said st) (inked_line st h)

-- of bytes that may stand in a line
pub line_is_plain : (st : Statement) → IsSayable st → list_all is_plain (spaced (line_said st)) ≡ true
line_is_plain st h = inked_are_plain (line_said st) (inked_line st h)
