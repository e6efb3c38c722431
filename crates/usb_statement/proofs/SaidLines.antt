-- What holds of a statement that is read from a line.
use Rattle.std.proofs.Common.{◌≡◌, ℕ, true, not, List, [], ◌∷◌, Some, subst}
use Rattle.std.specs.Prelude.{◌&&◌}
use Rattle.std.specs.List.{All}
use Rattle.std.proofs.lemmas.Bool.{and_parts, not-true}
use Rattle.std.proofs.lemmas.Option.{option_and_then_some, same_Some}
use Rattle.usb_text.specs.Kinds.{number_of, is_address, byte_of, address_of}
use Rattle.usb_text.proofs.Known.{some_if}
use Rattle.usb_text.proofs.KnownBytes.{small_number, small_byte}
use Rattle.usb_xfer.specs.declared.script.Item.{Item}
use Rattle.usb_statement.specs.InterfaceCalls.{is_data_bits, data_bits_of, interface_call_of}
use Rattle.usb_statement.specs.Items.{items_of, are_items_of}
use Rattle.usb_statement.specs.Kept.{some_data, kept_data}
use Rattle.usb_statement.specs.Options.{options_of}
use Rattle.usb_statement.specs.Setups.{setup_first, behind_setup}
use Rattle.usb_statement.specs.UrbNames.{name_of, urb_name_of}
use Rattle.usb_statement.specs.Statements.{device_kind_of, end_of, kind_of, sent_of, is_empty, answer_with, statement_of}
use Rattle.usb_statement.specs.Sayable.{IsNumber, IsSayable, IsSayableItem, IsKept, IsCarried}
use Rattle.usb_statement.specs.declared.statement.Statement.{Statement}
use Rattle.usb_statement.specs.declared.statement.Statement.TheVariants as say
use Rattle.usb_statement.specs.declared.keyword.Keyword.{Keyword}
use Rattle.usb_statement.specs.declared.keyword.Keyword.TheVariants as word
use Rattle.usb_statement.specs.declared.keyword.DeviceBytes.{DeviceBytes}
use Rattle.usb_statement.specs.declared.keyword.UrbCall.{UrbCall}
use Rattle.usb_statement.specs.declared.keyword.BareCall.{BareCall}
use Rattle.usb_statement.specs.declared.keyword.InterfaceWord.{InterfaceWord}
use Rattle.usb_statement.specs.declared.keyword.InterfaceWord.TheVariants as called
use Rattle.usb_statement.specs.declared.interface_call.InterfaceCall.{InterfaceCall}
use Rattle.usb_statement.specs.declared.interface_call.InterfaceCall.TheVariants as made
use Rattle.usb_statement.proofs.SaidWords.{option_map_some, said_name, said_address, said_end, said_kind, said_items, said_options, said_urb, said_kept, said_sent}
use Rattle.usb_statement.proofs.Setups.{said_setup}

said_device : (texts : List (List ℕ)) (st : Statement) → statement_of word.Device texts ≡ Some st → IsSayable st
said_device [] st h = cc
said_device (name ∷ []) st h = cc
said_device (text ∷ kind ∷ []) st h =
    option_and_then_some _ (name_of text) st h (λ name e g.
    option_and_then_some _ (device_kind_of kind) st g (λ k f i. subst IsSayable (same_Some (say.Device name k) st i) (said_name text name e)))
said_device (text ∷ kind ∷ more ∷ texts) st h = cc

said_ep : (texts : List (List ℕ)) (st : Statement) → statement_of word.Ep texts ≡ Some st → IsSayable st
said_ep [] st h = cc
said_ep (a ∷ []) st h = cc
said_ep (a ∷ b ∷ []) st h = cc
said_ep (a ∷ b ∷ c ∷ []) st h = cc
said_ep (a ∷ k ∷ s ∷ i ∷ []) st h =
    option_and_then_some _ (end_of a) st h (λ address e g.
    option_and_then_some _ (kind_of k) st g (λ kind e2 g2.
    option_and_then_some _ (number_of s) st g2 (λ size e3 g3.
    option_and_then_some _ (number_of i) st g3 (λ interval e4 g4.
    subst IsSayable (same_Some (say.Ep address kind size interval) st g4) (record {
      address_of_end = said_end a address e;
      kind_of_end = said_kind k kind e2;
      size_number = small_number s size e3;
      interval_number = small_number i interval e4;
    })))))
said_ep (a ∷ k ∷ s ∷ i ∷ more ∷ texts) st h = cc

said_bytes : (which : DeviceBytes) (texts : List (List ℕ)) (st : Statement) → statement_of (word.Bytes which) texts ≡ Some st → IsSayable st
said_bytes which [] st h = cc
said_bytes which (text ∷ texts) st h =
    option_map_some _ (kept_data (text ∷ texts)) st h (λ bytes e g. subst IsSayable g (said_kept (text ∷ texts) bytes e))

said_port : (texts : List (List ℕ)) (st : Statement) → statement_of word.Port texts ≡ Some st → IsSayable st
said_port [] st h = cc
said_port (text ∷ []) st h = option_map_some _ (byte_of text) st h (λ status e g. subst IsSayable g (small_byte text status e))
said_port (text ∷ more ∷ texts) st h = cc

said_answer_with : (address : ℕ) (items : List Item) (st : Statement) → is_address address ≡ true → All IsSayableItem items → answer_with address items ≡ Some st → IsSayable st
said_answer_with address items st valid each h =
    let p = some_if (not (is_empty items) && are_items_of address items) (say.Answer address items) st h in
    let q = and_parts (not (is_empty items)) (are_items_of address items) p.0 in
    subst IsSayable p.1 (record { valid = valid; some = not-true (is_empty items) q.0; each = each; fit = q.1 })

said_answer : (texts : List (List ℕ)) (st : Statement) → statement_of word.Answer texts ≡ Some st → IsSayable st
said_answer [] st h = cc
said_answer (a ∷ texts) st h =
    option_and_then_some _ (address_of a) st h (λ address e g.
    option_and_then_some _ (items_of texts) st g (λ items e2 g2.
    said_answer_with address items st (said_address a address e) (said_items texts items e2) g2))

said_urb_line : (texts : List (List ℕ)) (st : Statement) → statement_of word.Urb texts ≡ Some st → IsSayable st
said_urb_line [] st h = cc
said_urb_line (a ∷ []) st h = cc
said_urb_line (a ∷ b ∷ []) st h = cc
said_urb_line (n ∷ d ∷ a ∷ texts) st h =
    option_and_then_some _ (name_of n) st h (λ name e g.
    option_and_then_some _ (name_of d) st g (λ device e2 g2.
    option_and_then_some _ (address_of a) st g2 (λ address e3 g3.
    option_and_then_some _ (options_of texts) st g3 (λ options e4 g4.
    subst IsSayable (same_Some (say.Urb name device address options) st g4) (record {
      named = said_name n name e;
      on_device = said_name d device e2;
      valid = said_address a address e3;
      each = said_options texts options e4;
    })))))

said_thread : (texts : List (List ℕ)) (st : Statement) → statement_of word.Thread texts ≡ Some st → IsSayable st
said_thread [] st h = cc
said_thread (text ∷ []) st h = option_map_some _ (name_of text) st h (λ name e g. subst IsSayable g (said_name text name e))
said_thread (text ∷ more ∷ texts) st h = cc

said_submit : (texts : List (List ℕ)) (st : Statement) → statement_of word.Submit texts ≡ Some st → IsSayable st
said_submit [] st h = cc
said_submit (text ∷ texts) st h =
    option_and_then_some _ (urb_name_of text) st h (λ urb e g.
    option_and_then_some _ (sent_of (behind_setup texts)) st g (λ bytes e2 g2.
    subst IsSayable (same_Some (say.Submit urb (setup_first texts) bytes) st g2) (said_urb text urb e, said_setup texts, said_sent (behind_setup texts) bytes e2)))

said_on_urb : (call : UrbCall) (texts : List (List ℕ)) (st : Statement) → statement_of (word.OnUrb call) texts ≡ Some st → IsSayable st
said_on_urb call [] st h = cc
said_on_urb call (text ∷ []) st h = option_map_some _ (urb_name_of text) st h (λ urb e g. subst IsSayable g (said_urb text urb e))
said_on_urb call (text ∷ more ∷ texts) st h = cc

said_alone : (call : BareCall) (texts : List (List ℕ)) (st : Statement) → statement_of (word.Alone call) texts ≡ Some st → IsSayable st
said_alone call [] st h = subst IsSayable (same_Some (say.Alone call) st h) tt
said_alone call (text ∷ texts) st h = cc

said_some : (texts : List (List ℕ)) (bytes : List ℕ) → some_data texts ≡ Some bytes → IsKept bytes
said_some [] bytes h = cc
said_some (text ∷ texts) bytes h = said_kept (text ∷ texts) bytes h

said_bits : (text : List ℕ) (bits : ℕ) → data_bits_of text ≡ Some bits → IsNumber bits × (is_data_bits bits ≡ true)
said_bits text bits h =
    option_and_then_some _ (number_of text) bits h (λ n e g.
    let p = some_if (is_data_bits n) n bits g in
    subst (λ x. IsNumber x × (is_data_bits x ≡ true)) p.1 (small_number text n e, p.0))

said_coding : (texts : List (List ℕ)) (call : InterfaceCall) → interface_call_of called.Coding texts ≡ Some call → IsCarried call
said_coding [] call h = cc
said_coding (r ∷ []) call h = cc
said_coding (r ∷ s ∷ []) call h = cc
said_coding (r ∷ s ∷ p ∷ []) call h = cc
said_coding (r ∷ s ∷ p ∷ b ∷ []) call h =
    option_and_then_some _ (number_of r) call h (λ rate e g.
    option_and_then_some _ (number_of s) call g (λ stop e2 g2.
    option_and_then_some _ (number_of p) call g2 (λ parity e3 g3.
    option_and_then_some _ (data_bits_of b) call g3 (λ bits e4 g4.
    let known = said_bits b bits e4 in
    subst IsCarried (same_Some (made.Coding rate stop parity bits) call g4) (record {
      rate_number = small_number r rate e;
      stop_number = small_number s stop e2;
      parity_number = small_number p parity e3;
      bits_number = known.0;
      bits_of_data = known.1;
    })))))
said_coding (r ∷ s ∷ p ∷ b ∷ more ∷ texts) call h = cc

said_carried : (which : InterfaceWord) (texts : List (List ℕ)) (call : InterfaceCall) → interface_call_of which texts ≡ Some call → IsCarried call
said_carried called.Led [] call h = cc
said_carried called.Led (text ∷ []) call h = option_map_some _ (byte_of text) call h (λ lights e g. subst IsCarried g (small_byte text lights e))
said_carried called.Led (text ∷ more ∷ texts) call h = cc
said_carried called.Write texts call h = option_map_some _ (some_data texts) call h (λ bytes e g. subst IsCarried g (said_some texts bytes e))
said_carried called.Coding texts call h = said_coding texts call h
said_carried called.Control [] call h = cc
said_carried called.Control (text ∷ []) call h = option_map_some _ (byte_of text) call h (λ lines e g. subst IsCarried g (small_byte text lines e))
said_carried called.Control (text ∷ more ∷ texts) call h = cc
said_carried called.SendBreak [] call h = cc
said_carried called.SendBreak (text ∷ []) call h = option_map_some _ (number_of text) call h (λ ms e g. subst IsCarried g (small_number text ms e))
said_carried called.SendBreak (text ∷ more ∷ texts) call h = cc
said_carried called.Print texts call h = option_map_some _ (some_data texts) call h (λ bytes e g. subst IsCarried g (said_some texts bytes e))
said_carried called.Status [] call h = subst IsCarried (same_Some made.Status call h) tt
said_carried called.Status (text ∷ texts) call h = cc
said_carried called.SoftReset [] call h = subst IsCarried (same_Some made.SoftReset call h) tt
said_carried called.SoftReset (text ∷ texts) call h = cc

said_on_interface : (which : InterfaceWord) (texts : List (List ℕ)) (st : Statement) → statement_of (word.OnInterface which) texts ≡ Some st → IsSayable st
said_on_interface which [] st h = cc
said_on_interface which (d ∷ []) st h = cc
said_on_interface which (d ∷ i ∷ texts) st h =
    option_and_then_some _ (name_of d) st h (λ device e g.
    option_and_then_some _ (number_of i) st g (λ interface e2 g2.
    option_and_then_some _ (interface_call_of which texts) st g2 (λ call e3 g3.
    subst IsSayable (same_Some (say.OnInterface call device interface) st g3) (record {
      on_device = said_name d device e;
      numbered = small_number i interface e2;
      carried = said_carried which texts call e3;
    }))))

-- a statement that was read from a line can be printed
pub said_sayable : (keyword : Keyword) (texts : List (List ℕ)) (st : Statement) → statement_of keyword texts ≡ Some st → IsSayable st
said_sayable word.Device texts st h = said_device texts st h
said_sayable word.Ep texts st h = said_ep texts st h
said_sayable (word.Bytes which) texts st h = said_bytes which texts st h
said_sayable word.Port texts st h = said_port texts st h
said_sayable word.Answer texts st h = said_answer texts st h
said_sayable word.Urb texts st h = said_urb_line texts st h
said_sayable word.Thread texts st h = said_thread texts st h
said_sayable word.Submit texts st h = said_submit texts st h
said_sayable (word.OnUrb call) texts st h = said_on_urb call texts st h
said_sayable (word.Alone call) texts st h = said_alone call texts st h
said_sayable (word.OnInterface which) texts st h = said_on_interface which texts st h
