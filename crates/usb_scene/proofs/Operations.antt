-- The operation of a call has its number and its word, and is what its line said.
use Rattle.std.proofs.Common.{◌≡◌, ◌≢◌, ℕ, ◌≤◌, ◌⊎◌, inl, inr, ⊎_elim, Bool, true, false, cond, eqb, List, [], Option, None, refl, sym, ap, ◌∙◌, arith}
use Rattle.std.specs.Prelude.{◌%◌, nat_le, option_map, unwrap_or}
use Rattle.std.specs.List.{Contains}
use Rattle.std.proofs.Math.Nat.{mod-eq_of_lt}
use Rattle.std.proofs.lemmas.Bool.{and_parts, leb-true, eqb-true, eqb-false}
use Rattle.usb_types.specs.Table.{Entry, is_table, name_at}
use Rattle.usb_types.specs.Rows.{call_table}
use Rattle.usb_types.proofs.Exact.{name_at_each}
use Rattle.usb_statement.specs.declared.keyword.UrbCall.{UrbCall}
use Rattle.usb_statement.specs.declared.keyword.UrbCall.TheVariants as on
use Rattle.usb_statement.specs.declared.keyword.BareCall.{BareCall}
use Rattle.usb_statement.specs.declared.keyword.BareCall.TheVariants as bare
use Rattle.usb_statement.specs.declared.interface_call.InterfaceCall.{InterfaceCall}
use Rattle.usb_statement.specs.declared.interface_call.InterfaceCall.TheVariants as made
use Rattle.usb_statement.specs.Sayable.{IsCarried}
use Rattle.usb_scene.specs.declared.scene.Scene.{Scene}
use Rattle.usb_scene.specs.declared.scene.Call.{Call}
use Rattle.usb_scene.specs.declared.scene.Target.{Target}
use Rattle.usb_scene.specs.declared.scene.Target.TheVariants as target
use Rattle.usb_scene.specs.declared.operation.Operation.{Operation}
use Rattle.usb_scene.specs.declared.operation.Operation.TheVariants.{Submit, Unlink, Kill, Poison, Unpoison, Block, Unblock, Serve, Down, Up, Interface, Unbuilt}
use Rattle.usb_scene.specs.declared.operation.InterfaceOp.{InterfaceOp}
use Rattle.usb_scene.specs.declared.operation.InterfaceOp.TheVariants as op
use Rattle.usb_scene.specs.WellFormed.{IsBuilt}
use Rattle.usb_scene.specs.Rules.{carries_within}
use Rattle.usb_scene.specs.Growth.{plain_call, urb_call_code, bare_call_code, interface_call}
use Rattle.usb_scene.specs.Operation.{interface_operation, operation_by, operation_of, interface_number, number_of, interface_text, operation_text, is_built, urb_operation, bare_operation, interface_op}
use Rattle.usb_scene.proofs.Carried.{data_bits_most}

-- the table of calls has each operation's word at its number
interface_word : (asked : InterfaceOp) → unwrap_or (name_at call_table (interface_number asked)) [] ≡ interface_text asked
unfolding call_table
interface_word (op.Led lights) = refl
interface_word op.Write = refl
interface_word (op.Coding rate stop parity bits) = refl
interface_word (op.Control lines) = refl
interface_word (op.SendBreak ms) = refl
interface_word op.Print = refl
interface_word op.Status = refl
interface_word op.SoftReset = refl

pub word_of_number : (asked : Operation) → unwrap_or (name_at call_table (number_of asked)) [] ≡ operation_text asked
unfolding call_table
word_of_number Submit = refl
word_of_number Unlink = refl
word_of_number Kill = refl
word_of_number Poison = refl
word_of_number Unpoison = refl
word_of_number Block = refl
word_of_number Unblock = refl
word_of_number Serve = refl
word_of_number Down = refl
word_of_number Up = refl
word_of_number (Interface asked) = interface_word asked
word_of_number (Unbuilt code) = refl

-- so what is found at the number is the word
pub word_found : {X : Type 0} (now : X → List ℕ) (found : Option X) (table : List Entry) (n : ℕ) (asked : Operation) → option_map now found ≡ name_at table n
    → table ≡ call_table → n ≡ number_of asked → (o : Option X) → found ≡ o → unwrap_or (option_map now o) [] ≡ operation_text asked
word_found now found table n asked at calls number o is =
    (λ i. unwrap_or (option_map now (sym is i)) []) ∙ (ap (λ o. unwrap_or o []) at ∙ ((λ i. unwrap_or (name_at (calls i) (number i)) []) ∙ word_of_number asked))

-- an operation that a number gives, and what other numbers give, keep the number
keeps : (n code : ℕ) (here rest : Operation) → number_of here ≡ n → number_of rest ≡ code → number_of (cond (eqb code n) here rest) ≡ code
keeps n code here rest is other = go (eqb code n) refl
  where
    go : (b : Bool) → eqb code n ≡ b → number_of (cond b here rest) ≡ code
    go true e = is ∙ sym (eqb-true code n e)
    go false e = other

interface_kept : (code : ℕ) (numbers : List ℕ) (bytes : Option (List ℕ)) → number_of (interface_operation code numbers bytes) ≡ code
interface_kept code numbers bytes =
    keeps 23 code _ _ refl (keeps 24 code _ _ refl (keeps 25 code _ _ refl (keeps 26 code _ _ refl
    (keeps 27 code _ _ refl (keeps 28 code _ _ refl (keeps 29 code _ _ refl (keeps 30 code _ _ refl refl)))))))

pub number_kept : (c : Call) → number_of (operation_of c) ≡ c.code
number_kept c =
    keeps 1 c.code _ _ refl (keeps 2 c.code _ _ refl (keeps 3 c.code _ _ refl (keeps 4 c.code _ _ refl (keeps 5 c.code _ _ refl
    (keeps 6 c.code _ _ refl (keeps 7 c.code _ _ refl (keeps 8 c.code _ _ refl (keeps 21 c.code _ _ refl (keeps 22 c.code _ _ refl
    (interface_kept c.code c.numbers c.bytes))))))))))

calls_are_a_table : is_table call_table ≡ true
unfolding call_table
calls_are_a_table = refl

pub word_of_row : (row : Entry) (c : Call) → Contains call_table row → c.code ≡ row.code → operation_text (operation_of c) ≡ row.name
word_of_row row c is same = sym (word_of_number (operation_of c))
    ∙ (ap (λ n. unwrap_or (name_at call_table n) []) (number_kept c ∙ same) ∙ ap (λ o. unwrap_or o []) (name_at_each call_table row calls_are_a_table is))

-- a number that stands among those of built calls gives a built operation
stands : (n code : ℕ) (here rest : Operation) → is_built here ≡ true → (n ≢ code → is_built rest ≡ true) → is_built (cond (eqb code n) here rest) ≡ true
stands n code here rest is other = go (eqb code n) refl
  where
    go : (b : Bool) → eqb code n ≡ b → is_built (cond b here rest) ≡ true
    go true e = is
    go false e = other (λ same. eqb-false code n e (sym same))

interface_stands : (code : ℕ) (numbers : List ℕ) (bytes : Option (List ℕ)) → 23 ≤ code → code ≤ 30 → is_built (interface_operation code numbers bytes) ≡ true
interface_stands code numbers bytes low high =
    stands 23 code _ _ refl (λ a. stands 24 code _ _ refl (λ b. stands 25 code _ _ refl (λ c. stands 26 code _ _ refl (λ d.
    stands 27 code _ _ refl (λ e. stands 28 code _ _ refl (λ f. stands 29 code _ _ refl (λ g. stands 30 code _ _ refl (λ h. absurd (omega arith)))))))))

built_within : (code : ℕ) (numbers : List ℕ) (bytes : Option (List ℕ)) → 1 ≤ code → code ≤ 30 → (code ≤ 8) ⊎ (21 ≤ code) → is_built (operation_by code numbers bytes) ≡ true
built_within code numbers bytes low high gap =
    stands 1 code _ _ refl (λ a. stands 2 code _ _ refl (λ b. stands 3 code _ _ refl (λ c. stands 4 code _ _ refl (λ d.
    stands 5 code _ _ refl (λ e. stands 6 code _ _ refl (λ f. stands 7 code _ _ refl (λ g. stands 8 code _ _ refl (λ h.
    stands 21 code _ _ refl (λ i. stands 22 code _ _ refl (λ j. ⊎_elim (λ few. absurd (omega arith)) (λ many. interface_stands code numbers bytes (omega arith) high) gap))))))))))

built_at : (s : Scene) (code : ℕ) (numbers : List ℕ) (bytes : Option (List ℕ)) (t : Target) → IsBuilt s code t → is_built (operation_by code numbers bytes) ≡ true
built_at s code numbers bytes (target.Urb u) is = let low = is.0 in let high = is.1 in built_within code numbers bytes low (omega arith) (inl (omega arith))
built_at s code numbers bytes (target.Role d i r) is = let low = is.0 in let high = is.1 in built_within code numbers bytes (omega arith) (omega arith) (inl (omega arith))
built_at s code numbers bytes (target.Interface d i) is = let low = is.0 in let high = is.1 in built_within code numbers bytes (omega arith) high (inr (omega arith))
built_at s code numbers bytes target.Nothing (inl e) = built_within code numbers bytes (omega arith) (omega arith) (inl (omega arith))
built_at s code numbers bytes target.Nothing (inr (inl e)) = built_within code numbers bytes (omega arith) (omega arith) (inr (omega arith))
built_at s code numbers bytes target.Nothing (inr (inr e)) = built_within code numbers bytes (omega arith) (omega arith) (inr (omega arith))
built_at s code numbers bytes (target.Anchor a) is = absurd is
built_at s code numbers bytes (target.Device d) is = absurd is

pub built_kept : (s : Scene) (c : Call) → IsBuilt s c.code c.target → is_built (operation_of c) ≡ true
built_kept s c is = built_at s c.code c.numbers c.bytes c.target is

-- what lines ask for
pub urb_asked : (line : ℕ) (at : Target) (call : UrbCall) → operation_of (plain_call line (urb_call_code call) at None None) ≡ urb_operation call
urb_asked line at on.Unlink = refl
urb_asked line at on.Kill = refl
urb_asked line at on.Poison = refl
urb_asked line at on.Unpoison = refl
urb_asked line at on.Block = refl
urb_asked line at on.Unblock = refl

pub bare_asked : (line : ℕ) (at : Target) (call : BareCall) → operation_of (plain_call line (bare_call_code call) at None None) ≡ bare_operation call
bare_asked line at bare.Serve = refl
bare_asked line at bare.Down = refl
bare_asked line at bare.Up = refl

pub interface_asked : (line : ℕ) (at : Target) (call : InterfaceCall) → IsCarried call → carries_within call ≡ true
    → operation_of (interface_call line at call) ≡ Interface (interface_op call)
interface_asked line at (made.Led lights) said within = refl
interface_asked line at (made.Write bytes) said within = refl
interface_asked line at (made.Coding rate stop parity bits) said within =
    let most = and_parts (nat_le stop 2) (nat_le parity 4) within in
    let few_stop = leb-true stop 2 most.0 in
    let few_parity = leb-true parity 4 most.1 in
    let few_bits = data_bits_most bits said.bits_of_data in
    let small_stop : stop % 256 ≡ stop = mod-eq_of_lt (omega arith) in
    let small_parity : parity % 256 ≡ parity = mod-eq_of_lt (omega arith) in
    let small_bits : bits % 256 ≡ bits = mod-eq_of_lt (omega arith) in
    (λ i. Interface (op.Coding rate (small_stop i) (small_parity i) (small_bits i)))
interface_asked line at (made.Control lines) said within = refl
interface_asked line at (made.SendBreak ms) said within =
    let few = leb-true ms 65535 within in
    let small : ms % 65536 ≡ ms = mod-eq_of_lt (omega arith) in
    ap (λ n. Interface (op.SendBreak n)) small
interface_asked line at (made.Print bytes) said within = refl
interface_asked line at made.Status said within = refl
interface_asked line at made.SoftReset said within = refl

-- no built call has this number
pub record IsUnbuilt (code : ℕ) : Type 0 where
  pub submit : eqb code 1 ≡ false
  pub unlink : eqb code 2 ≡ false
  pub kill : eqb code 3 ≡ false
  pub poison : eqb code 4 ≡ false
  pub unpoison : eqb code 5 ≡ false
  pub block : eqb code 6 ≡ false
  pub unblock : eqb code 7 ≡ false
  pub serve : eqb code 8 ≡ false
  pub down : eqb code 21 ≡ false
  pub up : eqb code 22 ≡ false
  pub led : eqb code 23 ≡ false
  pub write : eqb code 24 ≡ false
  pub coding : eqb code 25 ≡ false
  pub control : eqb code 26 ≡ false
  pub send_break : eqb code 27 ≡ false
  pub print : eqb code 28 ≡ false
  pub status : eqb code 29 ≡ false
  pub soft_reset : eqb code 30 ≡ false

-- an operation that is not built has such a number
abbrev pub Decoded : Operation → Type 0
Decoded (Unbuilt code) = IsUnbuilt code
Decoded _ = Unit {0}

other : (n code : ℕ) (here rest : Operation) → Decoded here → (eqb code n ≡ false → Decoded rest) → Decoded (cond (eqb code n) here rest)
other n code here rest is next = go (eqb code n) refl
  where
    go : (b : Bool) → eqb code n ≡ b → Decoded (cond b here rest)
    go true e = is
    go false e = next e

pub decoded : (c : Call) → Decoded (operation_of c)
decoded c =
    other 1 c.code _ _ tt (λ submit. other 2 c.code _ _ tt (λ unlink. other 3 c.code _ _ tt (λ kill. other 4 c.code _ _ tt (λ poison.
    other 5 c.code _ _ tt (λ unpoison. other 6 c.code _ _ tt (λ block. other 7 c.code _ _ tt (λ unblock. other 8 c.code _ _ tt (λ serve.
    other 21 c.code _ _ tt (λ down. other 22 c.code _ _ tt (λ up. other 23 c.code _ _ tt (λ led. other 24 c.code _ _ tt (λ write.
    other 25 c.code _ _ tt (λ coding. other 26 c.code _ _ tt (λ control. other 27 c.code _ _ tt (λ send_break. other 28 c.code _ _ tt (λ print.
    other 29 c.code _ _ tt (λ status. other 30 c.code _ _ tt (λ soft_reset. record {
      submit = submit;
      unlink = unlink;
      kill = kill;
      poison = poison;
      unpoison = unpoison;
      block = block;
      unblock = unblock;
      serve = serve;
      down = down;
      up = up;
      led = led;
      write = write;
      coding = coding;
      control = control;
      send_break = send_break;
      print = print;
      status = status;
      soft_reset = soft_reset;
    }))))))))))))))))))
