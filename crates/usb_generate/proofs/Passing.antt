-- Lines that may come one after another, where a test that computes says so.
use Rattle.std.proofs.Common.{◌≡◌, ℕ, ◌+◌, ◌^◌, Bool, true, false, not, ◌&&◌, ◌==◌, nat_lt, is_none, List, [], ◌∷◌, ◌++◌, length, Option, Some, None, refl, subst, arith}
use Rattle.std.specs.List.{list_all, All}
use Rattle.std.proofs.lemmas.Bool.{and_parts, not-true, ltb-true}
use Rattle.std.proofs.lemmas.List.Elements.{All-nil, All-cons}
use Rattle.usb_text.specs.Kinds.{is_name, is_address}
use Rattle.usb_scene.specs.declared.scene.Scene.{Scene}
use Rattle.usb_scene.specs.declared.cause.Cause.{Cause}
use Rattle.usb_statement.specs.declared.options.UrbOption.{UrbOption}
use Rattle.usb_statement.specs.declared.options.UrbOption.TheVariants.{Len, Again, Short}
use Rattle.usb_statement.specs.declared.statement.Statement.{Statement}
use Rattle.usb_statement.specs.declared.statement.Statement.TheVariants as say
use Rattle.usb_statement.specs.Statements.{keyword_said}
use Rattle.usb_statement.specs.Sayable.{is_end_kind, IsSayableOption, IsSayable}
use Rattle.usb_scene.specs.Rules.{SoFar, may_stand, statement_cause}
use Rattle.usb_scene.specs.Growth.{grown_by}
use Rattle.usb_scene.specs.PrintedScene.{IsAllowed, AllowedInTurn}

abbrev is_number : ℕ → Bool
is_number n = nat_lt n (10 ^ 9)

abbrev is_sayable_option : UrbOption → Bool
is_sayable_option (Len n) = is_number n
is_sayable_option (Again n) = is_number n
is_sayable_option Short = true

-- whether a line says the statement; of some kinds of statement it does not say
abbrev is_sayable : Statement → Bool
is_sayable (say.Device name kind) = is_name name
is_sayable (say.Ep address kind size interval) =
    is_address address && (not (address == 0) && (is_end_kind kind && (is_number size && is_number interval)))
is_sayable (say.Urb name device address options) =
    is_name name && (is_name device && (is_address address && list_all is_sayable_option options))
is_sayable (say.Thread name) = is_name name
is_sayable _ = false

option_sayable : (option : UrbOption) → is_sayable_option option ≡ true → IsSayableOption option
option_sayable (Len n) h = ltb-true n (10 ^ 9) h
option_sayable (Again n) h = ltb-true n (10 ^ 9) h
option_sayable Short h = tt

options_sayable : (options : List UrbOption) → list_all is_sayable_option options ≡ true → All IsSayableOption options
options_sayable [] h = All-nil IsSayableOption
options_sayable (option ∷ options) h =
    let parts = and_parts (is_sayable_option option) (list_all is_sayable_option options) h in
    All-cons IsSayableOption option options (option_sayable option parts.0) (options_sayable options parts.1)

sayable : (said : Statement) → is_sayable said ≡ true → IsSayable said
sayable (say.Device name kind) h = h
sayable (say.Ep address kind size interval) h =
    let a = and_parts (is_address address) _ h in
    let b = and_parts (not (address == 0)) _ a.1 in
    let c = and_parts (is_end_kind kind) _ b.1 in
    let d = and_parts (is_number size) (is_number interval) c.1 in
    record {
      address_of_end = record { valid = a.0; some = not-true (address == 0) b.0 };
      kind_of_end = c.0;
      size_number = ltb-true size (10 ^ 9) d.0;
      interval_number = ltb-true interval (10 ^ 9) d.1;
    }
sayable (say.Bytes which bytes) h = cc
sayable (say.Port status) h = cc
sayable (say.Answer address items) h = cc
sayable (say.Urb name device address options) h =
    let a = and_parts (is_name name) _ h in
    let b = and_parts (is_name device) _ a.1 in
    let c = and_parts (is_address address) (list_all is_sayable_option options) b.1 in
    record { named = a.0; on_device = b.0; valid = c.0; each = options_sayable options c.1 }
sayable (say.Thread name) h = h
sayable (say.Submit urb setup bytes) h = cc
sayable (say.OnUrb call urb) h = cc
sayable (say.Alone call) h = cc
sayable (say.OnInterface call device interface) h = cc

no_cause : (o : Option Cause) → is_none o ≡ true → o ≡ None
no_cause None h = refl
no_cause (Some c) h = cc

-- whether statements after line n may come one after another
abbrev pub pass : SoFar → ℕ → List Statement → Bool
pass s n [] = true
pass s n (x ∷ xs) =
    is_sayable x && (may_stand s.scene (keyword_said x) && (is_none (statement_cause s x) && pass (grown_by s (n + 1) x) (n + 1) xs))

-- what is said after them
abbrev pub grown_by_all : SoFar → ℕ → List Statement → SoFar
grown_by_all s n [] = s
grown_by_all s n (x ∷ xs) = grown_by_all (grown_by s (n + 1) x) (n + 1) xs

pub passed : (s : SoFar) (n : ℕ) (xs ys : List Statement) (last : Scene) → pass s n xs ≡ true
    → AllowedInTurn (grown_by_all s n xs) (n + length xs) ys last → AllowedInTurn s n (xs ++ ys) last
passed s n [] ys last h rest = let e : n + 0 ≡ n = omega arith in subst (λ m. AllowedInTurn s m ys last) e rest
passed s n (x ∷ xs) ys last h rest =
    let a = and_parts (is_sayable x) _ h in
    let b = and_parts (may_stand s.scene (keyword_said x)) _ a.1 in
    let c = and_parts (is_none (statement_cause s x)) (pass (grown_by s (n + 1) x) (n + 1) xs) b.1 in
    let here : IsAllowed s x = record { sayable = sayable x a.0; place = b.0; no_cause = no_cause (statement_cause s x) c.0 } in
    let t = grown_by_all (grown_by s (n + 1) x) (n + 1) xs in
    let e : n + length (x ∷ xs) ≡ (n + 1) + length xs = omega arith in
    (here, passed (grown_by s (n + 1) x) (n + 1) xs ys last c.1 (subst (λ m. AllowedInTurn t m ys last) e rest))
