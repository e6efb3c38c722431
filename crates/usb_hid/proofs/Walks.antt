-- What a keyboard's events say of one key: it goes down and up in turn, and ends as the reports say.
use Rattle.std.proofs.Common.{◌≡◌, ℕ, Bool, true, false, not, List, [], ◌∷◌, ◌++◌, map, refl, sym, ap, ◌∙◌, subst}
use Rattle.std.specs.Prelude.{◌==◌, ◌&&◌, ◌||◌, filter, Option, Some, None, if◌then◌else◌}
use Rattle.std.proofs.lemmas.List.Elements.{filter_map-append}
use Rattle.usb_types.specs.declared.errno.Code.{Code}
use Rattle.usb_types.specs.declared.errno.Code.TheVariants.{Zero, Fault}
use Rattle.usb_types.specs.declared.urb.Role.{Role}
use Rattle.usb_types.specs.declared.urb.Role.TheVariants.{In, Note, Read0, Read1, Write, Ctl}
use Rattle.usb_hid.specs.declared.event.Event.{Event}
use Rattle.usb_hid.specs.Reports.{has, is_key, modifiers_of, codes_of, is_roll_over, modifier_bits, modifier_key}
use Rattle.usb_hid.specs.Changes.{modifier_changes, code_changes}
use Rattle.usb_hid.specs.Keys.{last_of, report_events, light_events}
use Rattle.usb_hid.specs.Down.{said_of, modifier_keys}
use Rattle.usb_hid.proofs.Traces.{trace, toggle, codes_said, filtered_has}
use Rattle.usb_hid.proofs.Bits.{modifiers_said, others_are_up}

-- from down or not, each thing said is the other of the one before, and the last one is where it ends
abbrev pub Walks : Bool → List Bool → Bool → Type 0
Walks from [] to = from ≡ to
Walks from (x ∷ xs) to = (x ≡ not from) × Walks x xs to

pub walks_on : (a : Bool) (xs : List Bool) (b : Bool) (ys : List Bool) (c : Bool) → Walks a xs b → Walks b ys c → Walks a (xs ++ ys) c
walks_on a [] b ys c e w = let P : Bool → Type 0 = λ x. Walks x ys c in subst P (sym e) w
walks_on a (x ∷ xs) b ys c v w = (v.0, walks_on x xs b ys c v.1 w)

pub toggle_walks : (a b : Bool) → Walks a (toggle a b) b
toggle_walks true true = refl
toggle_walks true false = (refl, refl)
toggle_walks false true = (refl, refl)
toggle_walks false false = refl

pub walk_ends : (a : Bool) (xs : List Bool) (b : Bool) → Walks a xs b → last_of a xs ≡ b
walk_ends a [] b e = e
walk_ends a (x ∷ xs) b w = walk_ends x xs b w.1

pub walk_turns : (a : Bool) (xs : List Bool) (x : Bool) (ys : List Bool) (b : Bool) → Walks a (xs ++ x ∷ ys) b → x ≡ not (last_of a xs)
walk_turns a [] x ys b w = w.0
walk_turns a (z ∷ xs) x ys b w = walk_turns z xs x ys b w.1

-- whether the key stands
abbrev pub held : ℕ → ℕ → List ℕ → Bool
held key modifiers codes = has (modifier_keys modifiers ++ filter is_key codes) key

has-append : (xs ys : List ℕ) (key : ℕ) → has (xs ++ ys) key ≡ (has xs key || has ys key)
has-append [] ys key = refl
has-append (x ∷ xs) ys key = go (x == key) (has-append xs ys key)
  where
    go : (b : Bool) → has (xs ++ ys) key ≡ (has xs key || has ys key) → (b || has (xs ++ ys) key) ≡ ((b || has xs key) || has ys key)
    go true h = refl
    go false h = h

-- the key is a modifier's alone, or a code's alone
abbrev pub IsAlone : ℕ → List ℕ → Type 0
IsAlone key codes = (has (map modifier_key modifier_bits) key && has codes key) ≡ false

of_codes : (p q c d h k : Bool) → p ≡ false → q ≡ false → h ≡ (p || c) → k ≡ (q || d) → toggle p q ++ toggle c d ≡ toggle h k
of_codes p q c d h k np nq eh ek = rw (eh, ek, np, nq) refl

of_modifiers : (p q c d h k : Bool) → c ≡ false → d ≡ false → h ≡ (p || c) → k ≡ (q || d) → toggle p q ++ toggle c d ≡ toggle h k
of_modifiers p q c d h k nc nd eh ek = rw (eh, ek, nc, nd) (go p q)
  where
    go : (p q : Bool) → toggle p q ++ [] ≡ toggle (p || false) (q || false)
    go true true = refl
    go true false = refl
    go false true = refl
    go false false = refl

no_code : (key : ℕ) (codes : List ℕ) → has (map modifier_key modifier_bits) key ≡ true → IsAlone key codes → has (filter is_key codes) key ≡ false
no_code key codes e o = filtered_has is_key codes key ∙ go (is_key key) (has codes key) (has (map modifier_key modifier_bits) key) e o
  where
    go : (k c m : Bool) → m ≡ true → (m && c) ≡ false → (k && c) ≡ false
    go false c m e o = refl
    go true c true e o = o
    go true c false e o = absurd cc

joined : (key m n : ℕ) (old new : List ℕ) → IsAlone key old → IsAlone key new
    → toggle (has (modifier_keys m) key) (has (modifier_keys n) key) ++ toggle (has (filter is_key old) key) (has (filter is_key new) key) ≡ toggle (held key m old) (held key n new)
joined key m n old new o w = go (has (map modifier_key modifier_bits) key) refl
  where
    go : (b : Bool) → has (map modifier_key modifier_bits) key ≡ b
        → toggle (has (modifier_keys m) key) (has (modifier_keys n) key) ++ toggle (has (filter is_key old) key) (has (filter is_key new) key) ≡ toggle (held key m old) (held key n new)
    go false e = of_codes _ _ _ _ _ _ (others_are_up key m modifier_bits e) (others_are_up key n modifier_bits e) (has-append (modifier_keys m) (filter is_key old) key) (has-append (modifier_keys n) (filter is_key new) key)
    go true e = of_modifiers _ _ _ _ _ _ (no_code key old e o) (no_code key new e w) (has-append (modifier_keys m) (filter is_key old) key) (has-append (modifier_keys n) (filter is_key new) key)

-- where the key stands alone, the changes of a report toggle it
told_alone : (key m n : ℕ) (old new : List ℕ) → IsAlone key old → IsAlone key new → is_roll_over new ≡ false
    → trace key (modifier_changes m n ++ code_changes old new) ≡ toggle (held key m old) (held key n new)
told_alone key m n old new o w r =
    filter_map-append (said_of key) (modifier_changes m n) (code_changes old new)
    ∙ ap (λ (xs : List Bool). xs ++ trace key (code_changes old new)) (modifiers_said key m n)
    ∙ ap (λ (xs : List Bool). toggle (has (modifier_keys m) key) (has (modifier_keys n) key) ++ xs) (codes_said key old new r)
    ∙ joined key m n old new o w

toggle_same : (b : Bool) → [] ≡ toggle b b
toggle_same true = refl
toggle_same false = refl

nothing_rolled : (old new : List ℕ) → is_roll_over new ≡ true → code_changes old new ≡ []
nothing_rolled old new r = rw r refl

-- a roll-over toggles the modifiers alone
told_rolled : (key m n : ℕ) (old new : List ℕ) → IsAlone key old → is_roll_over new ≡ true
    → trace key (modifier_changes m n ++ code_changes old new) ≡ toggle (held key m old) (held key n old)
told_rolled key m n old new o r =
    filter_map-append (said_of key) (modifier_changes m n) (code_changes old new)
    ∙ ap (λ (xs : List Bool). xs ++ trace key (code_changes old new)) (modifiers_said key m n)
    ∙ ap (λ (es : List Event). toggle (has (modifier_keys m) key) (has (modifier_keys n) key) ++ trace key es) (nothing_rolled old new r)
    ∙ ap (λ (xs : List Bool). toggle (has (modifier_keys m) key) (has (modifier_keys n) key) ++ xs) (toggle_same (has (filter is_key old) key))
    ∙ joined key m n old old o o

-- lights say nothing of keys
pub lights_say_nothing : (key : ℕ) (role : Role) (status : Code) (moved : List ℕ) → trace key (light_events role status moved) ≡ []
lights_say_nothing key Ctl Zero [] = refl
lights_say_nothing key Ctl Zero (x ∷ moved) = refl
lights_say_nothing key Ctl (Fault e) moved = refl
lights_say_nothing key In status moved = refl
lights_say_nothing key Note status moved = refl
lights_say_nothing key Read0 status moved = refl
lights_say_nothing key Read1 status moved = refl
lights_say_nothing key Write status moved = refl

-- what a report, or none, leaves standing
abbrev pub next_modifiers : ℕ → Option (List ℕ) → ℕ
next_modifiers m None = m
next_modifiers m (Some report) = modifiers_of report

abbrev pub next_codes : List ℕ → Option (List ℕ) → List ℕ
next_codes codes None = codes
next_codes codes (Some report) = if is_roll_over (codes_of report) then codes else codes_of report

abbrev pub ReportIsAlone : ℕ → Option (List ℕ) → Type 0
ReportIsAlone key None = Unit {0}
ReportIsAlone key (Some report) = IsAlone key (codes_of report)

pub report_toggles : (key m : ℕ) (codes : List ℕ) (r : Option (List ℕ)) → IsAlone key codes → ReportIsAlone key r
    → trace key (report_events m codes r) ≡ toggle (held key m codes) (held key (next_modifiers m r) (next_codes codes r))
report_toggles key m codes None o w = toggle_same (held key m codes)
report_toggles key m codes (Some report) o w = go (is_roll_over (codes_of report)) refl
  where
    go : (b : Bool) → is_roll_over (codes_of report) ≡ b
        → trace key (modifier_changes m (modifiers_of report) ++ code_changes codes (codes_of report)) ≡ toggle (held key m codes) (held key (modifiers_of report) (next_codes codes (Some report)))
    go true e = told_rolled key m (modifiers_of report) codes (codes_of report) o e ∙ ap (λ (cs : List ℕ). toggle (held key m codes) (held key (modifiers_of report) cs)) (rolled e)
      where
        rolled : is_roll_over (codes_of report) ≡ true → codes ≡ next_codes codes (Some report)
        rolled e = rw e refl
    go false e = told_alone key m (modifiers_of report) codes (codes_of report) o w e ∙ ap (λ (cs : List ℕ). toggle (held key m codes) (held key (modifiers_of report) cs)) (plain e)
      where
        plain : is_roll_over (codes_of report) ≡ false → codes_of report ≡ next_codes codes (Some report)
        plain e = rw e refl
