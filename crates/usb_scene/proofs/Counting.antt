-- What a map of counts finds, and what it finds after a new count.
use Rattle.std.proofs.Common.{◌≡◌, ℕ, Bool, true, false, cond, eqb, List, [], ◌∷◌, Option, Some, refl, sym, ap, ◌∙◌}
use Rattle.std.specs.Prelude.{◌&&◌, unwrap_or}
use Rattle.std.specs.HashMap.{HashMap, get_by, UpdatesBy}
use Rattle.std.specs.Map.{lookup}
use Rattle.std.proofs.Math.Bool.{and_assoc}
use Rattle.std.proofs.lemmas.Cmp.{nat_eq_equiv}
use Rattle.usb_types.specs.declared.urb.Role.{Role}
use Rattle.usb_types.specs.declared.urb.Role.TheVariants as role
use Rattle.usb_types.specs.contracts.urb.RolePartialEq.TheImpl as role_test
use Rattle.usb_scene.specs.declared.scene.Target.{Target}
use Rattle.usb_scene.specs.declared.scene.Target.TheVariants as target
use Rattle.usb_scene.specs.contracts.scene.TargetPartialEq.TheImpl.{eq-value}
use Rattle.usb_scene.specs.WellFormed.{role_number, is_on}
use Rattle.usb_scene.specs.Counts.{count_in}

each_role : (P : Role → Type 0) → P role.In → P role.Note → P role.Read0 → P role.Read1 → P role.Write → P role.Ctl → (r : Role) → P r
each_role P a b c d e f role.In = a
each_role P a b c d e f role.Note = b
each_role P a b c d e f role.Read0 = c
each_role P a b c d e f role.Read1 = d
each_role P a b c d e f role.Write = e
each_role P a b c d e f role.Ctl = f

-- `==` of two roles compares their numbers
abbrev AgreeAt : Role → Role → Type 0
AgreeAt q r = role_test.eq-value.it q r ≡ eqb (role_number r) (role_number q)

roles_agree : (q r : Role) → AgreeAt q r
roles_agree =
    each_role (λ q. (r : Role) → AgreeAt q r)
    (each_role (AgreeAt role.In) refl refl refl refl refl refl)
    (each_role (AgreeAt role.Note) refl refl refl refl refl refl)
    (each_role (AgreeAt role.Read0) refl refl refl refl refl refl)
    (each_role (AgreeAt role.Read1) refl refl refl refl refl refl)
    (each_role (AgreeAt role.Write) refl refl refl refl refl refl)
    (each_role (AgreeAt role.Ctl) refl refl refl refl refl refl)

turned : (a b : ℕ) → eqb a b ≡ eqb b a
turned a b = nat_eq_equiv.symm a b

parts_agree : (d e i j : ℕ) (t s : Bool) → t ≡ s → (eqb d e && (eqb i j && t)) ≡ (eqb e d && eqb j i && s)
parts_agree d e i j t s h =
    sym (and_assoc (eqb d e) (eqb i j) t)
    ∙ ap (λ x. x && eqb i j && t) (turned d e)
    ∙ ap (λ x. eqb e d && x && t) (turned i j)
    ∙ ap (λ x. eqb e d && eqb j i && x) h

-- `==` of two targets is that of the contracts
agree : (u v : Target) → eq-value.it u v ≡ is_on u v
agree (target.Urb u) (target.Urb v) = turned u v
agree (target.Role d i q) (target.Role e j r) = parts_agree d e i j (role_test.eq-value.it q r) (eqb (role_number r) (role_number q)) (roles_agree q r)
agree (target.Interface d i) (target.Interface e j) = ap (λ x. x && eqb i j) (turned d e) ∙ ap (λ x. eqb e d && x) (turned i j)
agree (target.Anchor a) (target.Anchor b) = turned a b
agree (target.Device d) (target.Device e) = turned d e
agree target.Nothing target.Nothing = refl
agree _ _ = refl

lookup_same : {X : Type 0} (p q : Target → Bool) (es : List (Target × X)) → ((k : Target) → p k ≡ q k) → lookup p es ≡ lookup q es
lookup_same p q [] same = refl
lookup_same p q (e ∷ es) same = ap (λ t. cond t (Some e.1) (lookup p es)) (same e.0) ∙ ap (λ o. cond (q e.0) (Some e.1) o) (lookup_same p q es same)

get_same : {S : Type 0} (m : HashMap Target ℕ S) (urb : Target) → get_by (eq-value.it urb) m ≡ get_by (λ key. is_on urb key) m
get_same m urb = lookup_same (eq-value.it urb) (λ key. is_on urb key) m.entries (agree urb)

-- the count that is found, or none
pub count_found : {S : Type 0} (m : HashMap Target ℕ S) (urb : Target) (o : Option ℕ) → o ≡ get_by (eq-value.it urb) m → unwrap_or o 0 ≡ count_in m urb
count_found m urb o h = ap (λ c. unwrap_or c 0) (h ∙ get_same m urb)

-- a map with a new count
pub count_more : {S : Type 0} (m n : HashMap Target ℕ S) (urb : Target) (count : ℕ) → UpdatesBy eq-value.it (eq-value.it urb) m n (Some count)
    → (other : Target) → count_in n other ≡ cond (is_on urb other) count (count_in m other)
count_more m n urb count h other =
    ap (λ c. unwrap_or c 0) (sym (get_same n other) ∙ h.0 other ∙ ap (λ t. cond t (Some count) (get_by (eq-value.it other) m)) (agree urb other)
    ∙ ap (λ o. cond (is_on urb other) (Some count) o) (get_same m other))
    ∙ unwrapped (is_on urb other) (get_by (λ key. is_on other key) m)
  where
    unwrapped : (t : Bool) (o : Option ℕ) → unwrap_or (cond t (Some count) o) 0 ≡ cond t count (unwrap_or o 0)
    unwrapped true o = refl
    unwrapped false o = refl
