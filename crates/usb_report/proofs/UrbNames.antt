-- An URB of a driver has the name of its role.
use Rattle.std.proofs.Common.{ℕ, zero, suc, ◌≡◌, Bool, true, false, cond, eqb, Option, Some, None, List, [], ◌∷◌, refl, sym, ap, ◌∙◌, subst, arith, rules}
use Rattle.std.specs.Prelude.{slice_get, find, option_and_then, option_map}
use Rattle.std.specs.Option.{option_map_or}
use Rattle.std.proofs.lemmas.Option.{slice_get_past}
use Rattle.std.proofs.lemmas.Bool.{and_parts, eqb-true}
use Rattle.usb_types.specs.declared.urb.Role.{Role}
use Rattle.usb_types.specs.declared.urb.Role.TheVariants.{In, Note, Read0, Read1, Write, Ctl}
use Rattle.usb_types.specs.declared.urb.UrbId.{UrbId}
use Rattle.usb_bind.specs.declared.bound.Bound.{Bound}
use Rattle.usb_bind.specs.Board.{is_binding_of, urb_of_role}
use Rattle.usb_scene.specs.declared.scene.Scene.{Scene}
use Rattle.usb_scene.specs.declared.scene.SceneUrb.{SceneUrb}
use Rattle.usb_scene.specs.WellFormed.{IsWellFormed}
use Rattle.usb_prepare.specs.Prepared.{bindings_of}
use Rattle.usb_prepare.specs.Layout.{role_urb}
use Rattle.usb_prepare.proofs.Facts.{role_near, urb_once}
use Rattle.usb_class.specs.Roles.{all_roles, has_for, role_in}
use Rattle.usb_report.specs.Names.{role_name, bound_name, urb_name}

abbrev id : ℕ → UrbId
id u = record { 0 = u }

-- what is found passes the test, and something is found where one passes
module _ {X : Type 0} (p : X → Bool) where
  passes : (xs : List X) (x : X) → find p xs ≡ Some x → p x ≡ true
  passes [] x is = cc
  passes (y ∷ xs) x is = go (p y) refl is (passes xs x)
    where
      go : (b : Bool) → p y ≡ b → cond b (Some y) (find p xs) ≡ Some x → (find p xs ≡ Some x → p x ≡ true) → p x ≡ true
      go true e f rest = let same : y ≡ x = cc in subst (λ z. p z ≡ true) same e
      go false e f rest = rest f

  finds : (xs : List X) (k : ℕ) (x : X) → slice_get xs k ≡ Some x → p x ≡ true → (y : X) × (find p xs ≡ Some y)
  finds [] k x at good = cc
  finds (y ∷ xs) k x at good = go (p y) refl k at (λ j at. finds xs j x at good)
    where
      behind : p y ≡ false → (k : ℕ) → slice_get (y ∷ xs) k ≡ Some x → ((j : ℕ) → slice_get xs j ≡ Some x → (z : X) × (find p xs ≡ Some z)) → (z : X) × (find p xs ≡ Some z)
      behind e zero at rest = let same : y ≡ x = cc in let passed : p y ≡ true = subst (λ z. p z ≡ true) (sym same) good in absurd cc
      behind e (suc k) at rest = rest k at

      go : (b : Bool) → p y ≡ b → (k : ℕ) → slice_get (y ∷ xs) k ≡ Some x → ((j : ℕ) → slice_get xs j ≡ Some x → (z : X) × (find p xs ≡ Some z)) → (z : X) × (cond b (Some y) (find p xs) ≡ Some z)
      go true e k at rest = (y, refl)
      go false e k at rest = behind e k at rest

place_of : (r : Role) → (k : ℕ) × (slice_get all_roles k ≡ Some r)
place_of In = (0, refl)
place_of Note = (1, refl)
place_of Read0 = (2, refl)
place_of Read1 = (3, refl)
place_of Write = (4, refl)
place_of Ctl = (5, refl)

-- a binding that has an URB for a purpose has it for the one that is reported
has_it : (u : ℕ) (b : Bound) (r : Role) → urb_of_role b r ≡ Some (id u) → has_for u b r ≡ true
has_it u b r is = ap (λ o. option_map_or (λ (urb : UrbId). eqb urb.0 u) o false) is ∙ same u
  where
    same : (n : ℕ) → eqb n n ≡ true
    same n = search rules

it_has : (u : ℕ) (o : Option UrbId) → option_map_or (λ (urb : UrbId). eqb urb.0 u) o false ≡ true → o ≡ Some (id u)
it_has u None is = cc
it_has u (Some v) is = let number = eqb-true v.0 u is in ap (λ n. Some (id n)) number

told : (u : ℕ) (b : Bound) (r : Role) → role_in u b ≡ Some r → urb_of_role b r ≡ Some (id u)
told u b r is = it_has u (urb_of_role b r) (passes (has_for u b) all_roles r is)

tells : (u : ℕ) (b : Bound) (r : Role) → urb_of_role b r ≡ Some (id u) → (q : Role) × (role_in u b ≡ Some q)
tells u b r is = let at = place_of r in finds (has_for u b) all_roles at.0 r at.1 (has_it u b r is)

-- no two purposes of bindings have one URB
Once : List Bound → Type 0
Once bindings = (i j : ℕ) (b c : Bound) (r q : Role) (u : UrbId) → slice_get bindings i ≡ Some b → slice_get bindings j ≡ Some c
    → urb_of_role b r ≡ Some u → urb_of_role c q ≡ Some u → (i ≡ j) × (r ≡ q)

once_after : (b : Bound) (bindings : List Bound) → Once (b ∷ bindings) → Once bindings
unfolding Once
once_after b bindings once i j c d r q u at there has too = let one = once (suc i) (suc j) c d r q u at there has too in (omega arith, one.1)

numbered_id : (o : Option UrbId) (u : ℕ) → option_map (λ (v : UrbId). v.0) o ≡ Some u → o ≡ Some (id u)
numbered_id None u is = cc
numbered_id (Some v) u is = let number : v.0 ≡ u = cc in ap (λ n. Some (id n)) number

module _ (s : Scene) (d interface u : ℕ) (r : Role) where
  asked : List Bound → Option UrbId
  asked bindings = option_and_then (λ b. urb_of_role b r) (find (is_binding_of d interface) bindings)

  -- a binding has the URB
  holder : (bindings : List Bound) → asked bindings ≡ Some (id u) → (j : ℕ) × (c : Bound) × (slice_get bindings j ≡ Some c) × (urb_of_role c r ≡ Some (id u))
  unfolding asked
  holder [] is = cc
  holder (b ∷ bindings) is = go (is_binding_of d interface b) refl is (holder bindings)
    where
      go : (t : Bool) → is_binding_of d interface b ≡ t → option_and_then (λ b. urb_of_role b r) (cond t (Some b) (find (is_binding_of d interface) bindings)) ≡ Some (id u)
          → (asked bindings ≡ Some (id u) → (j : ℕ) × (c : Bound) × (slice_get bindings j ≡ Some c) × (urb_of_role c r ≡ Some (id u)))
          → (j : ℕ) × (c : Bound) × (slice_get (b ∷ bindings) j ≡ Some c) × (urb_of_role c r ≡ Some (id u))
      go true e is rest = (0, b, refl, is)
      go false e is rest = let there = rest is in (suc there.0, there.1, there.2, there.3)

  name : (bindings : List Bound) → Once bindings → asked bindings ≡ Some (id u) → bound_name s u bindings ≡ role_name s d interface r
  unfolding asked Once
  name [] once is = cc
  name (b ∷ bindings) once is = go (is_binding_of d interface b) refl is (name bindings (once_after b bindings once))
    where
      here : urb_of_role b r ≡ Some (id u) → is_binding_of d interface b ≡ true → bound_name s u (b ∷ bindings) ≡ role_name s d interface r
      here has e =
          let q = tells u b r has in
          let each = and_parts (eqb b.device d) (eqb b.interface interface) e in
          let device = eqb-true b.device d each.0 in
          let face = eqb-true b.interface interface each.1 in
          let one = once 0 0 b b q.0 r (id u) refl refl (told u b q.0 q.1) has in
          ap (λ o. option_map_or (role_name s b.device b.interface) o (bound_name s u bindings)) q.1 ∙ (λ k. role_name s (device k) (face k) (one.1 k))

      pass : (o : Option Role) → role_in u b ≡ o → asked bindings ≡ Some (id u) → (asked bindings ≡ Some (id u) → bound_name s u bindings ≡ role_name s d interface r)
          → option_map_or (role_name s b.device b.interface) o (bound_name s u bindings) ≡ role_name s d interface r
      pass None e is rest = rest is
      pass (Some q) e is rest =
          let other = holder bindings is in
          let one = once 0 (suc other.0) b other.1 q r (id u) refl other.2 (told u b q e) other.3 in
          let never : zero ≡ suc other.0 = one.0 in absurd (omega arith)

      go : (t : Bool) → is_binding_of d interface b ≡ t → option_and_then (λ b. urb_of_role b r) (cond t (Some b) (find (is_binding_of d interface) bindings)) ≡ Some (id u)
          → (asked bindings ≡ Some (id u) → bound_name s u bindings ≡ role_name s d interface r) → bound_name s u (b ∷ bindings) ≡ role_name s d interface r
      go true e is rest = here is e
      go false e is rest = pass (role_in u b) refl is rest

  pub role_named : IsWellFormed s → role_urb s d interface r ≡ Some u → urb_name s (bindings_of s) u ≡ role_name s d interface r
  unfolding asked Once role_urb urb_name
  role_named good is =
      let near = role_near s good d interface u r is in
      let none = slice_get_past s.urbs u near.0 in
      let due = numbered_id (asked (bindings_of s)) u is in
      ap (λ o. option_map_or (λ (urb : SceneUrb). urb.name) o (bound_name s u (bindings_of s))) none ∙ name (bindings_of s) (urb_once s good) due
