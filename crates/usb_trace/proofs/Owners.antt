-- Which driver has an URB, and where that URB's home is.
use Rattle.std.proofs.Common.{ℕ, suc, ◌≡◌, ◌≢◌, ◌+◌, ◌<◌, ◌≤◌, true, false, Option, Some, None, List, [], ◌∷◌, length, get_or, drop, refl, sym, ap, ◌∙◌, subst, arith, add-zero, zero-add}
use Rattle.std.specs.Prelude.{slice_get}
use Rattle.std.specs.Option.{option_map_or}
use Rattle.std.proofs.lemmas.List.{at_drop_more, at_drop_all}
use Rattle.usb_types.specs.declared.urb.Role.{Role}
use Rattle.usb_types.specs.declared.urb.Role.TheVariants.{Ctl}
use Rattle.usb_machine.specs.declared.layout.EndKind.TheVariants.{Control}
use Rattle.usb_xfer.specs.Direction.{goes_in}
use Rattle.usb_bind.specs.declared.row.Driver.TheVariants.{Keyboard}
use Rattle.usb_bind.specs.declared.bound.Bound.{Bound}
use Rattle.usb_bind.specs.Board.{BoardValue, urb_of_role}
use Rattle.usb_class.specs.Roles.{role_in, kept_size}
use Rattle.usb_class.proofs.Facts.{role_has, kept_few}
use Rattle.usb_scene.specs.declared.scene.Scene.{Scene}
use Rattle.usb_scene.specs.WellFormed.{IsWellFormed}
use Rattle.usb_prepare.specs.Ends.{shape_at, is_raw_at}
use Rattle.usb_prepare.specs.Prepared.{probes_of, bindings_of}
use Rattle.usb_prepare.specs.Layout.{urb_count, home}
use Rattle.usb_prepare.proofs.Facts.{brings}
use Rattle.usb_prepare.proofs.Facts as facts
use Rattle.usb_class.specs.declared.owner.Owner.{Owner}
use Rattle.usb_trace.specs.Plan.{owner_from, owner_of}

-- what an index past the end of the bindings gives
abbrev pub no_bound : Bound
no_bound = record { driver = Keyboard; device = 0; interface = 0; other = None; urbs = [] }

abbrev pub owner_at : BoardValue → ℕ → Bound → Role → Option Owner
owner_at board k b role = Some (record { place = k; driver = b.driver; role = role; size = kept_size board b role; ctl = urb_of_role b Ctl })

-- the owner's binding is one of these, and has the URB for the owner's role
abbrev IsIn : BoardValue → ℕ → List Bound → ℕ → Owner → Type 0
IsIn board k bindings u o =
    (j : ℕ) × (b : Bound) × (o.place ≡ k + j) × (slice_get bindings j ≡ Some b) × (b.driver ≡ o.driver) × (role_in u b ≡ Some o.role) × (o.size ≡ kept_size board b o.role)
    × (o.ctl ≡ urb_of_role b Ctl)

bound_of : (board : BoardValue) (k : ℕ) (bindings : List Bound) (u : ℕ) (o : Owner) → owner_from board k bindings u ≡ Some o → IsIn board k bindings u o
bound_of board k [] u o is = cc
bound_of board k (b ∷ bindings) u o is = go (role_in u b) refl is (bound_of board (k + 1) bindings u o)
  where
    go : (r : Option Role) → role_in u b ≡ r → option_map_or (owner_at board k b) r (owner_from board (k + 1) bindings u) ≡ Some o
        → (owner_from board (k + 1) bindings u ≡ Some o → IsIn board (k + 1) bindings u o) → IsIn board k (b ∷ bindings) u o
    go None e f rest =
        let is = rest f in
        let place = is.2 in
        (suc is.0, is.1, omega arith, is.3, is.4, is.5, is.6, is.7)
    go (Some role) e f rest =
        let same : record { place = k; driver = b.driver; role = role; size = kept_size board b role; ctl = urb_of_role b Ctl } ≡ o = cc in (
          0,
          b,
          sym (ap (λ (x : Owner). x.place) same) ∙ sym (add-zero k),
          refl,
          ap (λ (x : Owner). x.driver) same,
          e ∙ ap (λ (x : Owner). Some x.role) same,
          sym (ap (λ (x : Owner). x.size) same) ∙ ap (λ (x : Owner). kept_size board b x.role) same,
          sym (ap (λ (x : Owner). x.ctl) same),
        )

-- the owner is looked for in the bindings one after another
pub owner_is : (s : Scene) (board : BoardValue) (u : ℕ) → board ≡ (probes_of s).board → owner_of s u ≡ owner_from board 0 board.bindings u
unfolding owner_of
owner_is s board u is = ap (λ (x : BoardValue). owner_from x 0 x.bindings u) (sym is)

pub owner_here : (board : BoardValue) (bindings : List Bound) (u k : ℕ) (d : Bound) (r : Option Role) → k < length bindings → r ≡ role_in u (get_or bindings k d)
    → owner_from board k (drop k bindings) u ≡ option_map_or (owner_at board k (get_or bindings k d)) r (owner_from board (k + 1) (drop (k + 1) bindings) u)
owner_here board bindings u k d r near is = at_drop_more (λ l. owner_from board k l u) bindings k d near
    ∙ ap (λ (o : Option Role). option_map_or (owner_at board k (get_or bindings k d)) o (owner_from board (k + 1) (drop (k + 1) bindings) u)) (sym is)

pub owner_none : (board : BoardValue) (bindings : List Bound) (u k : ℕ) → length bindings ≤ k → owner_from board k (drop k bindings) u ≡ None
owner_none board bindings u k all = at_drop_all (λ l. owner_from board k l u) bindings k all

-- the owner has its own binding
owner_in_board : (s : Scene) (u : ℕ) (o : Owner) → owner_of s u ≡ Some o → IsIn (probes_of s).board 0 (bindings_of s) u o
unfolding owner_of
owner_in_board s u o is = bound_of (probes_of s).board 0 (bindings_of s) u o is

pub owner_bound : (s : Scene) (u : ℕ) (o : Owner) → owner_of s u ≡ Some o → (b : Bound) × (slice_get (bindings_of s) o.place ≡ Some b) × (b.driver ≡ o.driver) × (role_in u b ≡ Some o.role)
owner_bound s u o is =
    let of = owner_in_board s u o is in
    (of.1, ap (slice_get (bindings_of s)) (of.2 ∙ zero-add of.0) ∙ of.3, of.4, of.5)

-- and the driver's URB for control transfers is that binding's
pub owner_ctl : (s : Scene) (u : ℕ) (o : Owner) (is : owner_of s u ≡ Some o) → o.ctl ≡ urb_of_role (owner_bound s u o is).0 Ctl
unfolding owner_bound
owner_ctl s u o is = (owner_in_board s u o is).7

-- a read that a driver keeps is short
pub owner_size : (s : Scene) (u : ℕ) (o : Owner) (n : ℕ) → owner_of s u ≡ Some o → o.size ≡ Some n → n < 4096
owner_size s u o n is size = let of = owner_in_board s u o is in kept_few (probes_of s).board of.1 o.role n (sym of.6 ∙ size)

-- which URB of the binding it is
pub owner_urb : (s : Scene) (u : ℕ) (o : Owner) (is : owner_of s u ≡ Some o) → urb_of_role (owner_bound s u o is).0 o.role ≡ Some (record { 0 = u })
owner_urb s u o is = let b = owner_bound s u o is in role_has u b.0 o.role b.3

module _ (s : Scene) (good : IsWellFormed s) where
  -- drivers' URBs stand after the scene's own
  pub owner_after : (u : ℕ) (o : Owner) → owner_of s u ≡ Some o → length s.urbs ≤ u
  owner_after u o is = let b = owner_bound s u o is in (facts.bound_near s good o.place b.0 o.role (record { 0 = u }) b.1 (owner_urb s u o is)).0

  pub owner_near : (u : ℕ) (o : Owner) → owner_of s u ≡ Some o → u < urb_count s
  owner_near u o is = let b = owner_bound s u o is in (facts.bound_near s good o.place b.0 o.role (record { 0 = u }) b.1 (owner_urb s u o is)).1

  pub own_unowned : (u : ℕ) → u < length s.urbs → owner_of s u ≡ None
  own_unowned u near = go (owner_of s u) refl
    where
      go : (o : Option Owner) → owner_of s u ≡ o → o ≡ None
      go None e = refl
      go (Some o) e = let behind = owner_after u o e in absurd (omega arith)

  -- the home of an URB of a driver: control transfers have endpoint 00, and the others another one, at an address that says
  -- whether data come in
  pub owner_end : (u : ℕ) (o : Owner) → owner_of s u ≡ Some o → o.role ≢ Ctl
      → ((shape_at s (home s u)).address ≢ 0) × (is_raw_at s (shape_at s (home s u)).device ≡ false) × (brings o.role ≡ true → goes_in (shape_at s (home s u)).address ≡ true)
  owner_end u o is off =
      let b = owner_bound s u o is in
      let has = owner_urb s u o is in
      let home = facts.bound_home_other s good o.place b.0 o.role (record { 0 = u }) b.1 has off in
      (home.1, ap (is_raw_at s) home.0 ∙ facts.bound_not_raw s good o.place b.0 o.role (record { 0 = u }) b.1 has, facts.bound_home_in s good o.place b.0 o.role (record { 0 = u }) b.1 has off)

  pub owner_end_ctl : (u : ℕ) (o : Owner) → owner_of s u ≡ Some o → o.role ≡ Ctl
      → ((shape_at s (home s u)).address ≡ 0) × (is_raw_at s (shape_at s (home s u)).device ≡ false) × ((shape_at s (home s u)).kind ≡ Control)
  owner_end_ctl u o is ctl =
      let b = owner_bound s u o is in
      let has = owner_urb s u o is in
      let home = facts.bound_home_ctl s good o.place b.0 (record { 0 = u }) b.1 (subst (λ r. urb_of_role b.0 r ≡ Some (record { 0 = u })) ctl has) in
      (home.1, ap (is_raw_at s) home.0 ∙ facts.bound_not_raw s good o.place b.0 o.role (record { 0 = u }) b.1 has, home.2)
