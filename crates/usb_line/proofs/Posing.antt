-- The question that a printer's driver asks after a job: the URB that it is asked with, and what that URB may have.
use Rattle.std.proofs.Common.{ℕ, zero, suc, ◌≡◌, ◌≢◌, ◌+◌, ◌<◌, Bool, true, false, cond, eqb, Option, Some, None, List, [], ◌∷◌, refl, sym, ap, ◌∙◌, arith, true≢false}
use Rattle.std.specs.Prelude.{slice_get, find}
use Rattle.std.specs.Option.{option_map_or}
use Rattle.usb_types.specs.declared.urb.Role.{Role}
use Rattle.usb_types.specs.declared.urb.Role.TheVariants.{Ctl}
use Rattle.usb_types.specs.declared.urb.UrbId.{UrbId}
use Rattle.usb_machine.specs.declared.transfer.Transfer.{Transfer}
use Rattle.usb_bind.specs.declared.row.Driver.TheVariants.{Printer}
use Rattle.usb_bind.specs.declared.bound.Bound.{Bound}
use Rattle.usb_bind.specs.Board.{BoardValue, urb_of_role}
use Rattle.usb_class.specs.Questions.{question_by}
use Rattle.usb_class.specs.Handler.{is_ctl}
use Rattle.usb_class.specs.Roles.{all_roles, has_for, role_in}
use Rattle.usb_class.proofs.Facts.{role_has, IsAskable, question_askable}
use Rattle.usb_scene.specs.declared.scene.Scene.{Scene}
use Rattle.usb_scene.specs.WellFormed.{IsWellFormed}
use Rattle.usb_prepare.specs.Prepared.{probes_of, bindings_of}
use Rattle.usb_prepare.specs.Layout.{urb_count}
use Rattle.usb_prepare.proofs.Facts.{bound_near, urb_once}
use Rattle.usb_class.specs.declared.owner.Owner.{Owner}
use Rattle.usb_trace.specs.Plan.{owner_from, owner_of, origin_of, DriverQuestion, question_with, owner_question, question_at}
use Rattle.usb_machine.specs.Completion.{after_window}
use Rattle.usb_line.specs.Shows.{rank}
use Rattle.usb_trace.specs.Devices.{IsApt}
use Rattle.usb_line.specs.Back.{CanPose, CanPoseAny}
use Rattle.usb_trace.proofs.Homes.{has_home, home_shape}
use Rattle.usb_trace.proofs.Owners.{owner_at, owner_bound, owner_ctl}
use Rattle.usb_line.proofs.OnInterface.{ctl_apt}
use Rattle.std.proofs.lemmas.Bool.{eq-eqb}

-- the driver that has the URB is a printer's, and has it for no control transfers; the question is asked with its URB for these
pub record IsAskedBy (s : Scene) (u : ℕ) (a : DriverQuestion) : Type 0 where
  pub owner : Owner
  pub owns : owner_of s u ≡ Some owner
  pub off : is_ctl owner.role ≡ false
  pub ctl : owner.ctl ≡ Some (record { 0 = a.urb })
  pub askable : IsAskable owner.driver a.transfer

with_parts : (urb : Option UrbId) (q : Option Transfer) (a : DriverQuestion) → question_with urb q ≡ Some a → (urb ≡ Some (record { 0 = a.urb })) × (q ≡ Some a.transfer)
with_parts (Some urb) (Some t) a is =
    let same : ◌≡◌ {A = DriverQuestion} (record { urb = urb.0; transfer = t }) a = cc in
    (ap (λ (x : DriverQuestion). Some (record { 0 = x.urb })) same, ap (λ (x : DriverQuestion). Some x.transfer) same)
with_parts None q a is = cc
with_parts (Some urb) None a is = cc

pub asked_by : (s : Scene) (u : ℕ) (a : DriverQuestion) → question_at s u ≡ Some a → IsAskedBy s u a
unfolding question_at
asked_by s u a is = go (owner_of s u) refl is
  where
    some : (o : Owner) → owner_of s u ≡ Some o → (b : Bool) → is_ctl o.role ≡ b → cond b None (question_with o.ctl (question_by o.driver (origin_of s o.place))) ≡ Some a → IsAskedBy s u a
    some o owns true off is = cc
    some o owns false off is =
        let parts = with_parts o.ctl (question_by o.driver (origin_of s o.place)) a is in
        record { owner = o; owns = owns; off = off; ctl = parts.0; askable = question_askable o.driver (origin_of s o.place) a.transfer parts.1 }

    go : (o : Option Owner) → owner_of s u ≡ o → owner_question s o ≡ Some a → IsAskedBy s u a
    go None owns is = cc
    go (Some o) owns is = some o owns (is_ctl o.role) refl is

-- what is found somewhere
found : {X : Type 0} (p : X → Bool) (xs : List X) (k : ℕ) (x : X) → slice_get xs k ≡ Some x → p x ≡ true → (y : X) × (find p xs ≡ Some y)
found p [] k x at is = cc
found {X} p (y ∷ xs) k x at is = go (p y) refl (λ j there. found p xs j x there is)
  where
    later : (k : ℕ) → p y ≡ false → slice_get (y ∷ xs) k ≡ Some x → ((j : ℕ) → slice_get xs j ≡ Some x → (z : X) × (find p xs ≡ Some z)) → (z : X) × (find p xs ≡ Some z)
    later zero off here rest = let same : y ≡ x = cc in absurd (true≢false (sym is ∙ (ap p (sym same) ∙ off)))
    later (suc k) off there rest = rest k there

    go : (b : Bool) → p y ≡ b → ((j : ℕ) → slice_get xs j ≡ Some x → (z : X) × (find p xs ≡ Some z)) → (z : X) × (cond b (Some y) (find p xs) ≡ Some z)
    go true e rest = (y, refl)
    go false e rest = later k e at rest

-- a binding that has the URB for control transfers has it
ctl_role : (v : ℕ) (b : Bound) → urb_of_role b Ctl ≡ Some (record { 0 = v }) → (r : Role) × (role_in v b ≡ Some r)
ctl_role v b has = found (has_for v b) all_roles 5 Ctl refl (ap (λ o. option_map_or (λ (urb : UrbId). eqb urb.0 v) o false) has ∙ eq-eqb v v refl)

-- and so the URB has an owner
some_owner : (board : BoardValue) (k : ℕ) (bindings : List Bound) (v j : ℕ) (b : Bound) (r : Role) → slice_get bindings j ≡ Some b → role_in v b ≡ Some r → (w : Owner) × (owner_from board k bindings v ≡ Some w)
some_owner board k [] v j b r at has = cc
some_owner board k (x ∷ bindings) v j b r at has = go (role_in v x) refl (λ i there. some_owner board (k + 1) bindings v i b r there has)
  where
    later : (j : ℕ) → role_in v x ≡ None → slice_get (x ∷ bindings) j ≡ Some b → ((i : ℕ) → slice_get bindings i ≡ Some b → (w : Owner) × (owner_from board (k + 1) bindings v ≡ Some w))
        → (w : Owner) × (owner_from board (k + 1) bindings v ≡ Some w)
    later zero off here rest = let same : x ≡ b = cc in let none : ◌≡◌ {A = Option Role} None (Some r) = sym off ∙ (ap (role_in v) same ∙ has) in cc
    later (suc j) off there rest = rest j there

    go : (o : Option Role) → role_in v x ≡ o → ((i : ℕ) → slice_get bindings i ≡ Some b → (w : Owner) × (owner_from board (k + 1) bindings v ≡ Some w))
        → (w : Owner) × (option_map_or (owner_at board k x) o (owner_from board (k + 1) bindings v) ≡ Some w)
    go None e rest = later j e at rest
    go (Some role) e rest = (_, refl)

module _ (s : Scene) (good : IsWellFormed s) (u : ℕ) (a : DriverQuestion) (is : question_at s u ≡ Some a) where
  abbrev by : IsAskedBy s u a
  by = asked_by s u a is

  -- the owner's binding has the URB for control transfers
  bound : (b : Bound) × (slice_get (bindings_of s) by.owner.place ≡ Some b) × (role_in u b ≡ Some by.owner.role) × (urb_of_role b Ctl ≡ Some (record { 0 = a.urb }))
  bound = let b = owner_bound s u by.owner by.owns in (b.0, b.1, b.3, sym (owner_ctl s u by.owner by.owns) ∙ by.ctl)

  near : a.urb < urb_count s
  near = (bound_near s good by.owner.place bound.0 Ctl record { 0 = a.urb } bound.1 bound.3).1

  -- which is not the one that came back
  apart : a.urb ≢ u
  apart same =
      let here : urb_of_role bound.0 Ctl ≡ Some (record { 0 = u }) = bound.3 ∙ ap (λ (n : ℕ). Some (record { 0 = n })) same in
      let one = urb_once s good by.owner.place by.owner.place bound.0 bound.0 Ctl by.owner.role record { 0 = u } bound.1 bound.1 here (role_has u bound.0 by.owner.role bound.2) in
      true≢false (ap is_ctl one.1 ∙ by.off)

  -- the URB that it is asked with may have the question
  pub asking_apt : IsApt s a.urb a.transfer
  asking_apt = ctl_apt s good by.owner.place bound.0 a.urb bound.1 bound.3 a.transfer by.askable.request

  -- the URB that a driver's question is asked with is there, has its home, and is another one
  pub can_pose : CanPose s u a
  can_pose = record {
    apart = apart;
    has = has_home s good a.urb near;
    window = by.askable.window;
    unmoved = by.askable.unmoved;
    home = home_shape s good a.urb near;
    bare = asking_apt.bare;
  }

  owned : (w : Owner) × (owner_of s a.urb ≡ Some w)
  unfolding owner_of
  owned =
      let role = ctl_role a.urb bound.0 bound.3 in
      some_owner (probes_of s).board 0 (bindings_of s) a.urb by.owner.place bound.0 role.0 bound.1 role.1

  -- the printer's driver has it, for control transfers
  pub asking_owner : (o : Owner) × (w : Owner) × (owner_of s u ≡ Some o) × (owner_of s a.urb ≡ Some w) × (w.place ≡ o.place) × (w.role ≡ Ctl) × (o.driver ≡ Printer)
  asking_owner =
      let own = owner_bound s a.urb owned.0 owned.1 in
      let one = urb_once s good owned.0.place by.owner.place own.0 bound.0 owned.0.role Ctl record { 0 = a.urb } own.1 bound.1 (role_has a.urb own.0 owned.0.role own.3) bound.3 in
      (by.owner, owned.0, by.owns, owned.1, one.0, one.1, by.askable.printer)

pub can_pose_any : (s : Scene) → IsWellFormed s → (u : ℕ) → CanPoseAny s u (question_at s u)
can_pose_any s good u = go (question_at s u) refl
  where
    go : (o : Option DriverQuestion) → question_at s u ≡ o → CanPoseAny s u o
    go None is = tt
    go (Some a) is = can_pose s good u a is

asked_rank : (s : Scene) → IsWellFormed s → (u : ℕ) (a : DriverQuestion) → question_at s u ≡ Some a → rank (owner_of s a.urb) ≡ 1
asked_rank s good u a is = let x = asking_owner s good u a is in ap rank x.3 ∙ ap (λ role. cond {A = ℕ} (is_ctl role) 1 2) x.5

-- the URB of a job weighs more than the one that the question is asked with, and the question fills its buffer
pub asking_weighs : (s : Scene) → IsWellFormed s → (u : ℕ) (a : DriverQuestion) → question_at s u ≡ Some a → (rank (owner_of s u) ≡ 2) × (rank (owner_of s a.urb) ≡ 1) × (after_window a.transfer ≡ 0)
asking_weighs s good u a is =
    let by = asked_by s u a is in (
      ap rank by.owns ∙ ap (λ b. cond {A = ℕ} b 1 2) by.off,
      asked_rank s good u a is,
      (let all = by.askable.all in omega arith),
    )
