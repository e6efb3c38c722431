-- What a printer's driver hears of its writes is what comes back with their URB.
use Rattle.std.proofs.Common.{ℕ, ◌≡◌, ◌≢◌, cond, eqb, Option, Some, None, List, [], ◌∷◌, filter, refl, sym, ap, ◌∙◌, subst, eq-eqb}
use Rattle.std.specs.Prelude.{slice_get, option_and_then}
use Rattle.std.specs.List.{cons_option}
use Rattle.usb_types.specs.declared.urb.UrbId.{UrbId}
use Rattle.usb_types.specs.declared.urb.Role.{Role}
use Rattle.usb_types.specs.declared.urb.Role.TheVariants.{Write}
use Rattle.usb_machine.specs.Completion.{Completion}
use Rattle.usb_machine.proofs.Places.{by_test}
use Rattle.usb_bind.specs.declared.bound.Bound.{Bound}
use Rattle.usb_bind.specs.Board.{urb_of_role}
use Rattle.usb_scene.specs.declared.scene.Scene.{Scene}
use Rattle.usb_prepare.specs.Prepared.{bindings_of}
use Rattle.usb_class.specs.declared.owner.Owner.{Owner}
use Rattle.usb_trace.specs.Plan.{owner_of}
use Rattle.usb_trace.specs.Run.{Giveback, moved_in, done_in, done_at}
use Rattle.usb_trace.specs.RunLaws.{is_write, write_of, writes_of, writes_heard, IsForWrites}
use Rattle.usb_trace.proofs.Owners.{owner_bound, owner_urb}

module _ (s : Scene) (u : ℕ) (writer : IsForWrites s u) where
  abbrev k : ℕ
  k = writer.owner.place

  -- the binding has one URB for writes
  same_urb : (v : ℕ) (o : Owner) → owner_of s v ≡ Some o → o.place ≡ k → o.role ≡ Write → v ≡ u
  same_urb v o is place role =
      let a = owner_bound s v o is in
      let b = owner_bound s u writer.owner writer.owned in
      let found : Some a.0 ≡ Some b.0 = sym a.1 ∙ (ap (slice_get (bindings_of s)) place ∙ b.1) in
      let bound : a.0 ≡ b.0 = cc in
      let one : urb_of_role a.0 Write ≡ Some (record { 0 = v }) = subst (λ r. urb_of_role a.0 r ≡ Some (record { 0 = v })) role (owner_urb s v o is) in
      let two : urb_of_role b.0 Write ≡ Some (record { 0 = u }) = subst (λ r. urb_of_role b.0 r ≡ Some (record { 0 = u })) writer.role (owner_urb s u writer.owner writer.owned) in
      let v_id : UrbId = record { 0 = v } in
      let u_id : UrbId = record { 0 = u } in
      let both : Some v_id ≡ Some u_id = sym one ∙ (ap (λ (x : Bound). urb_of_role x Write) bound ∙ two) in
      let ids : v_id ≡ u_id = cc in
      ap (λ (x : UrbId). x.0) ids

  abbrev hears : List Completion → List Completion
  hears done = filter (λ (c : Completion). is_write c.role) done

  module _ (r : Giveback) (done : List Completion) (more : List Giveback) (old : hears done ≡ writes_of s more) where
    abbrev done_as : Role → Completion
    done_as role = record { role = role; status = r.status; transfer = moved_in s r }

    abbrev done_by : Option Owner → Option Completion
    done_by o = option_and_then (λ (o : Owner). cond (eqb o.place k) (Some (done_as o.role)) None) o

    own : r.urb ≡ u → hears (cons_option (done_in s k r) done) ≡ write_of s r ∷ writes_of s more
    own same =
        let said : done_by (owner_of s r.urb) ≡ Some (done_as writer.owner.role)
        = ap done_by (ap (owner_of s) same ∙ writer.owned) ∙ ap (λ b. cond b (Some (done_as writer.owner.role)) None) (eq-eqb k k refl) in
        ap (λ x. hears (cons_option x done)) said
        ∙ (ap (λ role. hears (done_as role ∷ done)) writer.role
        ∙ ap (λ l. write_of s r ∷ l) old)

    other : r.urb ≢ u → hears (cons_option (done_in s k r) done) ≡ writes_of s more
    other off = go (owner_of s r.urb) refl
      where
        roles : (o : Owner) → owner_of s r.urb ≡ Some o → o.place ≡ k → (role : Role) → o.role ≡ role → hears (done_as role ∷ done) ≡ writes_of s more
        roles o is place Write e = absurd (off (same_urb r.urb o is place e))
        roles o is place _ e = old

        go : (o : Option Owner) → owner_of s r.urb ≡ o → hears (cons_option (done_by o) done) ≡ writes_of s more
        go None is = old
        go (Some o) is = by_test o.place k (λ b. hears (cons_option (cond b (Some (done_as o.role)) None) done) ≡ writes_of s more)
            (λ place. roles o is place o.role refl)
            (λ _. old)

    one_heard : hears (cons_option (done_in s k r) done) ≡ writes_of s (cond (eqb r.urb u) (r ∷ more) more)
    one_heard = by_test r.urb u (λ b. hears (cons_option (done_in s k r) done) ≡ writes_of s (cond b (r ∷ more) more)) own other

  heard_all : (rounds : List Giveback) → hears (done_at s k rounds) ≡ writes_of s (filter (λ (r : Giveback). eqb r.urb u) rounds)
  heard_all [] = refl
  heard_all (r ∷ rounds) = one_heard r (done_at s k rounds) (filter (λ (r : Giveback). eqb r.urb u) rounds) (heard_all rounds)

  pub are_heard : (rounds : List Giveback) → writes_heard s k rounds ≡ writes_of s (filter (λ (r : Giveback). eqb r.urb u) rounds)
  are_heard rounds = heard_all rounds
