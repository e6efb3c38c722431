-- What the run's object shows of an URB that is pending.
use Rattle.std.proofs.Common.{ℕ, ◌≡◌, ◌<◌, Bool, true, false, cond, eqb, Option, Some, None, List, length, refl, sym, ap, ◌∙◌, subst, arith, eq-eqb, true≢false}
use Rattle.std.specs.Prelude.{slice_get, slice_set}
use Rattle.std.proofs.lemmas.List.{length-set}
use Rattle.std.proofs.lemmas.Option.{slice_get_within}
use mathlib.Core.Logic.{dite}
use native.Mathlib.Decide.{ℕ_discrete}
use Rattle.usb_types.specs.declared.errno.Errno.{Errno}
use Rattle.usb_types.specs.declared.errno.Errno.TheVariants.{EMSGSIZE, EINVAL}
use Rattle.usb_machine.specs.declared.layout.Shape.{Shape}
use Rattle.usb_machine.specs.declared.transfer.Transfer.{Transfer}
use Rattle.usb_machine.specs.Shapes.{HasWindow, Accepts, setup_fault, lacks_service, else_fault, shape_fault}
use Rattle.usb_machine.specs.History.{state_of, pending_of}
use Rattle.usb_machine.specs.Plain.{urbs_of, ends_of}
use Rattle.usb_machine.proofs.Sent.{queued_is_sent}
use Rattle.usb_xfer.proofs.Windows.{moved_window}
use Rattle.usb_class.specs.declared.class_core.Core.{Core}
use Rattle.usb_scene.specs.declared.scene.Scene.{Scene}
use Rattle.usb_scene.specs.WellFormed.{IsWellFormed}
use Rattle.usb_class.specs.declared.owner.Owner.{Owner}
use Rattle.usb_line.specs.declared.run.UrbRow.{UrbRow}
use Rattle.usb_line.specs.declared.run.LineRun.{LineRun}
use Rattle.usb_prepare.specs.Ends.{shape_at}
use Rattle.usb_prepare.specs.Layout.{urb_count, home}
use Rattle.usb_trace.specs.Plan.{machine_of}
use Rattle.usb_line.specs.Line.{Progress, replies_had}
use Rattle.usb_line.specs.Shows.{IsMoving, HoldsTransfer, Shows}
use Rattle.usb_line.specs.Back.{CanAsk, CanGiveBack}
use Rattle.usb_class.specs.Handlers.{CanNote}
use Rattle.usb_trace.proofs.Homes.{home_shape}
use Rattle.usb_prepare.proofs.Facts.{home_near}
use Rattle.usb_device.proofs.Lookups.{each_set}
use Rattle.usb_line.proofs.Lookups.{set_read}
use Rattle.usb_line.proofs.Cores.{row_core, row_asks}
use Rattle.usb_line.proofs.Scanning.{pending_known}

-- an endpoint that takes a transfer has packets of some size
pub accepted_size : (shape : Shape) (t : Transfer) → shape_fault shape t ≡ None → 0 < shape.max
accepted_size shape t e = go (setup_fault shape.kind t.setup t.len) (eqb shape.max 0) refl e
  where
    go : (o : Option Errno) (b : Bool) → eqb shape.max 0 ≡ b → else_fault o (cond b (Some EMSGSIZE) (cond (lacks_service shape.kind shape.interval) (Some EINVAL) None)) ≡ None → 0 < shape.max
    go (Some x) b is e = cc
    go None true is e = cc
    go None false is e = dite (ℕ_discrete shape.max 0) (λ none. absurd (true≢false (sym (eq-eqb shape.max 0 none) ∙ is))) (λ some. omega arith)

module _ (s : Scene) (f : Progress) (run : LineRun) (old : Shows s f run) where
  -- the machine has the scene's URBs and endpoints
  pub same_urbs : urbs_of run.plain ≡ length run.urbs.items
  same_urbs = let a = old.stands.urbs in let c = old.all_urbs in omega arith

  pub same_ends : ends_of run.plain ≡ length run.ends.items
  same_ends = let a = old.stands.ends in let b = old.all_ends in omega arith

  -- a transfer that is held, as it was sent
  pub record IsHeld (u : ℕ) (t : Transfer) : Type 0 where
    pub near : u < urb_count s
    pub queued : (state_of f.history u).queued ≡ true
    pub moving : IsMoving s f u t
    pub sent_window : HasWindow moving.start
    pub taken : Accepts (slice_get (machine_of s).layout.shapes (home s u)) moving.start
    pub window : HasWindow t

  pub held_transfer : (u : ℕ) (row : UrbRow) (t : Transfer) → slice_get run.urbs.items u ≡ Some row → Some t ≡ row.transfer → IsHeld u t
  held_transfer u row t at is =
      let near : u < urb_count s = (let l = slice_get_within run.urbs.items u row at in let n = old.all_urbs in omega arith) in
      let holds = subst (HoldsTransfer s f u) (sym is) (old.each_urb u row at).holds in
      let sent = queued_is_sent (machine_of s) u f.history old.stands.legal holds.0 in
      let both = sym sent.is ∙ holds.1.sent in let same : sent.transfer ≡ holds.1.start = cc in
      let window = subst HasWindow same sent.window in record {
        near = near;
        queued = holds.0;
        moving = holds.1;
        sent_window = window;
        taken = subst (Accepts (slice_get (machine_of s).layout.shapes (home s u))) same sent.taken;
        window = subst HasWindow (sym holds.1.moving) (moved_window (shape_at s (home s u)) holds.1.start (replies_had s f u) window);
      }

  -- an URB that is queued has its transfer
  pub queued_holds : (u : ℕ) (row : UrbRow) → slice_get run.urbs.items u ≡ Some row → (state_of f.history u).queued ≡ true → row.transfer ≡ None → ⊥
  queued_holds u row at queued none = true≢false (sym queued ∙ subst (HoldsTransfer s f u) none (old.each_urb u row at).holds)

  -- a pending URB is one of the run's, at its home
  pub pending_near : (e k u : ℕ) → slice_get (pending_of (machine_of s) f.history e) k ≡ Some u → u < length run.urbs.items
  pending_near e k u is = let l = pending_known run.plain (machine_of s) f.history e k u old.stands is in let n = same_urbs in omega arith

  module _ (good : IsWellFormed s) where
    pub row_home : (u : ℕ) (row : UrbRow) → slice_get run.urbs.items u ≡ Some row → row.home < length run.ends.items
    row_home u row at =
        let near : u < urb_count s = (let l = slice_get_within run.urbs.items u row at in let n = old.all_urbs in omega arith) in
        let l = home_near s good u near in let same = (old.each_urb u row at).at in let n = old.all_ends in omega arith

    pub held_size : (u : ℕ) (t : Transfer) → IsHeld u t → 0 < (shape_at s (home s u)).max
    held_size u t is = accepted_size (shape_at s (home s u)) is.moving.start (subst (λ o. Accepts o is.moving.start) (home_shape s good u is.near) is.taken)

pub can_bring : (s : Scene) (f : Progress) (run mid : LineRun) (old : Shows s f run) → IsWellFormed s → (u : ℕ) (row : UrbRow) → slice_get run.urbs.items u ≡ Some row
    → mid.urbs.items ≡ slice_set run.urbs.items u (record row { transfer = None }) → length mid.ends.items ≡ length run.ends.items → mid.plain ≡ run.plain → mid.cores ≡ run.cores → CanGiveBack mid u
can_bring s f run mid old good u row at rows ends plain cores =
    let near = slice_get_within run.urbs.items u row at in
    let all = same_urbs s f run old in
    let here : urbs_of mid.plain ≡ urbs_of run.plain = ap urbs_of plain in
    let long = length-set run.urbs.items u (record row { transfer = None }) in
    let long_mid : length mid.urbs.items ≡ length (slice_set run.urbs.items u (record row { transfer = None })) = ap (λ (l : List UrbRow). length l) rows in
    let below = row_home s f run old good u row at in record {
      known = omega arith;
      there = omega arith;
      home = λ x is. (let same = ap (λ (x : UrbRow). x.home) (set_read run.urbs.items mid.urbs.items u (record row { transfer = None }) x rows is) in omega arith);
      core = λ x is. (let same = ap (λ (x : UrbRow). x.owner) (set_read run.urbs.items mid.urbs.items u (record row { transfer = None }) x rows is) in
          subst (λ (o : Option Owner). CanNote mid.cores.items o) (sym same) (subst (λ (l : List Core). CanNote l row.owner) (λ i. (sym cores i).items) (row_core s f run old u row at)));
      asks = λ x is. (let same = ap (λ (x : UrbRow). x.owner) (set_read run.urbs.items mid.urbs.items u (record row { transfer = None }) x rows is) in
          subst (CanAsk mid) (sym same) (λ urb has.
          let a = row_asks s good f run old u row at urb has in (
            subst (λ n. urb.0 < n) (sym (long_mid ∙ long)) a.0,
            subst (λ n. urb.0 < n) (sym here) a.1,
            λ y there. subst (λ n. y.home < n) (sym ends)
                (each_set (λ v (z : UrbRow). z.home < length run.ends.items) (λ v (z : UrbRow). z.home < length run.ends.items) run.urbs.items mid.urbs.items u (record row { transfer = None }) rows
                (λ v z at. row_home s f run old good v z at) (row_home s f run old good u row at) (λ v z off l. l) urb.0 y there),
          )));
    }
