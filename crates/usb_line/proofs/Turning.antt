-- The look at an endpoint whose first pending transfer is moved on.
use Rattle.std.proofs.Common.{ℕ, ◌≡◌, ◌<◌, ◌≤◌, true, false, Option, Some, None, List, [], ◌∷◌, length, sym, ap, ◌∙◌, subst, arith}
use Rattle.std.specs.Prelude.{slice_get}
use Rattle.usb_types.specs.declared.errno.Code.{Code}
use Rattle.usb_machine.specs.declared.layout.Shape.{Shape}
use Rattle.usb_machine.specs.declared.transfer.Transfer.{Transfer}
use Rattle.usb_machine.specs.Shapes.{HasWindow}
use Rattle.usb_machine.specs.History.{state_of, pending_of}
use Rattle.usb_scene.specs.declared.scene.Scene.{Scene}
use Rattle.usb_scene.specs.WellFormed.{IsWellFormed}
use Rattle.usb_line.specs.declared.run.EndRow.{EndRow}
use Rattle.usb_line.specs.declared.run.LineRun.{LineRun}
use Rattle.usb_prepare.specs.Ends.{shape_at}
use Rattle.usb_prepare.specs.Layout.{home}
use Rattle.usb_prepare.proofs.Facts.{home_near, end_device}
use Rattle.usb_trace.specs.Plan.{machine_of}
use Rattle.usb_line.specs.Line.{Progress, marked_of}
use Rattle.usb_line.specs.Shows.{Shows, turns_left}
use Rattle.usb_line.specs.Back.{GaveBack, CanGiveBack}
use Rattle.usb_line.specs.Turned.{TakesOut, MovedOn, FallsAsleep, FirstAwake, EndsAt, PassesBy}
use Rattle.usb_line.proofs.Scanning.{pending_is_queued_at}
use Rattle.usb_line.proofs.Unlinking.{first_is}
use Rattle.usb_line.proofs.Pendings.{IsHeld, held_transfer, held_size, queued_holds, can_bring}
use Rattle.usb_line.proofs.Moving.{ends_at, ended_falls, passes_waiting, waiting_keeps}

module _ (s : Scene) (good : IsWellFormed s) (f : Progress) (run mid : LineRun) (old : Shows s f run) (ep u : ℕ) (awake : FirstAwake s f ep (Some u)) where
  here : ep ≡ home s u
  here = (pending_is_queued_at (machine_of s) f.history ep 0 u old.stands.legal awake.1).0

  queued : (state_of f.history u).queued ≡ true
  queued = (pending_is_queued_at (machine_of s) f.history ep 0 u old.stands.legal awake.1).1

  -- the first pending URB has a transfer
  pub not_missing : TakesOut run mid u None → ⊥
  not_missing out = queued_holds s f run old u out.row out.at queued (sym out.is)

  module _ (t : Transfer) (out : TakesOut run mid u (Some t)) where
    has : IsHeld s f run old u t
    has = held_transfer s f run old u out.row t out.at out.is

    pub has_window : HasWindow t
    has_window = has.window

    pub has_size : (end : EndRow) → slice_get mid.ends.items ep ≡ Some end → 0 < end.shape.max
    has_size end at =
        let shape : end.shape ≡ shape_at s (home s u) = (old.each_end ep end ((λ i. slice_get (sym out.same_ends i).items ep) ∙ at)).is ∙ ap (shape_at s) here in
        subst (λ (x : Shape). 0 < x.max) (sym shape) (held_size s f run old good u t has)

    pub has_device : (end : EndRow) → slice_get mid.ends.items ep ≡ Some end → end.shape.device < length mid.devices.items
    has_device end at =
        let shape : end.shape ≡ shape_at s (home s u) = (old.each_end ep end ((λ i. slice_get (sym out.same_ends i).items ep) ∙ at)).is ∙ ap (shape_at s) here in
        let near = end_device s good (home s u) (home_near s good u has.near) in
        let device = ap (λ (x : Shape). x.device) shape in
        let all = old.devices.all in
        let same : length mid.devices.items ≡ length run.devices.items = (λ i. length (out.same_devices i).items) in
        omega arith

    module _ (on : LineRun) (now : Transfer) (code : Option Code) (moves : MovedOn mid on ep t now code) where
      moves_home : MovedOn mid on (home s u) t now code
      moves_home = subst (λ e. MovedOn mid on e t now code) here moves

      first : (others : List ℕ) × (pending_of (machine_of s) f.history (home s u) ≡ u ∷ others)
      first = first_is (pending_of (machine_of s) f.history (home s u)) u (ap (λ e. slice_get (pending_of (machine_of s) f.history e) 0) (sym here) ∙ awake.1)

      awake_home : f.asleep (home s u) ≡ false
      awake_home = ap f.asleep (sym here) ∙ awake.0

      -- it can come back
      pub moved_can_bring : CanGiveBack on u
      moved_can_bring = can_bring s f run on old good u out.row out.at ((λ i. (moves.same_urbs i).items) ∙ out.rows)
          ((λ i. length (moves.same_ends i).items) ∙ (λ i. length (out.same_ends i).items)) (moves.same.plain ∙ out.same.plain) (moves.same.cores ∙ out.same.cores)

      module _ (is : None ≡ code) (new : LineRun) (sleeps : FallsAsleep on new ep u now) where
        sleeps_home : FallsAsleep on new (home s u) u now
        sleeps_home = subst (λ e. FallsAsleep on new e u now) here sleeps

        pub by_waiting : PassesBy s f ep new
        by_waiting = subst (λ e. PassesBy s f e new) (sym here) (passes_waiting s good f run mid on old u t now first.0 first.1 out code moves_home is new sleeps_home awake_home)

        pub keeps_waiting : turns_left new ≤ turns_left run
        keeps_waiting = waiting_keeps s good f run mid on old u t now first.0 first.1 out code moves_home is new sleeps_home

      module _ (ending : Code) (is : code ≡ Some ending) (new : LineRun) (back : GaveBack on new u (Some ending) now) (unmarked : marked_of s f.history ≡ []) where
        pub by_ending : EndsAt s f ep new
        by_ending = subst (λ e. EndsAt s f e new) (sym here) (ends_at s good f run mid on old u t now first.0 first.1 out code moves_home ending is new back unmarked awake_home)

        pub falls_ending : turns_left new < turns_left run
        falls_ending = ended_falls s good f run mid on old u t now first.0 first.1 out code moves_home ending is new back unmarked awake_home
